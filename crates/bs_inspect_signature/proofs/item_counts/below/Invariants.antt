use Rattle.std.proofs.Common.{◌≡◌, take}
use Rattle.std.specs.Prelude.{filter, nat_lt}
use Rattle.bs_inspect_signature.proofs.item_counts.below.Given as goal

abbrev pub invariant-numbers : goal.invariant-numbers
invariant-numbers l = l.own.items ≡ filter (λ n. nat_lt n l.width) (take l.i l.numbers)
