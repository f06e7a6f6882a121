use Rattle.std.proofs.Common.{◌≡◌, take}
use Rattle.bs_inspect_seen.specs.Given.{greatest}
use Rattle.bs_inspect_seen.proofs.numbers.greatest.Given as goal

abbrev pub invariant-numbers : goal.invariant-numbers
invariant-numbers l = l.greatest ≡ greatest (take l.number-index l.numbers)
