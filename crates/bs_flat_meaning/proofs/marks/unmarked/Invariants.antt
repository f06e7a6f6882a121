use Rattle.std.proofs.Common.{◌≡◌, not, false, get_or}
use Rattle.std.specs.Prelude.{filter}
use Rattle.std.specs.List.{range_with_len}
use Rattle.bs_flat_meaning.proofs.marks.unmarked.Given as goal

abbrev pub invariant-modules : goal.invariant-modules
invariant-modules l = l.all ≡ filter (λ k. not (get_or l.marks k false)) (range_with_len 0 l.module)
