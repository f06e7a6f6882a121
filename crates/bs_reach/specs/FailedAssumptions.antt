-- What the unrolled clauses alone say of the first lengths.
use Rattle.std.specs.Prelude.{ℕ, ◌+◌, Bool, List, [], ◌∷◌}
use Rattle.bs_scan.specs.declared.seen.Seen.{Seen}
use Rattle.bs_clause.specs.Literal.{Clause}
use Rattle.bs_encode.specs.Encoded.{Encoded}
use Rattle.bs_reach_unrolled.specs.Unrolled.{length_assumes}
use Rattle.bs_solve.specs.declared.failure.FailedAssumption.{FailedAssumption}
use Rattle.bs_solve.specs.Failure.{FailsBy}

-- each lemma ends the step of a length at once, those from c + 1 on, one after another
abbrev pub AreFailedAssumptions : List Clause → Encoded → ℕ → Seen → ℕ → List FailedAssumption → Type 0
AreFailedAssumptions clauses e k p c [] = Unit {0}
AreFailedAssumptions clauses e k p c (d ∷ ds) = FailsBy clauses (length_assumes e k p (c + 1)) d × AreFailedAssumptions clauses e k p (c + 1) ds
