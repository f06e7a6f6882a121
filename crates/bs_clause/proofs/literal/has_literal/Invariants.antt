use Rattle.std.proofs.Common.{◌≡◌, false, take}
use Rattle.bs_clause.specs.Literal.{has_literal}
use Rattle.bs_clause.proofs.literal.has_literal.Given as goal

abbrev pub invariant-loop-other : goal.invariant-loop-other
invariant-loop-other l = has_literal (take l.other-index l.clause) l.literal ≡ false
