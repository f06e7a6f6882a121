use Rattle.std.proofs.Common.{drop}
use Rattle.bs_rup.specs.TrueLiterals.{IsSetFalse}
use Rattle.bs_rup.proofs.trail.set_false.Given as goal

abbrev pub invariant-literals : goal.invariant-literals
invariant-literals l = IsSetFalse (drop l.i l.clause) l.trail l.distinct
