use Rattle.std.proofs.Common.{◌≡◌, drop}
use Rattle.bs_rup.proofs.trail.set_true.Given as goal

abbrev pub invariant-literals : goal.invariant-literals
invariant-literals l = l.trail ≡ drop l.i l.literals
