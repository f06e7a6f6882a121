use Rattle.std.proofs.Common.{◌≡◌, replicate, false}
use Rattle.bs_sim.proofs.valuation.zeros.Given as goal

abbrev pub invariant-loop-i : goal.invariant-loop-i
invariant-loop-i l = l.bits ≡ replicate l.i false
