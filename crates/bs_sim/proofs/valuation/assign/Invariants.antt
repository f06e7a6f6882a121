use Rattle.std.proofs.Common.{◌≡◌, take, length}
use Rattle.bs_sim.proofs.valuation.assign.Given as goal

abbrev pub invariant-loop-i : goal.invariant-loop-i
invariant-loop-i l = record {
  wide : length l.into ≡ length l.from;
  so_far : take l.i l.into ≡ take l.i l.from;
}
