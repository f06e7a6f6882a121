use Rattle.std.proofs.Common.{◌≡◌, take, map, length}
use Rattle.bs_net.specs.Circuit.{loaded}
use Rattle.bs_sim.proofs.valuation.load.Given as goal

abbrev pub invariant-loop-i : goal.invariant-loop-i
invariant-loop-i l = record {
  wide : length l.state ≡ length l.flops;
  so_far : take l.i l.state ≡ map (loaded l.values) (take l.i l.flops);
}
