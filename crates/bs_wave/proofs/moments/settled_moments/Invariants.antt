use Rattle.std.proofs.Common.{◌≡◌}
use Rattle.bs_net.specs.Netlist.{circuit}
use Rattle.bs_wave.specs.Making.{AreSettled}
use Rattle.bs_wave.proofs.moments.settled_moments.Given as goal

abbrev pub invariant-moments : goal.invariant-moments
invariant-moments l = record {
  same : l.sim.net ≡ l.net;
  so_far : AreSettled (circuit l.net) l.states l.inputs l.i l.moments;
}
