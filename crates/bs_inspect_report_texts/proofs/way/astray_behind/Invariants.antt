use Rattle.std.proofs.Common.{◌≡◌, ◌+◌}
use Rattle.bs_net.specs.Netlist.{circuit}
use Rattle.bs_scan.specs.Moments.{state_at}
use Rattle.bs_inspect_report_texts.specs.Driven.{GoesThrough}
use Rattle.bs_inspect_report_texts.proofs.way.astray_behind.Given as goal

abbrev pub invariant-states : goal.invariant-states
invariant-states l = record {
  net : l.sim.net ≡ l.initial.sim.net;
  at : l.sim.state ≡ state_at (circuit l.initial.sim.net) l.inputs (l.cycles + l.i);
  through : GoesThrough (circuit l.initial.sim.net) l.inputs l.cycles l.states (l.i + 1);
}
