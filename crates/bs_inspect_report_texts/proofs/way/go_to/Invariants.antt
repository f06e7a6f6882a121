use Rattle.std.proofs.Common.{◌≡◌}
use Rattle.bs_net.specs.Netlist.{circuit}
use Rattle.bs_scan.specs.Moments.{state_at}
use Rattle.bs_inspect_report_texts.proofs.way.go_to.Given as goal

abbrev pub invariant-cycles : goal.invariant-cycles
invariant-cycles l = record {
  net : l.sim.net ≡ l.initial.sim.net;
  at : l.sim.state ≡ state_at (circuit l.initial.sim.net) l.inputs l.cycle;
}
