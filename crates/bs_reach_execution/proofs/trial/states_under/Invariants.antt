use Rattle.std.proofs.Common.{◌≡◌, ◌+◌, map}
use Rattle.std.specs.List.{range_with_len}
use Rattle.bs_net.specs.Netlist.{circuit}
use Rattle.bs_scan.specs.Moments.{state_at}
use Rattle.bs_reach_execution.proofs.trial.states_under.Given as goal

abbrev pub invariant-cycles : goal.invariant-cycles
invariant-cycles l = record {
  net : l.sim.net ≡ l.net;
  state : l.sim.state ≡ state_at (circuit l.net) l.inputs l.i;
  states : l.states ≡ map (state_at (circuit l.net) l.inputs) (range_with_len 0 (l.i + 1));
}
