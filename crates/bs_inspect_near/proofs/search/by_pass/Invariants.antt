use Rattle.std.proofs.Common.{◌≡◌, ◌≤◌, ◌+◌}
use Rattle.bs_net.specs.Netlist.{circuit}
use Rattle.bs_stim.specs.Runs.{inputs_of}
use Rattle.bs_inspect_near.specs.Visited.{AreBest}
use Rattle.bs_inspect_near.proofs.search.by_pass.Given as goal

abbrev pub invariant-cycles : goal.invariant-cycles
invariant-cycles l = record {
  machine : l.pass.circuit ≡ circuit l.net;
  runs : l.pass.runs ≡ inputs_of l.runs;
  behind : l.pass.cycle ≤ l.cycle;
  near : l.cycle ≤ l.pass.cycle + 1;
  bests : AreBest (circuit l.net) (inputs_of l.runs) l.states l.cycle l.bests.items;
}
