use Rattle.std.proofs.Common.{◌≡◌, ◌≤◌, ◌+◌}
use Rattle.bs_net.specs.Netlist.{circuit}
use Rattle.bs_stim.specs.Runs.{inputs_of}
use Rattle.bs_inspect_near.proofs.OwnLemmas.{OwnSo}
use Rattle.bs_inspect_near.proofs.run_states.push_states.Given as goal

abbrev pub invariant-cycles : goal.invariant-cycles
invariant-cycles l = record {
  machine : l.pass.circuit ≡ circuit l.run.net.now;
  runs : l.pass.runs ≡ inputs_of l.run.runs.now;
  behind : l.pass.cycle ≤ l.cycle;
  near : l.cycle ≤ l.pass.cycle + 1;
  own : OwnSo (circuit l.run.net.now) (inputs_of l.run.runs.now) l.run.number l.cycle l.own;
}
