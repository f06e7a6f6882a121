use Rattle.std.proofs.Common.{◌≡◌, ◌≤◌, ◌+◌, length}
use Rattle.bs_net.specs.Netlist.{circuit}
use Rattle.bs_stim.specs.Runs.{inputs_of}
use Rattle.bs_inspect_near.specs.Shown.{AreSets}
use Rattle.bs_inspect_near.specs.Known.{all_places}
use Rattle.bs_inspect_near.proofs.sets.extend_cycles.Given as goal

abbrev pub invariant-cycles : goal.invariant-cycles
invariant-cycles l = record {
  machine : l.pass.circuit ≡ circuit l.run.net.now;
  runs : l.pass.runs ≡ inputs_of l.run.runs.now;
  behind : l.pass.cycle ≤ l.cycle;
  near : l.cycle ≤ l.pass.cycle + 1;
  size : length l.words.items ≡ length (circuit l.run.net.now).flops;
  sets : AreSets (circuit l.run.net.now) (inputs_of l.run.runs.now) l.run.number (all_places l.signals) l.cycle 0 0 0 l.sets.items;
}
