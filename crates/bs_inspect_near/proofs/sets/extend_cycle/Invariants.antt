use Rattle.std.proofs.Common.{◌≡◌, ◌*◌, length}
use Rattle.bs_net.specs.Netlist.{circuit}
use Rattle.bs_stim.specs.Runs.{inputs_of}
use Rattle.bs_inspect_near.specs.Shown.{AreSets}
use Rattle.bs_inspect_near.specs.Known.{all_places}
use Rattle.bs_inspect_near.proofs.sets.extend_cycle.Given as goal

abbrev pub invariant-words : goal.invariant-words
invariant-words l = record {
  size : length l.words.items ≡ length (circuit l.run.net.now).flops;
  sets : AreSets (circuit l.run.net.now) (inputs_of l.run.runs.now) l.run.number (all_places l.signals) l.cycle 0 (l.word * 64) 0 l.sets.items;
}
