use Rattle.bs_net.specs.Netlist.{circuit}
use Rattle.bs_stim.specs.Runs.{inputs_of}
use Rattle.bs_inspect_near.specs.Shown.{AreSets}
use Rattle.bs_inspect_near.specs.Known.{all_places}
use Rattle.bs_inspect_near.proofs.sets.extend_all.Given as goal

abbrev pub invariant-signals : goal.invariant-signals
invariant-signals l = AreSets (circuit l.run.net.now) (inputs_of l.run.runs.now) l.run.number (all_places l.signals) l.column.cycle l.i l.column.first 64 l.sets.items
