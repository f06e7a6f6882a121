use Rattle.std.proofs.Common.{map}
use Rattle.bs_net.specs.Netlist.{circuit}
use Rattle.bs_inspect_view.specs.Signals.{signal_in}
use Rattle.bs_stim.specs.Runs.{inputs_of}
use Rattle.bs_inspect_near.specs.Novelties.{AreNovelties}
use Rattle.bs_inspect_near.proofs.novelty.novelties_of.Given as goal

abbrev pub invariant-signals : goal.invariant-signals
invariant-signals l = AreNovelties (circuit l.run.net.now) (inputs_of l.run.runs.now) l.run.number (map signal_in l.signals) l.i l.novelties.items
