use Rattle.std.proofs.Common.{◌≡◌, ◌++◌, map, take}
use Rattle.std.specs.List.{flat_map}
use Rattle.bs_net.specs.Netlist.{circuit}
use Rattle.bs_inspect_view.specs.Signals.{signal_in}
use Rattle.bs_stim.specs.Runs.{inputs_of}
use Rattle.bs_inspect_near.specs.Novel.{novelty_line}
use Rattle.bs_inspect_near.proofs.novel_line.push_novelties.Given as goal

abbrev pub invariant-novelties : goal.invariant-novelties
invariant-novelties l = l.text.items ≡ l.initial.text.items ++
    flat_map (novelty_line (circuit l.run.net.now) (inputs_of l.run.runs.now) l.run.number (map signal_in l.signals)) (take l.novelty-index l.novelties)
