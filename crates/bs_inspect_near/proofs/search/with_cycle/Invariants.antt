use Rattle.std.proofs.Common.{◌*◌}
use Rattle.bs_net.specs.Netlist.{circuit}
use Rattle.bs_stim.specs.Runs.{inputs_of}
use Rattle.bs_inspect_near.specs.Visited.{IsBest}
use Rattle.bs_inspect_near.proofs.search.with_cycle.Given as goal

abbrev pub invariant-words : goal.invariant-words
invariant-words l = IsBest (circuit l.net) (inputs_of l.runs) l.seen l.cycle (l.word * 64) l.best
