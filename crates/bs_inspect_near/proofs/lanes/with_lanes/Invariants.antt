use Rattle.std.proofs.Common.{◌+◌}
use Rattle.bs_net.specs.Netlist.{circuit}
use Rattle.bs_stim.specs.Runs.{inputs_of}
use Rattle.bs_inspect_near.specs.Visited.{IsBest}
use Rattle.bs_inspect_near.proofs.lanes.with_lanes.Given as goal

abbrev pub invariant-lanes : goal.invariant-lanes
invariant-lanes l = IsBest (circuit l.net) (inputs_of l.runs) l.seen l.cycle (l.first + l.lane) l.best
