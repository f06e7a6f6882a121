use Rattle.bs_chip.proofs.LaneLemmas.{LaneRead}
use Rattle.bs_chip.proofs.lanes.read_lane.Given as goal

abbrev pub invariant-places : goal.invariant-places
invariant-places l = LaneRead l.wide l.planes l.lane l.initial.into l.into l.i
