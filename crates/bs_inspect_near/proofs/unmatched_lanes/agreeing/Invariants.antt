use Rattle.bs_inspect_near.proofs.LookLemmas.{LeavesSo}
use Rattle.bs_inspect_near.proofs.unmatched_lanes.agreeing.Given as goal

abbrev pub invariant-places : goal.invariant-places
invariant-places l = LeavesSo l.words l.places l.value l.mask l.left l.i
