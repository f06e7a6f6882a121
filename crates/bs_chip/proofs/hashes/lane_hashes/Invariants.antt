use Rattle.bs_lanes.specs.Planes.{lane}
use Rattle.bs_chip.specs.Hashes.{hash_of, ListsEach}
use Rattle.bs_chip.proofs.hashes.lane_hashes.Given as goal

abbrev pub invariant-lanes : goal.invariant-lanes
invariant-lanes l = ListsEach (λ r. hash_of (lane l.wide l.count l.planes r)) l.hashes l.lane
