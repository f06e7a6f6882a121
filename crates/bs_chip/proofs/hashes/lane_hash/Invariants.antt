use Rattle.std.proofs.Common.{◌≡◌}
use Rattle.bs_lanes.specs.Planes.{lane}
use Rattle.bs_chip.specs.Hashes.{hash_of}
use Rattle.bs_chip.proofs.hashes.lane_hash.Given as goal

abbrev pub invariant-places : goal.invariant-places
invariant-places l = l.hash ≡ hash_of (lane l.wide l.i l.planes l.lane)
