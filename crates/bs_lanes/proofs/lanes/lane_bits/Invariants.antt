use Rattle.std.proofs.Common.{◌≡◌}
use Rattle.bs_lanes.specs.Planes.{lane}
use Rattle.bs_lanes.proofs.lanes.lane_bits.Given as goal

abbrev pub invariant-planes : goal.invariant-planes
invariant-planes l = l.bits ≡ lane l.wide l.plane l.words l.r
