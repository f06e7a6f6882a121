use Rattle.std.proofs.Common.{◌≡◌, length, take}
use Rattle.bs_lanes.specs.Planes.{lane}
use Rattle.bs_inspect_near.specs.Values.{value_in}
use Rattle.bs_inspect_near.proofs.values.value_of.Given as goal

abbrev pub invariant-places : goal.invariant-places
invariant-places l = l.bits ≡ value_in (lane 1 (length l.words) l.words l.lane) (take l.place-index l.places)
