use Rattle.std.proofs.Common.{◌≡◌, map, take}
use Rattle.bs_lanes.specs.Layout.{placed_const}
use Rattle.bs_lanes.proofs.layout.consts_at.Given as goal

abbrev pub invariant-constants : goal.invariant-constants
invariant-constants l = l.placed ≡ map (placed_const l.places) (take l.i l.consts)
