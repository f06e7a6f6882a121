use Rattle.std.proofs.Common.{◌≡◌, map, take}
use Rattle.bs_lanes.specs.Layout.{placed_net}
use Rattle.bs_lanes.proofs.layout.nets_at.Given as goal

abbrev pub invariant-nets : goal.invariant-nets
invariant-nets l = l.placed ≡ map (placed_net l.places) (take l.i l.nets)
