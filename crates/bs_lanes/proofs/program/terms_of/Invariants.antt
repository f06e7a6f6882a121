use Rattle.std.proofs.Common.{◌≡◌, map, take}
use Rattle.bs_lanes.specs.Layout.{placed_net}
use Rattle.bs_lanes.proofs.program.terms_of.Given as goal

abbrev pub invariant-ins : goal.invariant-ins
invariant-ins l = l.terms ≡ map (placed_net l.places) (take l.i l.ins)
