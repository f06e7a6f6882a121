use Rattle.std.proofs.Common.{◌≡◌, map, take}
use Rattle.bs_lanes.specs.Layout.{placed_flop}
use Rattle.bs_lanes.proofs.layout.flops_at.Given as goal

abbrev pub invariant-flops : goal.invariant-flops
invariant-flops l = l.placed ≡ map (placed_flop l.places) (take l.i l.flops)
