use Rattle.std.proofs.Common.{◌≡◌, map, take}
use Rattle.bs_net.specs.declared.net.Flop.{Flop}
use Rattle.bs_lanes.specs.Layout.{placed_net}
use Rattle.bs_lanes.proofs.layout.outputs_at.Given as goal

abbrev pub invariant-flops : goal.invariant-flops
invariant-flops l = l.placed ≡ map (λ (f : Flop). placed_net l.places f.q) (take l.i l.flops)
