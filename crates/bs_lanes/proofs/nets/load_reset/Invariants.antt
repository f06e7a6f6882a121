use Rattle.std.proofs.Common.{◌≡◌, ℕ, ◌<◌, ◌*◌, take, length, map}
use Rattle.bs_net.specs.declared.net.Flop.{Flop}
use Rattle.bs_lanes.specs.Planes.{lane}
use Rattle.bs_lanes.proofs.nets.load_reset.Given as goal

abbrev pub invariant-flops : goal.invariant-flops
invariant-flops g l = record {
  size : length l.planes ≡ length l.initial.planes;
  so_far : (r : ℕ) → r < 64 * g.row.N → take l.i (lane g.row.N (length l.flops) l.planes r) ≡ map (λ (f : Flop). f.reset) (take l.i l.flops);
}
