use Rattle.std.proofs.Common.{◌≡◌, ℕ, ◌<◌, ◌*◌, take, length, map}
use Rattle.bs_lanes.specs.Planes.{lane}
use Rattle.bs_lanes.specs.Settling.{lane_loads}
use Rattle.bs_lanes.proofs.loads.load.Given as goal

abbrev pub invariant-flops : goal.invariant-flops
invariant-flops g l = record {
  size : length l.planes ≡ length l.initial.planes;
  so_far : (r : ℕ) → r < 64 * g.row.N →
      take l.i (lane g.row.N (length l.flops) l.planes r) ≡ map (lane_loads g.row.N l.nets r) (take l.i l.flops);
}
