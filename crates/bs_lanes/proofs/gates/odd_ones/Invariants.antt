use Rattle.std.proofs.Common.{take, map}
use Rattle.bs_net.specs.Gate.{is_odd}
use Rattle.bs_lanes.specs.Planes.{IsPlane}
use Rattle.bs_lanes.specs.Settling.{net_bit}
use Rattle.bs_lanes.proofs.gates.odd_ones.Given as goal

abbrev pub invariant-ins : goal.invariant-ins
invariant-ins g l = IsPlane g.row.N l.plane (λ r. is_odd (map (net_bit g.row.N l.nets r) (take l.i l.ins)))
