use Rattle.std.proofs.Common.{take}
use Rattle.std.specs.List.{list_all}
use Rattle.bs_lanes.specs.Planes.{IsPlane}
use Rattle.bs_lanes.specs.Settling.{net_bit}
use Rattle.bs_lanes.proofs.gates.all_one.Given as goal

abbrev pub invariant-ins : goal.invariant-ins
invariant-ins g l = IsPlane g.row.N l.plane (λ r. list_all (net_bit g.row.N l.nets r) (take l.i l.ins))
