use Rattle.std.proofs.Common.{drop, length}
use Rattle.bs_net.specs.Steps.{puts}
use Rattle.bs_lanes.specs.Planes.{lane}
use Rattle.bs_lanes.specs.Settling.{RunsTo}
use Rattle.bs_lanes.proofs.nets.show_nets.Given as goal

abbrev pub invariant-nets : goal.invariant-nets
invariant-nets g l =
    RunsTo g.row.N (λ r. puts (drop l.i l.shown) (drop l.i (lane g.row.N (length l.shown) l.planes r)))
    (λ r. puts l.shown (lane g.row.N (length l.shown) l.planes r)) l.initial.nets l.nets
