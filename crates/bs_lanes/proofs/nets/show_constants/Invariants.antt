use Rattle.std.proofs.Common.{drop, map}
use Rattle.bs_net.specs.Steps.{constant_step}
use Rattle.bs_lanes.specs.Settling.{RunsTo}
use Rattle.bs_lanes.proofs.nets.show_constants.Given as goal

abbrev pub invariant-constants : goal.invariant-constants
invariant-constants g l = RunsTo g.row.N (λ r. map constant_step (drop l.i l.consts)) (λ r. map constant_step l.consts) l.initial.nets l.nets
