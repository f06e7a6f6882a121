use Rattle.std.proofs.Common.{drop, map}
use Rattle.bs_net.specs.Steps.{gate_write}
use Rattle.bs_lanes.specs.Settling.{RunsTo}
use Rattle.bs_lanes.proofs.nets.settle_gates.Given as goal

abbrev pub invariant-gates : goal.invariant-gates
invariant-gates g l = RunsTo g.row.N (λ r. map gate_write (drop l.i l.gates)) (λ r. map gate_write l.gates) l.initial.nets l.nets
