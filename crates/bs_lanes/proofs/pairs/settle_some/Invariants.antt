use Rattle.std.proofs.Common.{drop, map, ◌+◌}
use Rattle.bs_net.specs.Steps.{gate_write}
use Rattle.bs_lanes.specs.Settling.{RunsTo}
use Rattle.bs_lanes.specs.Program.{pair_gates}
use Rattle.bs_lanes.proofs.pairs.settle_some.Given as goal

abbrev pub invariant-pairs : goal.invariant-pairs
invariant-pairs g l =
    RunsTo g.row.N (λ r. map gate_write (pair_gates l.fn.kind (l.fn.start + l.i) (drop l.i l.pairs)))
    (λ r. map gate_write (pair_gates l.fn.kind l.fn.start l.pairs)) l.initial.nets l.nets
