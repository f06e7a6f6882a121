use Rattle.std.proofs.Common.{drop, map}
use Rattle.bs_net.specs.Steps.{gate_write}
use Rattle.bs_lanes.specs.Settling.{RunsTo}
use Rattle.bs_lanes.specs.Program.{program_gates}
use Rattle.bs_lanes.proofs.nets.settle_program.Given as goal

abbrev pub invariant-stretches : goal.invariant-stretches
invariant-stretches g l =
    RunsTo g.row.N (λ r. map gate_write (program_gates (drop l.i l.program))) (λ r. map gate_write (program_gates l.program)) l.initial.nets
    l.nets
