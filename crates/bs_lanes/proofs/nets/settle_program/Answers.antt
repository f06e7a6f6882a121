use Rattle.std.proofs.Common.{map, subst, sym}
use Rattle.std.specs.List.{All}
use Rattle.bs_net.specs.Steps.{gate_write}
use Rattle.bs_lanes.specs.declared.program.GateStretch.{GateStretch}
use Rattle.bs_lanes.specs.Settling.{RunsAll}
use Rattle.bs_lanes.specs.Program.{HasGate, stretch_gates}
use Rattle.bs_lanes.proofs.ProgramLemmas.{one_stretch, of_stretch, keeps_gates}
use Rattle.bs_lanes.proofs.nets.settle_program.Goals as goal

pub stretches-preserved : goal.stretches-preserved
stretches-preserved g c =
    let P : GateStretch → Type 0 = λ s. RunsAll g.row.N (λ r. map gate_write (stretch_gates s)) c.stretches.nets c.settle_stretch.new.nets in
    one_stretch g.row.N c.args.program.now c.stretches.i c.index-program-i.result c.args.nets.now c.stretches.nets c.settle_stretch.new.nets _
    c.stretches-test.true c.stretches.invariant (subst P c.index-program-i.is c.settle_stretch.ensures)

pub settle_stretch-requires : goal.settle_stretch-requires
settle_stretch-requires g c =
    let Q : GateStretch → Type 0 = λ s. All (HasGate g.row.N c.args.nets.now) (stretch_gates s) in
    let there = of_stretch (HasGate g.row.N c.args.nets.now) c.args.program.now c.stretches.i c.index-program-i.result c.stretches-test.true
    c.requires in
    keeps_gates g.row.N c.args.nets.now c.stretches.nets (stretch_gates c.index-program-i.result) c.stretches.invariant.size
    (subst Q (sym c.index-program-i.is) there)
