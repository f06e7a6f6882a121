use Rattle.std.proofs.Common.{subst, List, map, length}
use Rattle.bs_net.specs.declared.net.NetId.{NetId}
use Rattle.bs_net.specs.declared.net.Const.{Const}
use Rattle.bs_net.specs.Steps.{puts, constant_step, gate_write}
use Rattle.bs_lanes.specs.Planes.{lane}
use Rattle.bs_lanes.specs.declared.program.GateStretch.{GateStretch}
use Rattle.bs_lanes.specs.Program.{program_gates}
use Rattle.bs_lanes.specs.Settling.{RunsAll}
use Rattle.bs_lanes.proofs.LayoutLemmas.{runs_on}
use Rattle.bs_lanes.proofs.nets.settle.Goals as goal

pub returns : goal.returns
returns g c =
    let A : List NetId → Type 0 = λ ns.
    RunsAll g.row.N (λ r. puts ns (lane g.row.N (length ns) c.args.inputs.now r)) c.args.nets.now c.show_nets.new.nets in
    let B : List NetId → Type 0 = λ ns.
    RunsAll g.row.N (λ r. puts ns (lane g.row.N (length ns) c.args.flops.now r)) c.show_nets.new.nets c.show_nets-2.new.nets in
    let K : List Const → Type 0 = λ ks. RunsAll g.row.N (λ r. map constant_step ks) c.show_nets-2.new.nets c.show_constants.new.nets in
    let G : List GateStretch → Type 0 = λ ss.
    RunsAll g.row.N (λ r. map gate_write (program_gates ss)) c.show_constants.new.nets c.settle_program.new.nets in
    runs_on g.row.N _ _ _ _ _ (subst A c.slice.ensures c.show_nets.ensures)
    (runs_on g.row.N _ _ _ _ _ (subst B c.slice-2.ensures c.show_nets-2.ensures)
    (runs_on g.row.N _ _ _ _ _ (subst K c.slice-3.ensures c.show_constants.ensures) (subst G c.slice-4.ensures c.settle_program.ensures)))
