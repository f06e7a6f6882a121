use Rattle.std.proofs.Common.{subst, sym}
use Rattle.bs_net.specs.declared.net.Gate.{Gate}
use Rattle.bs_lanes.specs.Program.{HasGate}
use Rattle.bs_lanes.proofs.SettlingLemmas.{one_gate}
use Rattle.bs_lanes.proofs.PairLemmas.{gate_stays}
use Rattle.bs_lanes.proofs.nets.settle_gates.Goals as goal

pub gates-preserved : goal.gates-preserved
gates-preserved g c =
    let gate = c.index-gates-i.result in
    let P : Gate → Type 0 = λ h. HasGate g.row.N c.args.nets.now h in
    let was : HasGate g.row.N c.args.nets.now gate = subst P (sym c.index-gates-i.is) (c.requires c.gates.i gate c.gates-test.true) in
    let has : HasGate g.row.N c.gates.nets gate = gate_stays g.row.N c.args.nets.now c.gates.nets gate c.gates.invariant.size was in
    rw c.put_plane.ensures
    (one_gate g.row.N c.args.gates.now c.gates.i gate gate c.args.nets.now c.gates.nets _ _ c.gates-test.true c.index-gates-i.is c.gates.invariant has.out
    has.ins c.gate_plane-plane.ensures)
