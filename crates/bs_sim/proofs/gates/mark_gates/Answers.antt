use Rattle.bs_sim.specs.Marks.{AreSettled, StayHeld}
use Rattle.std.proofs.Common.{set, subst, sym}
use Rattle.bs_sim.specs.declared.mark.Mark.{Mark}
use Rattle.bs_sim.proofs.StayLemmas.{stay_gate}
use Rattle.bs_sim.proofs.gates.mark_gates.Goals as goal

pub gates-preserved : goal.gates-preserved
gates-preserved c =
    let g = c.index-gates-i.result in
    subst (λ (m : Mark). StayHeld (AreSettled c.args.gates.now) c.args.marks.now (set c.gates.marks g.out.0 m)) (sym c.gate_mark-mark.ensures)
    (stay_gate c.args.gates.now c.args.marks.now c.gates.marks _ g
    (c.requires.numbered _ 0 c.gates-test.true) c.index-gates-i.is c.gates.invariant c.requires.outs c.requires.taken)
