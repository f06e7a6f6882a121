use Rattle.std.proofs.Common.{◌≡◌, ◌∙◌, ◌+◌, sym, subst, ap, arith, List, Bool, cond, map, length, drop, ◌∷◌, length-set}
use Rattle.std.specs.List.{count_by}
use Rattle.std.proofs.lemmas.List.Elements.{recursion_from_All}
use Rattle.bs_net.specs.declared.net.Gate.{Gate}
use Rattle.bs_net.specs.Circuit.{IsSettled, bit_at}
use Rattle.bs_net.specs.Order.{gates_in}
use Rattle.bs_net.specs.Steps.{run, gate_write}
use Rattle.bs_sim.specs.Events.{IsReady}
use Rattle.bs_sim.specs.Work.{has_change}
use Rattle.bs_sim.proofs.EventLemmas.{ready_next, change_stays, count_next, next_gate}
use Rattle.bs_sim.proofs.events.settle_changed.Goals as goal
use Rattle.bs_sim.proofs.events.settle_changed.Goals.{then-evaluate_changed, else-evaluate_changed}

pub evaluate_changed-requires-clause-settled : goal.evaluate_changed-requires-clause-settled
evaluate_changed-requires-clause-settled c =
    let split =
    next_gate c.args.gates.now c.args.order.now c.loop-i.i-index c.index-gates-i.result _ c.loop-i-test.true
    (c.requires.numbered _ 0 c.loop-i-test.true) c.index-gates-i.is in
    let P : List Gate → Type 0 = λ gs. IsReady c.args.before.now c.loop-i.values gs in
    let ready : IsReady c.args.before.now c.loop-i.values (c.index-gates-i.result ∷ gates_in (drop (c.loop-i.i-index + 1) c.args.order.now) c.args.gates.now) =
    subst P split c.loop-i.invariant.ready in
    (recursion_from_All (IsSettled c.args.before.now)
    (c.index-gates-i.result ∷ gates_in (drop (c.loop-i.i-index + 1) c.args.order.now) c.args.gates.now) ready.settled).0

pub evaluate_changed-requires-clause-unchanged : goal.evaluate_changed-requires-clause-unchanged
evaluate_changed-requires-clause-unchanged c =
    let split =
    next_gate c.args.gates.now c.args.order.now c.loop-i.i-index c.index-gates-i.result _ c.loop-i-test.true
    (c.requires.numbered _ 0 c.loop-i-test.true) c.index-gates-i.is in
    let P : List Gate → Type 0 = λ gs. IsReady c.args.before.now c.loop-i.values gs in
    let ready : IsReady c.args.before.now c.loop-i.values (c.index-gates-i.result ∷ gates_in (drop (c.loop-i.i-index + 1) c.args.order.now) c.args.gates.now) =
    subst P split c.loop-i.invariant.ready in
    (recursion_from_All (λ (g : Gate). bit_at c.loop-i.values g.out.0 ≡ bit_at c.args.before.now g.out.0)
    (c.index-gates-i.result ∷ gates_in (drop (c.loop-i.i-index + 1) c.args.order.now) c.args.gates.now) ready.unchanged).0

pub loop-i-preserved : goal.loop-i-preserved
loop-i-preserved c =
    let g = c.index-gates-i.result in
    let v = c.args.before.now in
    let w = c.loop-i.values in
    let rest = gates_in (drop (c.loop-i.i-index + 1) c.args.order.now) c.args.gates.now in
    let final = run (map gate_write (gates_in c.args.order.now c.args.gates.now)) c.args.values.now in
    let split : gates_in (drop c.loop-i.i-index c.args.order.now) c.args.gates.now ≡ g ∷ rest =
    next_gate c.args.gates.now c.args.order.now c.loop-i.i-index g _ c.loop-i-test.true (c.requires.numbered _ 0 c.loop-i-test.true) c.index-gates-i.is in
    let P : List Gate → Type 0 = λ gs. IsReady v w gs in
    let ready : IsReady v w (g ∷ rest) = subst P split c.loop-i.invariant.ready in
    let all : run (map gate_write (g ∷ rest)) w ≡ final = ap (λ gs. run (map gate_write gs) w) (sym split) ∙ c.loop-i.invariant.gives in
    let written = c.evaluate_changed.ensures.values in
    let Q : List Bool → Type 0 = λ u. IsReady v u rest in
    let change : c.evaluate_changed.result ≡ has_change v final g =
    c.evaluate_changed.ensures.answer ∙ (change_stays v w g rest ready.levelled ∙ ap (λ u. has_change v u g) all) in
    let work : c.if-evaluate_changed.work ≡ cond c.evaluate_changed.result (c.loop-i.work + 1) c.loop-i.work =
    elim c.if-evaluate_changed.branch [
      | then-evaluate_changed b ↦ b.work-is ∙ ap (λ t. cond t (c.loop-i.work + 1) c.loop-i.work) (sym b.if-evaluate_changed.true)
      | else-evaluate_changed b ↦ b.work-is ∙ ap (λ t. cond t (c.loop-i.work + 1) c.loop-i.work) (sym b.if-evaluate_changed.false)
    ] in
    record {
      gives = ap (run (map gate_write rest)) written ∙ all;
      ready = subst Q (sym written) (ready_next v w g rest _ ready);
      wide = ap length written ∙ (length-set w _ _ ∙ c.loop-i.invariant.wide);
      counted =
          count_next (has_change v final) g rest c.loop-i.work c.if-evaluate_changed.work _
          (work ∙ ap (λ t. cond t (c.loop-i.work + 1) c.loop-i.work) change)
          (ap (λ gs. c.loop-i.work + count_by (has_change v final) gs) (sym split) ∙ c.loop-i.invariant.counted);
      bounded =
          elim c.if-evaluate_changed.branch [
            | then-evaluate_changed b ↦ let more = c.loop-i.invariant.bounded in let is = b.work-is in omega (arith, more, is)
            | else-evaluate_changed b ↦ let more = c.loop-i.invariant.bounded in let is = b.work-is in omega (arith, more, is)
          ];
    }
