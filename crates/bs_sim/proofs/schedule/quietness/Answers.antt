use Rattle.std.proofs.Common.{◌≡◌, ℕ, slice_index_or, arith, subst, sym, ◌∙◌, ⊎_elim}
use Rattle.std.proofs.lemmas.Bool.{cases_eq}
use Rattle.std.proofs.lemmas.List.{get_or_default}
use Rattle.bs_net.specs.declared.net.Gate.{Gate}
use Rattle.bs_net.specs.Circuit.{IsSettled}
use Rattle.bs_net.specs.Order.{no_gate}
use Rattle.bs_sim.proofs.SourceLemmas.{same_bit}
use Rattle.bs_sim.proofs.schedule.quietness.Goals as goal

pub loop-i-preserved : goal.loop-i-preserved
loop-i-preserved c k lt =
    let P : ℕ → Type 0 = λ i. IsSettled c.args.values.now (slice_index_or c.args.gates.now i no_gate) in
    let Q : Gate → Type 0 = λ g. IsSettled c.args.values.now g in
    let shown : IsSettled c.args.values.now c.index-gates-i.result = same_bit _ _ c.if-shown-due.false ∙ c.gate_bit-due.ensures in
    let here : P c.loop-i.i = subst Q (c.index-gates-i.is ∙ get_or_default _ c.loop-i.i _ no_gate c.loop-i-test.true) shown in
    ⊎_elim
    (λ (same : k ≡ c.loop-i.i). subst P (sym same) here)
    (λ (other : k ≡ c.loop-i.i → ⊥). c.loop-i.invariant k (omega (arith, other, lt)))
    (cases_eq k c.loop-i.i)

pub returns : goal.returns
returns c k d lt =
    let Q : Gate → Type 0 = λ g. IsSettled c.args.values.now g in
    subst Q (get_or_default _ k no_gate d lt) (c.loop-i.invariant k (omega (arith, lt)))
