use Rattle.std.proofs.Common.{◌≡◌, ◌∙◌, ap, List, length, ◌<◌, subst, sym, ℕ}
use Rattle.std.specs.List.{All}
use Rattle.bs_net.specs.declared.net.NetId.{NetId}
use Rattle.bs_net.specs.declared.net.Flop.{Flop}
use Rattle.bs_net.specs.declared.net.Const.{Const}
use Rattle.bs_net.specs.declared.net.Gate.{Gate}
use Rattle.bs_net.specs.Netlist.{circuit}
use Rattle.bs_net.proofs.NetlistLemmas.{without_placed, order_below}
use Rattle.bs_sim.specs.Marks.{StayHeld, AreSettled, AreShown}
use Rattle.bs_preimage_recorded.specs.Marked.{ShowSame, ShowInput}
use Rattle.bs_preimage_recorded.proofs.IndependentLemmas.{all_marked}
use Rattle.bs_preimage_recorded.proofs.nets.mark_all.Goals as goal

pub mark_input-requires : goal.mark_input-requires
mark_input-requires c =
    let nets : c.slice.result.now ≡ (circuit c.args.net.now).inputs = c.slice.ensures ∙ c.data_inputs.ensures in
    let P : List NetId → Type 0 = λ ns. All (λ (n : NetId). n.0 < length c.args.marks.now) ns in
    let Q : ℕ → Type 0 = λ m. All (λ (n : NetId). n.0 < m) (circuit c.args.net.now).inputs in
    subst P (sym nets) (subst Q (sym c.requires.size) (without_placed _ _ _ c.raw-raw.ensures.placed.inputs.1))

pub mark_gates-requires-clause-numbered : goal.mark_gates-requires-clause-numbered
mark_gates-requires-clause-numbered c =
    let gates : c.slice-4.result.now ≡ (circuit c.args.net.now).gates = c.slice-4.ensures ∙ ap (λ r. r.gates) c.raw-raw.ensures.parts in
    let order : c.slice-5.result.now ≡ c.args.net.now.order = c.slice-5.ensures ∙ c.order-order.ensures.order in
    let P : List ℕ → Type 0 = λ is. All (λ i. i < length c.slice-4.result.now) is in
    let Q : List Gate → Type 0 = λ gs. All (λ i. i < length gs) c.args.net.now.order in
    subst P (sym order) (subst Q (sym gates) (order_below _ _ c.order-order.ensures.ordered))

pub returns : goal.returns
returns c =
    let it = circuit c.args.net.now in
    let m₀ = c.args.marks.now in
    let m₁ = c.mark_input.new.marks in
    let m₂ = c.mark_states.new.marks in
    let m₃ = c.mark_constants.new.marks in
    let m₄ = c.mark_gates.new.marks in
    let inputs : c.slice.result.now ≡ it.inputs = c.slice.ensures ∙ c.data_inputs.ensures in
    let flops : c.slice-2.result.now ≡ it.flops = c.slice-2.ensures ∙ ap (λ r. r.flops) c.raw-raw.ensures.parts in
    let consts : c.slice-3.result.now ≡ it.constants = c.slice-3.ensures ∙ ap (λ r. r.consts) c.raw-raw.ensures.parts in
    let gates : c.slice-4.result.now ≡ it.gates = c.slice-4.ensures ∙ ap (λ r. r.gates) c.raw-raw.ensures.parts in
    all_marked it c.args.input c.args.value m₀ m₁ m₂ m₃ m₄ c.requires.size c.requires.nothing
    (subst (λ (ns : List NetId). StayHeld (ShowInput ns c.args.input c.args.value) m₀ m₁) inputs c.mark_input.ensures)
    (subst (λ (fs : List Flop). StayHeld (ShowSame fs) m₁ m₂) flops c.mark_states.ensures)
    (subst (λ (ks : List Const). StayHeld (AreShown ks) m₂ m₃) consts c.mark_constants.ensures)
    (subst (λ (gs : List Gate). StayHeld (AreSettled gs) m₃ m₄) gates c.mark_gates.ensures)
