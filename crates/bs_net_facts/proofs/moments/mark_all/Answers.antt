use Rattle.std.proofs.Common.{◌≡◌, ◌∙◌, ap, List, length, ◌<◌, subst, sym, ℕ}
use Rattle.std.specs.List.{All}
use Rattle.bs_net.specs.declared.net.Flop.{Flop}
use Rattle.bs_net.specs.declared.net.Const.{Const}
use Rattle.bs_net.specs.declared.net.Gate.{Gate}
use Rattle.bs_net.specs.Netlist.{circuit}
use Rattle.bs_net.proofs.NetlistLemmas.{order_below}
use Rattle.bs_sim.specs.Marks.{StayHeld, AreSettled, AreShown}
use Rattle.bs_net_facts.specs.Seen.{ShowState}
use Rattle.bs_net_facts.proofs.SeenLemmas.{marked_last}
use Rattle.bs_net_facts.proofs.moments.mark_all.Goals as goal

pub mark_gates-requires-clause-numbered : goal.mark_gates-requires-clause-numbered
mark_gates-requires-clause-numbered c =
    let gates : c.slice-3.result.now ≡ (circuit c.args.net.now).gates = c.slice-3.ensures ∙ ap (λ r. r.gates) c.raw-raw.ensures.parts in
    let order : c.slice-4.result.now ≡ c.args.net.now.order = c.slice-4.ensures ∙ c.order-order.ensures.order in
    let P : List ℕ → Type 0 = λ is. All (λ i. i < length c.slice-3.result.now) is in
    let Q : List Gate → Type 0 = λ gs. All (λ i. i < length gs) c.args.net.now.order in
    subst P (sym order) (subst Q (sym gates) (order_below _ _ c.order-order.ensures.ordered))

pub returns : goal.returns
returns c =
    let it = circuit c.args.net.now in
    let m₀ = c.args.marks.now in
    let m₁ = c.mark_state.new.marks in
    let m₂ = c.mark_constants.new.marks in
    let m₃ = c.mark_gates.new.marks in
    let flops : c.slice.result.now ≡ it.flops = c.slice.ensures ∙ ap (λ r. r.flops) c.raw-raw.ensures.parts in
    let consts : c.slice-2.result.now ≡ it.constants = c.slice-2.ensures ∙ ap (λ r. r.consts) c.raw-raw.ensures.parts in
    let gates : c.slice-3.result.now ≡ it.gates = c.slice-3.ensures ∙ ap (λ r. r.gates) c.raw-raw.ensures.parts in
    marked_last it c.args.state.now m₀ m₁ m₂ m₃ c.requires.size c.requires.nothing
    (subst (λ (fs : List Flop). StayHeld (ShowState fs c.args.state.now) m₀ m₁) flops c.mark_state.ensures)
    (subst (λ (ks : List Const). StayHeld (AreShown ks) m₁ m₂) consts c.mark_constants.ensures)
    (subst (λ (gs : List Gate). StayHeld (AreSettled gs) m₂ m₃) gates c.mark_gates.ensures)
