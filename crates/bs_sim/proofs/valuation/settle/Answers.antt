use Rattle.std.proofs.Common.{◌≡◌, ◌∙◌, ap, List, map, length, ◌<◌, subst, sym, ℕ}
use Rattle.bs_net.specs.Circuit.{Fits}
use Rattle.bs_net.proofs.NextLemmas.{next_from_fits}
use Rattle.std.specs.List.{All}
use Rattle.bs_net.specs.declared.net.NetId.{NetId}
use Rattle.bs_net.specs.declared.net.Flop.{Flop}
use Rattle.bs_net.specs.declared.net.Const.{Const}
use Rattle.bs_net.specs.declared.net.Gate.{Gate}
use Rattle.bs_net.specs.Netlist.{circuit}
use Rattle.bs_net.specs.Order.{gates_in}
use Rattle.bs_net.specs.Steps.{run, puts, constant_step, gate_write}
use Rattle.bs_net.proofs.NetlistLemmas.{without_placed, order_below}
use Rattle.bs_net.proofs.ResettleLemmas.{parts_from}
use Rattle.bs_sim.proofs.valuation.settle.Goals as goal

pub show_nets-requires-clause-placed : goal.show_nets-requires-clause-placed
show_nets-requires-clause-placed c =
    let nets : c.slice.result.now ≡ (circuit c.args.net.now).inputs = c.slice.ensures ∙ c.data_inputs.ensures in
    let len : length c.args.values.now ≡ (circuit c.args.net.now).nets = c.requires.zeroed.0 in
    let P : List NetId → Type 0 = λ ns. All (λ (n : NetId). n.0 < length c.args.values.now) ns in
    let Q : ℕ → Type 0 = λ m. All (λ (n : NetId). n.0 < m) (circuit c.args.net.now).inputs in
    subst P (sym nets) (subst Q (sym len) (without_placed _ _ _ c.raw-raw.ensures.placed.inputs.1))

pub settle_gates-requires-clause-numbered : goal.settle_gates-requires-clause-numbered
settle_gates-requires-clause-numbered c =
    let gates : c.slice-4.result.now ≡ (circuit c.args.net.now).gates = c.slice-4.ensures ∙ ap (λ r. r.gates) c.raw-raw.ensures.parts in
    let order : c.slice-5.result.now ≡ c.args.net.now.order = c.slice-5.ensures ∙ c.order-order.ensures.order in
    let P : List ℕ → Type 0 = λ is. All (λ i. i < length c.slice-4.result.now) is in
    let Q : List Gate → Type 0 = λ gs. All (λ i. i < length gs) c.args.net.now.order in
    subst P (sym order) (subst Q (sym gates) (order_below _ _ c.order-order.ensures.ordered))

pub returns : goal.returns
returns c =
    let inputs : c.slice.result.now ≡ (circuit c.args.net.now).inputs = c.slice.ensures ∙ c.data_inputs.ensures in
    let flops : c.slice-2.result.now ≡ (circuit c.args.net.now).flops = c.slice-2.ensures ∙ ap (λ r. r.flops) c.raw-raw.ensures.parts in
    let consts : c.slice-3.result.now ≡ (circuit c.args.net.now).constants = c.slice-3.ensures ∙ ap (λ r. r.consts) c.raw-raw.ensures.parts in
    let gates : c.slice-4.result.now ≡ (circuit c.args.net.now).gates = c.slice-4.ensures ∙ ap (λ r. r.gates) c.raw-raw.ensures.parts in
    let order : c.slice-5.result.now ≡ c.args.net.now.order = c.slice-5.ensures ∙ c.order-order.ensures.order in
    let fits : Fits (circuit c.args.net.now) c.args.state.now c.args.input.now c.settle_gates.new.values =
    parts_from (circuit c.args.net.now) _ _ _ _ _ _ _ c.args.net.now.order c.order-order.ensures.checked c.order-order.ensures.ordered
    c.requires.state_fits c.requires.input_fits c.requires.zeroed
    (c.show_nets.ensures ∙ ap (λ (ns : List NetId). run (puts ns c.args.input.now) c.args.values.now) inputs)
    (c.show_state.ensures ∙ ap (λ (fs : List Flop). run (puts (map (λ (f : Flop). f.q) fs) c.args.state.now) c.show_nets.new.values) flops)
    (c.show_constants.ensures ∙ ap (λ (ks : List Const). run (map constant_step ks) c.show_state.new.values) consts)
    (c.settle_gates.ensures
    ∙ (ap (λ (gs : List Gate). run (map gate_write (gates_in c.slice-5.result.now gs)) c.show_constants.new.values) gates
    ∙ ap (λ is. run (map gate_write (gates_in is (circuit c.args.net.now).gates)) c.show_constants.new.values) order))
    in
    record {
      fits = fits;
      next = next_from_fits (circuit c.args.net.now) _ _ _ c.order-order.ensures.checked c.requires.state_fits c.requires.input_fits fits;
    }
