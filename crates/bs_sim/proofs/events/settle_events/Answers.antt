use Rattle.std.proofs.Common.{◌≡◌, ◌∙◌, ap, List, map, length, ◌<◌, subst, sym, ℕ, Bool}
use Rattle.std.specs.List.{All, count_by}
use Rattle.bs_net.specs.declared.net.NetId.{NetId}
use Rattle.bs_net.specs.declared.net.Flop.{Flop}
use Rattle.bs_net.specs.declared.net.Const.{Const}
use Rattle.bs_net.specs.declared.net.Gate.{Gate}
use Rattle.bs_net.specs.Circuit.{Circuit, Fits}
use Rattle.bs_net.specs.Netlist.{circuit}
use Rattle.bs_net.specs.Order.{gates_in}
use Rattle.bs_net.specs.Steps.{run, puts, constant_step, gate_write}
use Rattle.bs_net.proofs.NetlistLemmas.{without_placed, order_below}
use Rattle.bs_net.proofs.NextLemmas.{next_from_fits}
use Rattle.bs_net.proofs.ResettleLemmas.{parts_from, zeroed_by_fit}
use Rattle.bs_sim.specs.Events.{IsReady}
use Rattle.bs_sim.specs.Work.{has_change}
use Rattle.bs_sim.proofs.EventLemmas.{ready_after, count_moved}
use Rattle.bs_sim.proofs.events.settle_events.Goals as goal

pub show_nets-requires-clause-placed : goal.show_nets-requires-clause-placed
show_nets-requires-clause-placed c =
    let nets : c.slice.result.now ≡ (circuit c.args.net.now).inputs = c.slice.ensures ∙ c.data_inputs.ensures in
    let len : length c.args.values.now ≡ (circuit c.args.net.now).nets = c.requires.at_rest.2.every_net in
    let P : List NetId → Type 0 = λ ns. All (λ (n : NetId). n.0 < length c.args.values.now) ns in
    let Q : ℕ → Type 0 = λ m. All (λ (n : NetId). n.0 < m) (circuit c.args.net.now).inputs in
    subst P (sym nets) (subst Q (sym len) (without_placed _ _ _ c.raw-raw.ensures.placed.inputs.1))

pub settle_changed-requires-clause-numbered : goal.settle_changed-requires-clause-numbered
settle_changed-requires-clause-numbered c =
    let gates : c.slice-4.result.now ≡ (circuit c.args.net.now).gates = c.slice-4.ensures ∙ ap (λ r. r.gates) c.raw-raw.ensures.parts in
    let order : c.slice-5.result.now ≡ c.args.net.now.order = c.slice-5.ensures ∙ c.order.ensures.order in
    let P : List ℕ → Type 0 = λ is. All (λ i. i < length c.slice-4.result.now) is in
    let Q : List Gate → Type 0 = λ gs. All (λ i. i < length gs) c.args.net.now.order in
    subst P (sym order) (subst Q (sym gates) (order_below _ _ c.order.ensures.ordered))

pub settle_changed-requires-clause-ready : goal.settle_changed-requires-clause-ready
settle_changed-requires-clause-ready c =
    let it : Circuit = circuit c.args.net.now in
    let inputs : c.slice.result.now ≡ it.inputs = c.slice.ensures ∙ c.data_inputs.ensures in
    let flops : c.slice-2.result.now ≡ it.flops = c.slice-2.ensures ∙ ap (λ r. r.flops) c.raw-raw.ensures.parts in
    let consts : c.slice-3.result.now ≡ it.constants = c.slice-3.ensures ∙ ap (λ r. r.consts) c.raw-raw.ensures.parts in
    let gates : c.slice-4.result.now ≡ it.gates = c.slice-4.ensures ∙ ap (λ r. r.gates) c.raw-raw.ensures.parts in
    let order : c.slice-5.result.now ≡ c.args.net.now.order = c.slice-5.ensures ∙ c.order.ensures.order in
    let ready : IsReady c.args.values.now c.show_constants.new.values (gates_in c.args.net.now.order it.gates) =
    ready_after it c.args.state.now c.args.input.now c.args.values.now _ _ _ _ _ c.args.net.now.order c.raw-raw.ensures.checked c.raw-raw.ensures.ordered
    c.requires.at_rest.2
    (c.show_nets.ensures ∙ ap (λ (ns : List NetId). run (puts ns c.args.input.now) c.args.values.now) inputs)
    (c.show_state.ensures ∙ ap (λ (fs : List Flop). run (puts (map (λ (f : Flop). f.q) fs) c.args.state.now) c.show_nets.new.values) flops)
    (c.show_constants.ensures ∙ ap (λ (ks : List Const). run (map constant_step ks) c.show_state.new.values) consts) in
    let P : List Bool → Type 0 = λ v. IsReady v c.show_constants.new.values (gates_in c.slice-5.result.now c.slice-4.result.now) in
    let Q : List ℕ → Type 0 = λ is. IsReady c.args.values.now c.show_constants.new.values (gates_in is c.slice-4.result.now) in
    let R : List Gate → Type 0 = λ gs. IsReady c.args.values.now c.show_constants.new.values (gates_in c.args.net.now.order gs) in
    subst P (sym c.requires.same) (subst Q (sym order) (subst R (sym gates) ready))

pub returns : goal.returns
returns c =
    let it : Circuit = circuit c.args.net.now in
    let inputs : c.slice.result.now ≡ it.inputs = c.slice.ensures ∙ c.data_inputs.ensures in
    let flops : c.slice-2.result.now ≡ it.flops = c.slice-2.ensures ∙ ap (λ r. r.flops) c.raw-raw.ensures.parts in
    let consts : c.slice-3.result.now ≡ it.constants = c.slice-3.ensures ∙ ap (λ r. r.consts) c.raw-raw.ensures.parts in
    let gates : c.slice-4.result.now ≡ it.gates = c.slice-4.ensures ∙ ap (λ r. r.gates) c.raw-raw.ensures.parts in
    let order : c.slice-5.result.now ≡ c.args.net.now.order = c.slice-5.ensures ∙ c.order.ensures.order in
    let written : c.settle_changed.new.values ≡ run (map gate_write (gates_in c.args.net.now.order it.gates)) c.show_constants.new.values =
    c.settle_changed.ensures.values
    ∙ (ap (λ (gs : List Gate). run (map gate_write (gates_in c.slice-5.result.now gs)) c.show_constants.new.values) gates
    ∙ ap (λ is. run (map gate_write (gates_in is it.gates)) c.show_constants.new.values) order) in
    let fits : Fits it c.args.state.now c.args.input.now c.settle_changed.new.values =
    parts_from it _ _ c.args.values.now _ _ _ _ c.args.net.now.order c.raw-raw.ensures.checked c.raw-raw.ensures.ordered
    c.requires.state_fits c.requires.input_fits (zeroed_by_fit it _ _ c.args.values.now c.requires.at_rest.2)
    (c.show_nets.ensures ∙ ap (λ (ns : List NetId). run (puts ns c.args.input.now) c.args.values.now) inputs)
    (c.show_state.ensures ∙ ap (λ (fs : List Flop). run (puts (map (λ (f : Flop). f.q) fs) c.args.state.now) c.show_nets.new.values) flops)
    (c.show_constants.ensures ∙ ap (λ (ks : List Const). run (map constant_step ks) c.show_state.new.values) consts)
    written in
    record {
      fits = fits;
      next = next_from_fits it _ _ _ c.raw-raw.ensures.checked c.requires.state_fits c.requires.input_fits fits;
      counted =
          c.settle_changed.ensures.work
          ∙ (ap (λ (gs : List Gate). count_by (has_change c.args.before.now c.settle_changed.new.values) (gates_in c.slice-5.result.now gs)) gates
          ∙ (ap (λ is. count_by (has_change c.args.before.now c.settle_changed.new.values) (gates_in is it.gates)) order
          ∙ (ap (λ v. count_by (has_change v c.settle_changed.new.values) (gates_in c.args.net.now.order it.gates)) c.requires.same
          ∙ count_moved it c.args.net.now.order c.args.values.now c.settle_changed.new.values c.raw-raw.ensures.ordered)));
    }
