use Rattle.std.proofs.Common.{◌≡◌, ◌∙◌, ◌<◌, ℕ, List, ap, arith, length, map, subst, sym}
use Rattle.std.specs.List.{All}
use Rattle.bs_net.specs.declared.net.Flop.{Flop}
use Rattle.bs_net.specs.declared.net.Gate.{Gate}
use Rattle.bs_net.specs.Netlist.{circuit}
use Rattle.bs_net.proofs.NetlistLemmas.{order_below, without_placed}
use Rattle.bs_lanes.specs.Layout.{placed_net, placed_const, placed_flop, placed_gates, IsPlacing}
use Rattle.bs_lanes.proofs.LevelLemmas.{few_gates, length-order}
use Rattle.bs_lanes.proofs.layout.layout_of.Goals as goal

pub places_of-requires-clause-few : goal.places_of-requires-clause-few
places_of-requires-clause-few c =
    let it = circuit c.args.net.now in
    let names : c.len.result ≡ it.nets = c.len.ensures ∙ ap (λ r. length r.names) c.raw-raw.ensures.parts in
    omega (
      arith,
      ap length c.as_slice.ensures.value,
      length-order it.gates c.in_ok-order.order.items c.in_ok-order.ensures,
      few_gates it c.raw-raw.ensures.checked,
      names,
    )

pub places_of-requires-clause-numbered : goal.places_of-requires-clause-numbered
places_of-requires-clause-numbered c =
    let gates : c.slice-gates.result.now ≡ (circuit c.args.net.now).gates = c.slice-gates.ensures ∙ ap (λ r. r.gates) c.raw-raw.ensures.parts in
    let P : List ℕ → Type 0 = λ is. All (λ i. i < length c.slice-gates.result.now) is in
    let Q : List Gate → Type 0 = λ gs. All (λ i. i < length gs) c.in_ok-order.order.items in
    subst P (sym c.as_slice.ensures.value) (subst Q (sym gates) (order_below _ _ c.in_ok-order.ensures))

pub stretches_of-requires-clause-numbered : goal.stretches_of-requires-clause-numbered
stretches_of-requires-clause-numbered c =
    let gates : c.slice-gates.result.now ≡ (circuit c.args.net.now).gates = c.slice-gates.ensures ∙ ap (λ r. r.gates) c.raw-raw.ensures.parts in
    let P : List ℕ → Type 0 = λ is. All (λ i. i < length c.slice-gates.result.now) is in
    let Q : List Gate → Type 0 = λ gs. All (λ i. i < length gs) c.in_ok-order.order.items in
    subst P (sym c.as_slice-2.ensures.value) (subst Q (sym gates) (order_below _ _ c.in_ok-order.ensures))

pub parts_at-requires : goal.parts_at-requires
parts_at-requires c =
    ap length c.slice-2.ensures ∙ (c.in_ok-places.ensures.size ∙ (c.len.ensures ∙ ap (λ r. length r.names) c.raw-raw.ensures.parts))

pub returns : goal.returns
returns c =
    let it = circuit c.args.net.now in
    let places : List ℕ = c.in_ok-places.places in
    let names : c.len.result ≡ it.nets = c.len.ensures ∙ ap (λ r. length r.names) c.raw-raw.ensures.parts in
    let gates : c.slice-gates.result.now ≡ it.gates = c.slice-gates.ensures ∙ ap (λ r. r.gates) c.raw-raw.ensures.parts in
    let P : ℕ → Type 0 = λ n. IsPlacing n c.in_ok-places.planes places in
    record {
      checked = c.raw-raw.ensures.checked;
      inside = record {
        inputs = without_placed _ _ _ c.raw-raw.ensures.placed.inputs.1;
        flops = c.raw-raw.ensures.placed.flops.1;
        consts = c.raw-raw.ensures.placed.consts.1;
        gates = c.raw-raw.ensures.placed.gates.1;
      };
      placing = subst P names c.in_ok-places.ensures;
      inputs = c.in_ok-parts.ensures.inputs ∙ ap (λ ps. map (placed_net ps) it.inputs) c.slice-2.ensures;
      outputs = c.in_ok-parts.ensures.outputs ∙ ap (λ ps. map (λ (f : Flop). placed_net ps f.q) it.flops) c.slice-2.ensures;
      flops = c.in_ok-parts.ensures.flops ∙ ap (λ ps. map (placed_flop ps) it.flops) c.slice-2.ensures;
      consts = c.in_ok-parts.ensures.consts ∙ ap (λ ps. map (placed_const ps) it.constants) c.slice-2.ensures;
      order = c.in_ok-order.order.items;
      ordered = c.in_ok-order.ensures;
      gates =
          c.in_ok-program.ensures
          ∙ (ap (λ ps. placed_gates ps c.as_slice-2.result.now c.slice-gates.result.now) c.slice.ensures
          ∙ (ap (λ is. placed_gates places is c.slice-gates.result.now) c.as_slice-2.ensures.value
          ∙ ap (placed_gates places c.in_ok-order.order.items) gates));
    }
