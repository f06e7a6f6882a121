use Rattle.std.proofs.Common.{◌≡◌, ◌∙◌, ◌<◌, List, arith, length, subst, sym}
use Rattle.std.specs.List.{All}
use Rattle.std.proofs.lemmas.List.Elements.{All-weaker}
use Rattle.bs_net.specs.declared.net.NetId.{NetId}
use Rattle.bs_net.specs.Netlist.{circuit}
use Rattle.bs_net.proofs.NetlistLemmas.{without_placed}
use Rattle.bs_lanes.proofs.layout.parts_at.Goals as goal

pub nets_at-requires : goal.nets_at-requires
nets_at-requires c =
    let it = circuit c.args.net.now in
    let size : length c.args.places.now ≡ it.nets = c.requires in
    let inputs : c.slice.result.now ≡ it.inputs = c.slice.ensures ∙ c.data_inputs.ensures in
    let P : List NetId → Type 0 = λ ns. All (λ (n : NetId). n.0 < length c.args.places.now) ns in
    subst P (sym inputs)
    (All-weaker (λ (n : NetId). n.0 < it.nets) (λ (n : NetId). n.0 < length c.args.places.now) (λ n lt. omega (arith, lt, size)) it.inputs
    (without_placed _ _ _ c.raw-raw.ensures.placed.inputs.1))
