use Rattle.std.proofs.Common.{◌≡◌, ◌∙◌, ◌<◌, ℕ, List, arith, length, subst, sym}
use Rattle.std.proofs.lemmas.Grind.{get_or_default_zero}
use Rattle.bs_net.specs.Netlist.{circuit}
use Rattle.bs_stim.specs.Packing.{bit_in}
use Rattle.bs_lanes.specs.Planes.{bit_place, IsWidened}
use Rattle.bs_lanes.specs.Lanes.{LaneTable}
use Rattle.bs_lanes.specs.Layout.{place_of}
use Rattle.bs_lanes.proofs.LayoutLemmas.{plane_by_net}
use Rattle.bs_lanes.proofs.lanes.Lanes.plane.Goals as goal

pub returns : goal.returns
returns c =
    let i = c.self.inside in
    let n = c.args.net.0 in
    let layout = c.self.invariant.2 in
    let lt : n < (circuit i.net.now).nets = subst (λ (t : LaneTable). n < (circuit t.net).nets) (sym c.self.view_is) c.requires in
    let there : n < length i.layout.places = omega (arith, lt, layout.placing.size) in
    let place : c.get-place.result.now ≡ place_of i.layout.places n =
    c.get-place.ensures.value ∙ get_or_default_zero i.layout.places n c.get-place.result.now there in
    let P : List ℕ → Type 0 = λ ws. IsWidened i.wide c.widened.result (λ r. bit_in ws (bit_place i.wide c.get-place.result.now r)) in
    let Q : ℕ → Type 0 = λ p. IsWidened i.wide c.widened.result (λ r. bit_in i.nets.items (bit_place i.wide p r)) in
    let V : LaneTable → Type 0 = λ t. IsWidened t.wide c.widened.result (λ r. bit_in t.nets (bit_place t.wide n r)) in
    subst V c.self.view_is
    (plane_by_net i.wide (circuit i.net.now).nets i.layout.planes i.layout.places i.nets.items c.widened.result n layout.placing lt
    (subst Q place (subst P c.as_slice.ensures.value c.widened.ensures)))
