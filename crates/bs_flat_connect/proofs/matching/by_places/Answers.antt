use Rattle.std.proofs.Common.{◌≡◌, ◌++◌, ◌∷◌, ◌+◌, [], List, Option, drop, ap, sym, ◌∙◌}
use Rattle.std.specs.Prelude.{slice_get}
use Rattle.bs_flat_connect.specs.declared.ports.Port.{Port}
use Rattle.bs_flat_connect.specs.declared.matching.Matched.{Matched}
use Rattle.bs_flat_connect.specs.Matching.{by_place, places_from}
use Rattle.bs_flat_connect.proofs.MatchLemmas.{places_more, places_end}
use Rattle.bs_flat_connect.proofs.matching.by_places.Goals as goal

pub connections-preserved : goal.connections-preserved
connections-preserved c =
    let ports = c.args.ports.now.ports in
    let cs = c.args.connections.now in
    let i = c.connections.place in
    let one : c.by_place.result ≡ by_place (slice_get ports i) c.get.result =
    c.by_place.ensures ∙ ap (λ (o : Option Port). by_place o c.get.result) c.at.ensures in
    places_more ports c.connections.all cs i c.get.result c.index-connections-place.result c.connections-test.true
    (c.get.ensures ∙ c.index-connections-place.is) c.connections.invariant
    ∙ ap (λ (l : List Matched). l ++ places_from ports (i + 1) (drop (i + 1) cs))
    (ap (λ (m : Matched). c.connections.all ++ m ∷ []) (sym one) ∙ sym c.in_ok-push.ensures.ok)

pub returns : goal.returns
returns c = places_end c.args.ports.now.ports c.connections.all c.args.connections.now c.connections.place c.connections-test.false c.connections.invariant
