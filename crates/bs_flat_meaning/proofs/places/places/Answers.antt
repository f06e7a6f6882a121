use Rattle.std.proofs.Common.{◌≡◌, ◌∙◌, ℕ, ◌≤◌, List, Option, None, length, subst, sym, ap, arith}
use Rattle.std.proofs.lemmas.List.{length-replicate}
use Rattle.std.specs.List.{All}
use Rattle.bs_flat_meaning.specs.Places.{past}
use Rattle.bs_flat_meaning.proofs.PlaceLemmas.{ArePlacesOf, places_none, places_more, places_all}
use Rattle.bs_flat_meaning.proofs.places.places.Goals as goal

pub ids-init : goal.ids-init
ids-init c =
    let none : Option ℕ = None in
    let wide : length c.in_ok-table.table.items ≡ c.bound.result = ap (λ (t : List (Option ℕ)). length t) c.in_ok-table.ensures ∙ length-replicate c.bound.result none in
    subst (λ n. ArePlacesOf c.args.ids.now c.in_ok-table.table.items n 0) (sym wide)
    (subst (λ (t : List (Option ℕ)). ArePlacesOf c.args.ids.now t c.bound.result 0) (sym c.in_ok-table.ensures) (places_none c.args.ids.now c.bound.result))

pub ids-preserved : goal.ids-preserved
ids-preserved c =
    let none : Option ℕ = None in
    let wide : length c.in_ok-table.table.items ≡ c.bound.result = ap (λ (t : List (Option ℕ)). length t) c.in_ok-table.ensures ∙ length-replicate c.bound.result none in
    let low = c.bound.ensures c.ids.place none c.ids-test.true in
    places_more c.args.ids.now c.ids.table.items c.note.new.table.items (length c.in_ok-table.table.items) c.ids.place none c.ids-test.true
    (omega (arith, low, wide)) c.note.ensures c.ids.invariant

pub returns : goal.returns
returns c =
    let none : Option ℕ = None in
    let wide : length c.in_ok-table.table.items ≡ c.bound.result = ap (λ (t : List (Option ℕ)). length t) c.in_ok-table.ensures ∙ length-replicate c.bound.result none in
    places_all c.args.ids.now c.ids.table.items (length c.in_ok-table.table.items) c.ids.place (omega (arith, c.ids-test.false)) (omega arith)
    (subst (λ n. All (λ o. past o ≤ n) c.args.ids.now) (sym wide) c.bound.ensures) c.ids.invariant
