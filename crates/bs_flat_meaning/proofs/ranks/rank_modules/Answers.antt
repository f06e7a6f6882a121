use Rattle.std.proofs.Common.{◌∙◌, ℕ, List, subst, sym}
use Rattle.bs_flat_meaning.specs.declared.children_first.Levels.{Levels}
use Rattle.bs_flat_meaning.specs.Rings.{IsRing}
use Rattle.bs_flat_meaning.specs.Ring.{IsLevels, IsChildrenFirst}
use Rattle.bs_flat_meaning.proofs.RankLemmas.{ring_is, ranked_is}
use Rattle.bs_flat_meaning.proofs.ranks.rank_modules.Goals as goal

pub returns-in-Ringed : goal.returns-in-Ringed
returns-in-Ringed c =
    let P : Levels → Type 0 = λ l. IsLevels c.slice.result.now l in
    let ring : IsRing c.slice.result.now c.in-Ringed.ring = subst P c.in-Ringed.is c.in_ok-ring.ensures in
    ring_is c.args.ids.now c.args.written.now c.in-Ringed.ring
    (subst (λ (b : List (List ℕ)). IsRing b c.in-Ringed.ring) (c.slice.ensures ∙ c.in_ok-below.ensures.numbers) ring)

pub returns-in_ok-ranked-in-Ordered : goal.returns-in_ok-ranked-in-Ordered
returns-in_ok-ranked-in-Ordered c =
    let P : Levels → Type 0 = λ l. IsLevels c.slice.result.now l in
    let order : IsChildrenFirst c.slice.result.now c.in-Ordered.order = subst P c.in-Ordered.is c.in_ok-ring.ensures in
    let made = c.in_ok-ranked-in-Ordered.ensures in
    ranked_is c.args.ids.now c.args.written.now c.in_ok-ranked-in-Ordered.ranked c.in_ok-below.below c.requires.each c.in_ok-below.ensures.numbers made.0
    c.in_ok-below.ensures.there
    (subst (λ (l : List ℕ). IsChildrenFirst c.in_ok-below.below l) (sym made.1)
    (subst (λ (b : List (List ℕ)). IsChildrenFirst b c.in-Ordered.order) c.slice.ensures order))
    made.2
