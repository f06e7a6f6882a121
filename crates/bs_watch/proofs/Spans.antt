-- A span of false variables while the trail grows and goes back.
use Rattle.std.proofs.Common.{◌≡◌, ◌⊎◌, ℕ, ◌+◌, ◌-◌, ◌<◌, ◌≤◌, List, [], ◌∷◌, ◌++◌, map, length, take, false, refl, sym, ap, subst, ◌∙◌, inl, inr, Some, arith}
use Rattle.std.specs.Prelude.{slice_get}
use Rattle.std.proofs.lemmas.Bool.{cases_lt}
use Rattle.std.proofs.lemmas.List.{length_push, length-map}
use Rattle.bs_clause.specs.Literal.{Literal}
use Rattle.bs_watch.specs.declared.false_span.FalseSpan.{FalseSpan}
use Rattle.bs_watch.specs.Places.{Place, TrailState, IsLiteralAt, renamed_place}
use Rattle.bs_watch.specs.Spans.{negative, no_span, IsSpan}
use Rattle.bs_watch.proofs.Gets.{get_left, get_take, take_get, get_map}
use Rattle.bs_watch.proofs.Levels.{length_front}

-- no variable
pub empty_span : (t : TrailState) (s : FalseSpan) → 1 ≤ s.first → s.past ≡ s.first → s.first ≤ t.vars + 1 → s.places ≡ 0 → IsSpan t s
empty_span t s low none high few = record {
  low = low;
  order = omega (arith, none);
  high = omega (arith, none, high);
  within = omega (arith, few);
  lost = λ v from' past. absurd (omega (arith, none, from', past));
}

-- the trail keeps the places of the span
pub kept_span : (old new : TrailState) (s : FalseSpan) → old.vars ≤ new.vars → s.places ≤ length new.places →
    ((k : ℕ) (p : Place) → k < s.places → slice_get old.places k ≡ Some p → (q : Place) × (slice_get new.places k ≡ Some q) × (q.literal ≡ p.literal)) →
    IsSpan old s → IsSpan new s
kept_span old new s vars long keeps is = record {
  low = is.low;
  order = is.order;
  high = omega (arith, is.high, vars);
  within = long;
  lost = λ v from' past.
      let (k, before, place) = is.lost v from' past in
      let (q, there, alike) = keeps k place.0 before place.1 in
      (k, before, (q, there, alike ∙ place.2));
}

pub pushed_span : (t : TrailState) (p : Place) (s : FalseSpan) → IsSpan t s → IsSpan (record { vars = t.vars; places = t.places ++ p ∷ [] }) s
pushed_span t p s is =
    kept_span t (record { vars = t.vars; places = t.places ++ p ∷ [] }) s (omega arith) (omega (arith, is.within, length_push t.places p))
    (λ k q before at. (q, get_left t.places (p ∷ []) k q at, refl)) is

pub advanced_span : (old new : TrailState) (s : FalseSpan) → new.vars ≡ old.vars → length old.places ≤ length new.places →
    take (length old.places) new.places ≡ old.places → IsSpan old s → IsSpan new s
advanced_span old new s vars more front is =
    kept_span old new s (omega (arith, vars)) (omega (arith, is.within, more))
    (λ k p before at. (p, (get_take (length old.places) new.places k p (ap (λ ps. slice_get ps k) front ∙ at)).1, refl)) is

pub renamed_span : (t : TrailState) (names : List (ℕ × ℕ)) (s : FalseSpan) → IsSpan t s →
    IsSpan (record { vars = t.vars; places = map (renamed_place names) t.places }) s
renamed_span t names s is =
    kept_span t (record { vars = t.vars; places = map (renamed_place names) t.places }) s (omega arith)
    (omega (arith, is.within, length-map t.places (renamed_place names)))
    (λ k p before at. (renamed_place names p, get_map (renamed_place names) t.places k p at, refl)) is

pub grown_span : (t : TrailState) (s : FalseSpan) → IsSpan t s → IsSpan (record { vars = t.vars + 1; places = t.places }) s
grown_span t s is = kept_span t (record { vars = t.vars + 1; places = t.places }) s (omega arith) is.within (λ k p before at. (p, at, refl)) is

pub cut_span : (t : TrailState) (end : ℕ) (s new : FalseSpan) → end ≤ length t.places →
    ((new ≡ s) × (s.places ≤ end)) ⊎ (new ≡ no_span s) → IsSpan t s → IsSpan (record { vars = t.vars; places = take end t.places }) new
cut_span t end s new short (inl same) is =
    subst (IsSpan (record { vars = t.vars; places = take end t.places })) (sym same.0)
    (kept_span t (record { vars = t.vars; places = take end t.places }) s (omega arith) (omega (arith, same.1, length_front end t.places short))
    (λ k p before at. (p, take_get end t.places k p (omega (arith, before, same.1)) at, refl)) is)
cut_span t end s new short (inr none) is =
    subst (IsSpan (record { vars = t.vars; places = take end t.places })) (sym none)
    (empty_span (record { vars = t.vars; places = take end t.places }) (no_span s) is.low refl (omega (arith, is.order, is.high)) refl)

-- one more variable, which is false by the last place
pub longer_span : (t : TrailState) (s : FalseSpan) (l : Literal) (n : ℕ) → n ≡ length t.places → 1 ≤ n → IsLiteralAt t.places (n - 1) l → l.variable ≤ t.vars →
    l.positive ≡ false → l.variable ≡ s.past → IsSpan t s → IsSpan t (record { first = s.first; past = s.past + 1; places = n })
longer_span t s l n long some at range sign next is = record {
  low = is.low;
  order = omega (arith, is.order);
  high = omega (arith, range, next);
  within = omega (arith, long);
  lost = λ v from' past. elim (cases_lt v s.past) [
    | inl early ↦ let (k, before, there) = is.lost v from' early in (k, omega (arith, before, is.within, long), there)
    | inr late ↦
        let here : l.variable ≡ v = omega (arith, next, past, late) in
        let same : l ≡ negative v = (λ i. record { variable = here i; positive = sign i }) in
        (n - 1, omega (arith, some), (at.0, at.1, at.2 ∙ same))
  ];
}
