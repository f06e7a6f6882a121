-- The values of a trail, variable by variable.
use Rattle.std.proofs.Common.{◌≡◌, ℕ, ◌+◌, ◌-◌, ◌<◌, ◌≤◌, arith, Bool, false, List, [], ◌∷◌, ◌++◌, length, sym, ap, ◌∙◌, inl, inr, Some, None}
use Rattle.std.specs.Prelude.{Contains, slice_get, slice_index_or}
use Rattle.std.proofs.lemmas.Bool.{cases_Bool, cases_lt}
use Rattle.std.proofs.lemmas.List.{length_push}
use Rattle.std.proofs.lemmas.Option.{get_or_from_slice_get}
use Rattle.bs_clause.specs.Literal.{code_of, has_literal}
use Rattle.bs_clause.proofs.Literals.{Contains-from_has}
use Rattle.bs_watch.specs.declared.false_span.FalseSpan.{FalseSpan}
use Rattle.bs_watch.specs.Places.{Place, TrailState, AreApart, literals_of}
use Rattle.bs_watch.specs.Spans.{negative, IsSpan}
use Rattle.bs_watch.specs.Tables.{HasValues as HasTrailValues}
use Rattle.bs_watch.proofs.Guards.{consistent}
use Rattle.bs_solve_lemmas.specs.Values.{positive, HasValues, values_of}
use Rattle.bs_watch.proofs.Gets.{get_left, get_last, get_map, Contains_from_get}
use Rattle.bs_solve_lemmas.proofs.Solutions.{value_in_front, value_in_middle, value_behind, length_values}
use Rattle.bs_solve.specs.Between.{AreBetween}
use Rattle.bs_solve.proofs.FirstLevels.{value_by_code}

-- no variable
pub between_none : (trues : List Bool) (first : ℕ) → AreBetween trues first first []
between_none trues first = record {
  length_is = omega arith;
  given = λ v from' past. absurd (omega (arith, from', past));
}

-- one more variable
pub between_more : (trues : List Bool) (first n : ℕ) (values : List Bool) (b : Bool) → first ≤ n → AreBetween trues first n values →
    b ≡ slice_index_or trues (code_of (positive n)) false → AreBetween trues first (n + 1) (values ++ b ∷ [])
between_more trues first n values b low a is = record {
  length_is = omega (arith, low, a.length_is, length_push values b);
  given = λ v from' past. elim (cases_lt v n) as (λ _. slice_get (values ++ b ∷ []) (v - first) ≡ Some (slice_index_or trues (code_of (positive v)) false)) [
    | inl early ↦ get_left values (b ∷ []) (v - first) (slice_index_or trues (code_of (positive v)) false) (a.given v from' early)
    | inr late ↦
        let same : v ≡ n = omega (arith, late, past) in
        let place : v - first ≡ length values = omega (arith, same, a.length_is) in
        ap (slice_get (values ++ b ∷ [])) place ∙ get_last values b
        ∙ ap Some (is ∙ ap (λ k. slice_index_or trues (code_of (positive k)) false) (sym same))
  ];
}

-- a variable of the span is false
in_span : (t : TrailState) (s : FalseSpan) (v : ℕ) → AreApart t.places → IsSpan t s → s.first ≤ v → v < s.past →
    has_literal (literals_of t.places) (positive v) ≡ false
in_span t s v apart is from' past =
    let (k, before, place) = is.lost v from' past in
    let lost : Contains (literals_of t.places) (negative v) =
    Contains_from_get (literals_of t.places) k (negative v)
    (get_map (λ (p : Place). p.literal) t.places k place.0 place.1 ∙ ap Some place.2) in
    elim (cases_Bool (has_literal (literals_of t.places) (positive v))) as (λ _. has_literal (literals_of t.places) (positive v) ≡ false) [
      | inl there ↦ absurd (consistent t.places apart (positive v) (Contains-from_has (literals_of t.places) (positive v) there) lost)
      | inr none ↦ none
    ]

-- the values before a span, in it and behind it are those of the trail
pub shown : (trues : List Bool) (t : TrailState) (s : FalseSpan) (vars : ℕ) (front back : List Bool) → t.vars ≡ vars →
    HasTrailValues trues (literals_of t.places) → AreApart t.places → IsSpan t s → AreBetween trues 1 s.first front →
    AreBetween trues s.past (vars + 1) back → HasValues (literals_of t.places) vars (values_of front (s.past - s.first) back)
shown trues t s vars front back same h apart is f b = record {
  length_is =
      let long = length_values front back (s.past - s.first) in
      omega (arith, long, f.length_is, b.length_is, is.low, is.order, is.high, same);
  given = λ v some inside.
      get_or_from_slice_get (values_of front (s.past - s.first) back) (v - 1) (Some (has_literal (literals_of t.places) (positive v))) None
      (elim (cases_lt v s.first) as
      (λ _. slice_get (values_of front (s.past - s.first) back) (v - 1) ≡ Some (Some (has_literal (literals_of t.places) (positive v)))) [
        | inl early ↦
            value_in_front front back (s.past - s.first) (v - 1) (slice_index_or trues (code_of (positive v)) false) (f.given v some early)
            ∙ ap (λ x. Some (Some x)) (value_by_code trues (literals_of t.places) (positive v) h)
        | inr late ↦ elim (cases_lt v s.past) as
            (λ _. slice_get (values_of front (s.past - s.first) back) (v - 1) ≡ Some (Some (has_literal (literals_of t.places) (positive v)))) [
              | inl early ↦
                  value_in_middle front back (s.past - s.first) (v - 1) (v - s.first) (omega (arith, f.length_is, late, is.low, some))
                  (omega (arith, early, late))
                  ∙ ap (λ x. Some (Some x)) (sym (in_span t s v apart is late early))
              | inr past ↦
                  value_behind front back (s.past - s.first) (v - 1) (v - s.past) (slice_index_or trues (code_of (positive v)) false)
                  (omega (arith, f.length_is, past, is.low, is.order, some)) (b.given v past (omega (arith, inside)))
                  ∙ ap (λ x. Some (Some x)) (value_by_code trues (literals_of t.places) (positive v) h)
            ]
      ]);
}
