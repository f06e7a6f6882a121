-- Places of the trail: what is true before one, and what a level and a reason say of one.
use Rattle.std.proofs.Common.{◌≡◌, ◌≢◌, ℕ, zero, suc, ◌-◌, ◌<◌, ◌≤◌, arith, false, not, List, [], ◌∷◌, take, length, sym, ap, refl}
use Rattle.std.proofs.Common.{◌∙◌, inl, inr, ◌⊎◌, Some, None, eqb}
use Rattle.std.specs.Prelude.{slice_get, option_map, unwrap_or}
use Rattle.std.proofs.lemmas.Bool.{cases_Bool, cases_lt, eq-eqb, ne_eqb}
use Rattle.bs_clause.specs.Literal.{Literal, negation, has_literal}
use Rattle.bs_watch.specs.declared.watch.Level.{Level}
use Rattle.bs_watch.specs.Trail.{IsTrueOn, IsFalseOn}
use Rattle.bs_watch.specs.Places.{Place, literals_of, AreApart, IsLevelOf, IsLiteralAt, IsImpliedBy, HasNoReason}
use Rattle.bs_watch.specs.Watch.{AreLevelled}
use Rattle.bs_watch.proofs.Gets.{same_some, get_take, take_get, get_from_Contains, Contains_from_get, get_map_cases, get_map}
use Rattle.bs_watch.proofs.Literals.{negation-negation}
use Rattle.bs_solve_lemmas.specs.Reasons.{last_start}
use Rattle.bs_solve_lemmas.specs.ImplicationPoint.{IsReasonIn}
use Rattle.bs_solve_lemmas.proofs.Literals.{has-from_Contains, Contains-from_has}

-- ---- true at a place or before it

pub true_split : (places : List Place) (i : ℕ) (p : Place) (l : Literal) → slice_get places i ≡ Some p → IsTrueOn (literals_of (take (suc i) places)) l →
    (p.literal ≡ l) ⊎ IsTrueOn (literals_of (take i places)) l
true_split places i p l at there =
    let (k, found) = get_from_Contains (literals_of (take (suc i) places)) l there in
    let (q, at_k, is) = get_map_cases (λ (x : Place). x.literal) (take (suc i) places) k l found in
    let r = get_take (suc i) places k q at_k in
    elim (cases_lt k i) [
      | inl before ↦ inr (Contains_from_get (literals_of (take i places)) k l
          (get_map (λ (x : Place). x.literal) (take i places) k q (take_get i places k q before r.1) ∙ ap Some is))
      | inr past ↦
          let below : k < suc i = r.0 in
          let same : i ≡ k = omega (arith, past, below) in
          let same_place : p ≡ q = same_some p q (sym at ∙ ap (slice_get places) same ∙ r.1) in
          inl (ap (λ (x : Place). x.literal) same_place ∙ is)
    ]

-- a false literal of which the place is not the one
pub false_before : (places : List Place) (i : ℕ) (p : Place) (m : Literal) → slice_get places i ≡ Some p → m ≢ negation p.literal →
    IsFalseOn (literals_of (take (suc i) places)) m →
    IsFalseOn (literals_of (take i places)) m
false_before places i p m at other f = elim (true_split places i p (negation m) at f) [
  | inl is ↦ absurd (other (sym (negation-negation m) ∙ ap negation (sym is)))
  | inr before ↦ before
]

-- ---- levels

-- a level began there
last_level : (levels : List Level) → (0 < length levels) → (v : Level) × (slice_get levels (length levels - 1) ≡ Some v)
last_level [] h = absurd (omega (arith, h))
last_level (u ∷ levels) h = by (u ∷ levels) (length (u ∷ levels) - 1) (omega (arith, h))
  where
    by : (vs : List Level) (k : ℕ) → k < length vs → (v : Level) × (slice_get vs k ≡ Some v)
    by [] k h = absurd (omega (arith, h))
    by (w ∷ vs) zero h = (w, refl)
    by (w ∷ vs) (suc k) h = by vs k (omega (arith, h))

start_is : (levels : List Level) (v : Level) → slice_get levels (length levels - 1) ≡ Some v → last_start levels ≡ v.start
start_is levels v e = ap (λ o. unwrap_or (option_map (λ (x : Level). x.start) o) 0) e

-- a place is on the last level just where that had begun
level_at : (places : List Place) (levels : List Level) (k : ℕ) (p : Place) → AreLevelled places levels → slice_get places k ≡ Some p →
    ((last_start levels ≤ k) × (p.level ≡ length levels)) ⊎ ((k < last_start levels) × (p.level ≢ length levels))
level_at places levels k p a at = elim (cases_lt 0 (length levels)) as
    (λ _. ((last_start levels ≤ k) × (p.level ≡ length levels)) ⊎ ((k < last_start levels) × (p.level ≢ length levels))) [
      | inl some ↦
          let (v, there) = last_level levels some in
          let is = start_is levels v there in
          let few = a.few k p at in
          elim (cases_lt k v.start) as (λ _. ((last_start levels ≤ k) × (p.level ≡ length levels)) ⊎ ((k < last_start levels) × (p.level ≢ length levels))) [
            | inl before ↦
                let low = a.below (length levels - 1) k v p there at before in
                inr (omega (arith, before, is), λ e. omega (arith, low, e, some))
            | inr past ↦
                let high = a.above (length levels - 1) k v p there at past in
                inl (omega (arith, past, is), omega (arith, few, high))
          ]
      | inr none ↦
          let few = a.few k p at in
          inl (by_none levels none, omega (arith, few, none))
    ]
  where
    by_none : (vs : List Level) → length vs ≤ 0 → last_start vs ≤ k
    by_none [] h = omega arith
    by_none (v ∷ vs) h = absurd (omega (arith, h))

-- whether a false literal became so on the last level
pub is_ahead : (places : List Place) (levels : List Level) (m : Literal) (level now : ℕ) → AreApart places → AreLevelled places levels →
    IsFalseOn (literals_of places) m → IsLevelOf places m level → now ≡ length levels →
    eqb level now ≡ not (has_literal (literals_of (take (last_start levels) places)) (negation m))
is_ahead places levels m level now apart a lost is_level is_now =
    let (k, found) = get_from_Contains (literals_of places) (negation m) lost in
    let (p, at, is) = get_map_cases (λ (x : Place). x.literal) places k (negation m) found in
    let same : p.level ≡ level = is_level.only p.level (p, record { at = k; there = at; same = ap (λ (x : Literal). x.variable) is }, refl) in
    elim (level_at places levels k p a at) [
      | inl now_on ↦
          eq-eqb level now (sym same ∙ now_on.1 ∙ sym is_now) ∙
          sym (ap not (not_yet k p at is now_on.0))
      | inr before ↦
          ne_eqb level now (λ e. before.1 (same ∙ e ∙ is_now)) ∙
          sym (ap not (has-from_Contains (literals_of (take (last_start levels) places)) (negation m)
          (Contains_from_get (literals_of (take (last_start levels) places)) k (negation m)
          (get_map (λ (x : Place). x.literal) (take (last_start levels) places) k p (take_get (last_start levels) places k p before.0 at) ∙ ap Some is))))
    ]
  where
    not_yet : (k : ℕ) (p : Place) → slice_get places k ≡ Some p → p.literal ≡ negation m → last_start levels ≤ k →
        has_literal (literals_of (take (last_start levels) places)) (negation m) ≡ false
    not_yet k p at is past = elim (cases_Bool (has_literal (literals_of (take (last_start levels) places)) (negation m))) [
      | inr off ↦ off
      | inl on ↦
          let (j, found) = get_from_Contains (literals_of (take (last_start levels) places)) (negation m)
          (Contains-from_has (literals_of (take (last_start levels) places)) (negation m) on) in
          let (q, at_j, is_q) = get_map_cases (λ (x : Place). x.literal) (take (last_start levels) places) j (negation m) found in
          let early = get_take (last_start levels) places j q at_j in
          let one : j ≡ k = apart.apart j k q p early.1 at (ap (λ (x : Literal). x.variable) (is_q ∙ sym is)) in
          let less = early.0 in
          absurd (omega (arith, one, less, past))
    ]

-- ---- reasons

pub implied_in : (places : List Place) (k : ℕ) (l : Literal) (r : ℕ) → AreApart places → IsLiteralAt places k l → IsImpliedBy places l r →
    IsReasonIn places k (Some r)
implied_in places k l r apart at implied =
    let one : implied.1.at ≡ k = apart.apart implied.1.at k implied.0 at.0 implied.1.there at.1 (implied.1.same ∙ ap (λ (x : Literal). x.variable) (sym at.2)) in
    (implied.0, ap (slice_get places) (sym one) ∙ implied.1.there, implied.2)

pub reasonless_in : (places : List Place) (k : ℕ) (l : Literal) → IsLiteralAt places k l → HasNoReason places l → IsReasonIn places k None
reasonless_in places k l at none =
    (at.0, at.1, none.none at.0 (record { at = k; there = at.1; same = ap (λ (x : Literal). x.variable) at.2 }))
