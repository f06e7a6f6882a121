-- A trail whose reasons are right, as the walk reads it.
use Rattle.std.proofs.Common.{◌≡◌, ℕ, ◌<◌, arith, Bool, true, false, cond, List, [], ◌∷◌, take, refl, ap, subst, ◌∙◌, inl, inr, Some, eqb, ltb, ◌≤◌}
use Rattle.std.specs.Prelude.{Contains, slice_get, is_some, option_map, unwrap_or}
use Rattle.std.specs.List.{find}
use Rattle.std.proofs.lemmas.Bool.{false≢true, cases_lt, ltb-false}
use Rattle.bs_clause.specs.Literal.{Literal, Clause, negation}
use Rattle.bs_arena.specs.Arena.{Held, held_at, literals_at}
use Rattle.bs_watch.specs.Trail.{IsOpenOn, Implies}
use Rattle.bs_watch.specs.Places.{Place, literals_of, AreApart, IsLevelOf}
use Rattle.bs_watch.specs.Watch.{AreLevelled}
use Rattle.bs_watch.proofs.Gets.{get_take, get_from_Contains, get_map_cases}
use Rattle.bs_watch.specs.declared.watch.Level.{Level}
use Rattle.bs_solve_lemmas.specs.Reasons.{live_clauses, IsReasoned, IsBelowLevels}
use Rattle.bs_solve_lemmas.proofs.Clauses.{contains_first, cons_contains}

-- the live clause of this reference
pub record IsClauseAt (clauses : List Held) (r : ℕ) (c : Clause) : Type 0 where
  pub live : is_some (held_at clauses r) ≡ true
  pub is : literals_at clauses r ≡ c

pub record IsWalkablePlace (clauses : List Held) (earlier : List Place) (p : Place) : Type 0 where
  pub unassigned : IsOpenOn (literals_of earlier) p.literal
  pub implied : (r : ℕ) → p.reason ≡ Some r → (c : Clause) × IsClauseAt clauses r c × Implies (literals_of earlier) c p.literal

pub record IsWalkable (clauses : List Held) (places : List Place) : Type 0 where
  pub placed : (k : ℕ) (p : Place) → slice_get places k ≡ Some p → IsWalkablePlace clauses (take k places) p

pub sound : (clauses : List Held) (places : List Place) → AreApart places → IsReasoned clauses places → IsWalkable clauses places
sound clauses places apart reasons = record {
  placed = λ k p at. record {
    unassigned = (earlier k p at p.literal refl, earlier k p at (negation p.literal) refl);
    implied = λ r is. let f = reasons.reasoned k p r at is in (literals_at clauses r, record { live = f.0; is = refl }, f.1);
  };
}
  where
    earlier : (k : ℕ) (p : Place) → slice_get places k ≡ Some p → (l : Literal) → l.variable ≡ p.literal.variable → ¬ Contains (literals_of (take k places)) l
    earlier k p at l same there =
        let (j, found) = get_from_Contains (literals_of (take k places)) l there in
        let (q, at_j, is) = get_map_cases (λ (x : Place). x.literal) (take k places) j l found in
        let before = get_take k places j q at_j in
        let one : j ≡ k = apart.apart j k q p before.1 at (ap (λ (x : Literal). x.variable) is ∙ same) in
        let less = before.0 in
        omega (arith, one, less)

-- a live clause is one of them
live_at : (clauses : List Held) (r : ℕ) → is_some (held_at clauses r) ≡ true → Contains (live_clauses clauses) (literals_at clauses r)
live_at [] r e = absurd (false≢true e)
live_at (h ∷ hs) r e = by (eqb h.ref r) e (live_at hs r)
  where
    by : (b : Bool) → is_some (cond b (Some h) (find (λ (x : Held). eqb x.ref r) hs)) ≡ true →
        (is_some (find (λ (x : Held). eqb x.ref r) hs) ≡ true → Contains (live_clauses hs) (literals_at hs r)) →
        Contains (live_clauses (h ∷ hs))
        (unwrap_or (option_map (λ (x : Held). x.literals) (cond b (Some h) (find (λ (x : Held). eqb x.ref r) hs))) [])
    by true t rest = contains_first h.literals (live_clauses hs)
    by false t rest = cons_contains h.literals (live_clauses hs) (literals_at hs r) (rest t)

pub live_contains : (clauses : List Held) (r : ℕ) (c : Clause) → IsClauseAt clauses r c → Contains (live_clauses clauses) c
live_contains clauses r c there = subst (Contains (live_clauses clauses)) there.is (live_at clauses r there.live)

-- the place of a literal that has level 0 is below the first level
pub below_levels : (places : List Place) (levels : List Level) (at level : ℕ) (p : Place) → AreLevelled places levels → slice_get places at ≡ Some p →
    IsLevelOf places p.literal level → ltb 0 level ≡ false → IsBelowLevels levels at
below_levels places levels at level p levelled there is none = record {
  below = λ v first. elim (cases_lt at v.start) [
    | inl before ↦ before
    | inr behind ↦
        let above : 0 < p.level = levelled.above 0 at v p first there behind in
        let same : p.level ≡ level = is.only p.level (p, record { at = at; there = there; same = refl }, refl) in
        let low : level ≤ 0 = ltb-false 0 level none in
        absurd (omega (arith, above, same, low))
  ];
}
