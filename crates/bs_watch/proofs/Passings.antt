-- Places that nobody watches are passed over, and the watch goes on serving its arena.
use Rattle.std.proofs.Common.{◌≡◌, ℕ, ◌<◌, ◌≤◌, List, [], take, sym, ap, subst, ◌∙◌, inl, inr, ◌⊎◌, Some}
use Rattle.std.specs.Prelude.{slice_get}
use Rattle.std.proofs.lemmas.Bool.{cases_lt}
use Rattle.bs_clause.specs.Literal.{Literal, negation}
use Rattle.bs_watch.specs.declared.lists.Watcher.{Watcher}
use Rattle.bs_watch.specs.Trail.{IsFalseOn}
use Rattle.bs_watch.specs.Places.{Place, literals_of}
use Rattle.bs_watch.specs.Lists.{row, IsIn}
use Rattle.bs_watch.specs.Passing.{ArePassed}
use Rattle.bs_watch.specs.Watch.{WatchState, KeepsService, with_head}
use Rattle.bs_watch.proofs.Gets.{get_take, take_get, get_map, get_map_cases, get_from_Contains, Contains_from_get, none_is_not_some}
use Rattle.bs_watch.proofs.Literals.{negation-negation}

-- what is false on a longer front is false on the shorter one, or by a place between
false_between : (places : List Place) (start past : ℕ) (m : Literal) → IsFalseOn (literals_of (take past places)) m →
    IsFalseOn (literals_of (take start places)) m ⊎
    ((k : ℕ) × (p : Place) × (start ≤ k) × (k < past) × (slice_get places k ≡ Some p) × (p.literal ≡ negation m))
false_between places start past m lost =
    let (k, found) = get_from_Contains (literals_of (take past places)) (negation m) lost in
    let (p, there, is) = get_map_cases (λ (x : Place). x.literal) (take past places) k (negation m) found in
    let (before, at) = get_take past places k p there in
    elim (cases_lt k start) as (λ _. IsFalseOn (literals_of (take start places)) m ⊎
    ((k : ℕ) × (p : Place) × (start ≤ k) × (k < past) × (slice_get places k ≡ Some p) × (p.literal ≡ negation m))) [
      | inl early ↦ inl (Contains_from_get (literals_of (take start places)) k (negation m)
          (get_map (λ (x : Place). x.literal) (take start places) k p (take_get start places k p early at) ∙ ap Some is))
      | inr late ↦ inr (k, p, late, before, at, is)
    ]

-- no clause is in an empty list
none_in : (ws : List Watcher) (r : ℕ) → ws ≡ [] → IsIn ws r → ⊥
none_in ws r none i = none_is_not_some i.watcher (ap (λ xs. slice_get xs i.at) (sym none) ∙ i.there)

pub passed_serves : (w : WatchState) (past : ℕ) → ArePassed w.lists w.trail.places w.head past → KeepsService w (with_head w past)
passed_serves w past passed = record {
  keeps = λ clauses s. record {
    listed = record { rows = s.listed.rows; listed = s.listed.listed; both = s.listed.both; once = s.listed.once };
    guarded = record {
      guarded = λ r attached m first lost. elim (false_between w.trail.places w.head past m lost) [
        | inl early ↦ s.guarded.guarded r attached m first early
        | inr late ↦
            let (k, p, low, before, at, is) = late in
            let is_m : negation p.literal ≡ m = ap negation is ∙ negation-negation m in
            let none : row w.lists m ≡ [] = subst (λ l. row w.lists l ≡ []) is_m (passed.unwatched k p low before at) in
            absurd (none_in (row w.lists m) r none (s.listed.both attached.0 m r attached.1 first))
      ];
    };
    levels = s.levels;
  };
}

-- the same, of a watch that is equal
pub serves_by_pass : (w v : WatchState) (past : ℕ) → w ≡ v → ArePassed w.lists w.trail.places w.head past → KeepsService v (with_head w past)
serves_by_pass w v past same passed = subst (λ u. KeepsService u (with_head w past)) same (passed_serves w past passed)
