-- The unit of a retired activation literal comes.
use Rattle.std.proofs.Common.{◌≡◌, ◌≢◌, ℕ, zero, suc, ◌<◌, arith, List, [], ◌∷◌, ◌++◌, length, refl, sym, ap, subst, ◌∙◌, inl, inr, Some, None}
use Rattle.std.specs.Prelude.{Contains, slice_get, slice_set, IsPermutation}
use Rattle.std.proofs.lemmas.Bool.{cases_eq}
use Rattle.std.proofs.lemmas.List.Sorted.{IsPermutation-refl}
use Rattle.bs_clause.specs.Literal.{Literal}
use Rattle.bs_log.specs.declared.origin.Origin.TheVariants.{Retired}
use Rattle.bs_log.specs.History.{Entry}
use Rattle.bs_log.specs.Refusal.{entry_of}
use Rattle.bs_arena.specs.Arena.{Held, held_at, literals_at, Keeps}
use Rattle.bs_watch.specs.Lists.{IsAttached}
use Rattle.bs_watch.specs.Places.{Place}
use Rattle.bs_watch.specs.Watch.{WatchState, Serves, KeepsService, assigned, with_head}
use Rattle.bs_watch.proofs.CallerLemmas.{serves_more}
use Rattle.bs_watch.proofs.Gets.{same_some, get_left, get_last, get_push_cases, get_from_Contains, Contains_from_get, get_within}
use Rattle.std.proofs.lemmas.List.{append-nil}
use Rattle.bs_solve.specs.declared.database.Database.{Database}
use Rattle.bs_solve.specs.Database.{HoldsEntries}
use Rattle.bs_solve.specs.Ground.{IsGround}
use Rattle.bs_solve.specs.Retiring.{IsPut, HasRetired}
use Rattle.bs_solve.proofs.Entries.{push_cases, entry_last}
use Rattle.bs_solve.proofs.Databases.{others_added, holds_more, literals_from, id_from, live_from}
use Rattle.bs_solve.proofs.Grounds.{ground_added}

-- ---- one more reference in a place

set_here : (xs : List ℕ) (k r : ℕ) → k < length xs → slice_get (slice_set xs k r) k ≡ Some r
set_here [] k r h = absurd (omega (arith, h))
set_here (x ∷ xs) zero r h = refl
set_here (x ∷ xs) (suc k) r h = set_here xs k r (omega (arith, h))

set_other : (xs : List ℕ) (k r i : ℕ) → i ≢ k → slice_get (slice_set xs k r) i ≡ slice_get xs i
set_other [] k r i other = refl
set_other (x ∷ xs) zero r zero other = absurd (other refl)
set_other (x ∷ xs) zero r (suc i) other = refl
set_other (x ∷ xs) (suc k) r zero other = refl
set_other (x ∷ xs) (suc k) r (suc i) other = set_other xs k r i (λ e. other (ap (λ n. suc n) e))

pub put_last : (old new : List ℕ) (at r : ℕ) → at ≡ length old → new ≡ old ++ r ∷ [] → IsPut old new at r
put_last old new at r is grown = record {
  here = subst (λ xs. slice_get xs at ≡ Some r) (sym grown) (ap (slice_get (old ++ r ∷ [])) is ∙ get_last old r);
  front = λ k q less e. subst (λ xs. slice_get xs k ≡ Some q) (sym grown) (get_left old (r ∷ []) k q e);
  stay = λ q there.
      let (k, e) = get_from_Contains old q there in
      subst (λ xs. Contains xs q) (sym grown) (Contains_from_get (old ++ r ∷ []) k q (get_left old (r ∷ []) k q e));
  only = λ q there. elim (push_cases old r q (subst (λ xs. Contains xs q) grown there)) [ inl was ↦ inl was | inr last ↦ inr (sym last) ];
}

pub put_inside : (old new : List ℕ) (at r first : ℕ) → at < length old → slice_get old at ≡ Some first → new ≡ slice_set (old ++ first ∷ []) at r →
    IsPut old new at r
put_inside old new at r first less is_first is =
    let long : at < length (old ++ first ∷ []) = get_within (old ++ first ∷ []) at first (get_left old (first ∷ []) at first is_first) in
    let other : (k q : ℕ) → k ≢ at → slice_get (old ++ first ∷ []) k ≡ Some q → slice_get new k ≡ Some q =
    λ k q apart e. subst (λ xs. slice_get xs k ≡ Some q) (sym is) (set_other (old ++ first ∷ []) at r k apart ∙ e) in
    record {
      here = subst (λ xs. slice_get xs at ≡ Some r) (sym is) (set_here (old ++ first ∷ []) at r long);
      front = λ k q before e. other k q (λ same. (let b = before in omega (arith, b, same))) (get_left old (first ∷ []) k q e);
      stay = λ q there.
          let (k, e) = get_from_Contains old q there in
          elim (cases_eq k at) [
            | inl same ↦
                let one : first ≡ q = same_some first q (sym is_first ∙ ap (slice_get old) (sym same) ∙ e) in
                Contains_from_get new (length old) q (other (length old) q (λ e2. (let h = less in omega (arith, h, e2)))
                (get_last old first ∙ ap Some one))
            | inr apart ↦ Contains_from_get new k q (other k q apart (get_left old (first ∷ []) k q e))
          ];
      only = λ q there.
          let (k, e) = get_from_Contains new q there in
          let found : slice_get (slice_set (old ++ first ∷ []) at r) k ≡ Some q = subst (λ xs. slice_get xs k ≡ Some q) is e in
          elim (cases_eq k at) [
            | inl same ↦ inr (sym (same_some r q (sym (set_here (old ++ first ∷ []) at r long) ∙
                ap (slice_get (slice_set (old ++ first ∷ []) at r)) (sym same) ∙ found)))
            | inr apart ↦ elim (get_push_cases old first q k (sym (set_other (old ++ first ∷ []) at r k apart) ∙ found)) [
              | inl was ↦ inl (Contains_from_get old k q was)
              | inr last ↦ inl (subst (Contains old) last.1 (Contains_from_get old at first is_first))
            ]
          ];
    }

-- ---- the unit

pub retired : (old new : WatchState) (before after : List Held) (database more : Database) (id r : ℕ) (unit : Literal) → Serves old before → Keeps before after →
    after ≡ before ++ record { ref = r; id = id; literals = unit ∷ [] } ∷ [] → held_at before r ≡ None →
    held_at after r ≡ Some (record { ref = r; id = id; literals = unit ∷ [] }) →
    IsPut database.shorts.items more.shorts.items (length old.trail.places) r → more.rows.items ≡ database.rows.items →
    new ≡ assigned old unit (Some r) → KeepsService old new → HasRetired old new before after database more id unit
retired old new before after database more id r unit serves keeps added fresh found put rows is service =
    let h : Held = record { ref = r; id = id; literals = unit ∷ [] } in
    let e : Entry = record { id = id; origin = Retired; literals = unit ∷ [] } in
    let p : Place = record { literal = unit; reason = Some r; level = length old.levels } in
    let others = others_added before after h added in
    let sole : literals_at after r ≡ unit ∷ [] = literals_from after r h found in
    let places : new.trail.places ≡ old.trail.places ++ p ∷ [] = ap (λ (x : WatchState). x.trail.places) is in
    record {
      serves = service.keeps after (serves_more old before after serves keeps);
      vars = ap (λ (x : WatchState). x.trail.vars) is;
      levels = ap (λ (x : WatchState). x.levels) is;
      rows = rows;
      holds_entries = λ es free s. holds_more old.lists new.lists before after database more es r e s free others fresh (live_from after r h found)
          (id_from after r h found) (subst (IsPermutation (unit ∷ [])) (sym sole) (IsPermutation-refl (unit ∷ [])))
          (λ q a. subst (λ ls. IsAttached ls q) (sym (ap (λ (x : WatchState). x.lists) is)) a)
          (λ two. absurd (let n = ap length sole in omega (arith, two, n)))
          put.stay (λ few. Contains_from_get more.shorts.items (length old.trail.places) r put.here)
          (λ q there. elim (put.only q there) [
            | inl was ↦ inl was
            | inr here ↦ inr (here, (let n = ap length sole in omega (arith, n)))
          ]) (rows ∙ sym (append-nil database.rows.items));
      ground = λ es free s g.
          let front = ground_added old.lists before after database more.shorts.items es e r old.trail.places s others fresh put.front g in
          record {
            each = λ k q at. elim (get_push_cases old.trail.places p q k (subst (λ ps. slice_get ps k ≡ Some q) places at)) [
              | inl was ↦ front.each k q was
              | inr last ↦ record {
                ref = r;
                entry = e;
                at = ap (slice_get more.shorts.items) last.0 ∙ put.here;
                reason = ap (λ (x : Place). x.reason) (sym last.1);
                sole = sole ∙ ap (λ (x : Place). x.literal ∷ []) last.1;
                found = ap (entry_of (es ++ e ∷ [])) (id_from after r h found) ∙ entry_last es e free;
                retired = refl;
              }
            ];
          };
    }

-- the same, where places that nobody watches have been passed over since
pub retired_passed : (old mid new : WatchState) (before after : List Held) (database more : Database) (id head : ℕ) (unit : Literal) →
    HasRetired old mid before after database more id unit → new ≡ with_head mid head → KeepsService mid new →
    HasRetired old new before after database more id unit
retired_passed old mid new before after database more id head unit h is service = record {
  serves = service.keeps after h.serves;
  vars = ap (λ (x : WatchState). x.trail.vars) is ∙ h.vars;
  levels = ap (λ (x : WatchState). x.levels) is ∙ h.levels;
  rows = h.rows;
  holds_entries = λ es free s. subst (λ ls. HoldsEntries ls after more (es ++ record { id = id; origin = Retired; literals = unit ∷ [] } ∷ []))
      (sym (ap (λ (x : WatchState). x.lists) is)) (h.holds_entries es free s);
  ground = λ es free s g.
      subst (λ ps. IsGround (es ++ record { id = id; origin = Retired; literals = unit ∷ [] } ∷ []) more.shorts.items after ps)
      (sym (ap (λ (x : WatchState). x.trail.places) is)) (h.ground es free s g);
}
