-- What visits keep, through none and through two.
use Rattle.std.proofs.Common.{◌≡◌, ◌≢◌, ◌↔◌, ℕ, suc, zero, ◌+◌, ◌<◌, ◌≤◌, ◌-◌, true, List, [], ◌∷◌, ◌++◌, map, length, take, refl, sym, ap, subst}
use Rattle.std.proofs.Common.{◌∙◌, inl, inr, ◌⊎◌, Some, arith}
use Rattle.std.specs.Prelude.{All, Contains, slice_get, is_some, IsPermutation}
use Rattle.std.proofs.lemmas.Bool.{cases_lt}
use Rattle.std.proofs.lemmas.List.{take_all}
use Rattle.std.proofs.lemmas.List.Sorted.{IsPermutation-refl, IsPermutation-trans, Contains-permutation, All-permutation}
use Rattle.bs_clause.specs.Literal.{Literal, Clause, negation}
use Rattle.bs_arena.specs.Arena.{Content, Held, held_at, literals_at}
use Rattle.bs_watch.specs.Trail.{IsTrueOn, IsFalseOn, Implies}
use Rattle.bs_watch.specs.Places.{Place, literals_of}
use Rattle.bs_watch.specs.Look.{IsFirstTwo, HasTrue}
use Rattle.bs_watch.specs.Lists.{row, IsAttached}
use Rattle.bs_watch.specs.declared.lists.Watcher.{Watcher}
use Rattle.bs_watch.specs.Scene.{Scene, trues, AreListed, AreShuffled, IsImplied, Grows, Advances, AreMet, KeepsRoom}
use Rattle.bs_watch.proofs.Gets.{get_take, take_get, get_within, get_map, get_map_cases, get_from_Contains, Contains_from_get, none_is_not_some}

-- ---- what is true stays true

pub true_in_front : (n : ℕ) (places : List Place) (l : Literal) → IsTrueOn (literals_of (take n places)) l → IsTrueOn (literals_of places) l
true_in_front n places l t =
    let (k, found) = get_from_Contains (literals_of (take n places)) l t in
    let (p, there, same) = get_map_cases (λ (x : Place). x.literal) (take n places) k l found in
    let (before, in_all) = get_take n places k p there in
    Contains_from_get (literals_of places) k l (get_map (λ (x : Place). x.literal) places k p in_all ∙ ap Some same)

pub stays_true : (clauses : List Held) (level : ℕ) (old new : List Place) (l : Literal) → Grows clauses level old new → IsTrueOn (literals_of old) l →
    IsTrueOn (literals_of new) l
stays_true clauses level old new l g t = true_in_front (length old) new l (subst (λ ps. IsTrueOn (literals_of ps) l) (sym g.front) t)

pub true_carries : (trail later : List Literal) (c d : Clause) → ((l : Literal) → IsTrueOn trail l → IsTrueOn later l) → IsPermutation c d →
    HasTrue trail c → HasTrue later d
true_carries trail later c d more p h = record {
  literal = h.literal;
  stands = Contains-permutation c d h.literal p h.stands;
  holds = more h.literal h.holds;
}

-- ---- growing

pub grows_refl : (clauses : List Held) (level : ℕ) (places : List Place) → Grows clauses level places places
grows_refl clauses level places = record {
  longer = omega arith;
  front = take_all (length places) places (omega arith);
  implied = λ k p low e. absurd (let within = get_within places k p e in omega (arith, within, low));
  levels = λ k p low e. absurd (let within = get_within places k p e in omega (arith, within, low));
}

pub take_front : {X : Type 0} (n k : ℕ) (xs : List X) → k ≤ n → take k (take n xs) ≡ take k xs
take_front n zero xs h = refl
take_front zero (suc k) xs h = absurd (omega arith)
take_front (suc n) (suc k) [] h = refl
take_front (suc n) (suc k) (x ∷ xs) h = ap (λ ys. x ∷ ys) (take_front n k xs (omega arith))

pub implied_still : (old new : List Held) (earlier : List Place) (p : Place) → AreShuffled old new → IsImplied old earlier p → IsImplied new earlier p
implied_still old new earlier p s f = record {
  by = f.by;
  reason = f.reason;
  live = s.live f.by ∙ f.live;
  implies = record {
    stands = Contains-permutation (literals_at old f.by) (literals_at new f.by) p.literal (s.same f.by) f.implies.stands;
    unassigned = f.implies.unassigned;
    others =
        All-permutation (λ m. (m ≡ p.literal) ⊎ IsFalseOn (literals_of earlier) m) (literals_at old f.by) (literals_at new f.by) (s.same f.by) f.implies.others;
  };
}

pub grows_trans : (one two : List Held) (level : ℕ) (a b c : List Place) → AreShuffled one two → Grows one level a b → Grows two level b c → Grows two level a c
grows_trans one two level a b c s g h = record {
  longer = omega (arith, g.longer, h.longer);
  front = sym (take_front (length b) (length a) c g.longer) ∙ ap (take (length a)) h.front ∙ g.front;
  implied = λ k p low e. elim (cases_lt k (length b)) [
    | inl early ↦
        let there : slice_get b k ≡ Some p = ap (λ ps. slice_get ps k) (sym h.front) ∙ take_get (length b) c k p early e in
        let same : take k b ≡ take k c = ap (take k) (sym h.front) ∙ take_front (length b) k c (omega (arith, early)) in
        subst (λ ps. IsImplied two ps p) same (implied_still one two (take k b) p s (g.implied k p low there))
    | inr late ↦ h.implied k p late e
  ];
  levels = λ k p low e. elim (cases_lt k (length b)) [
    | inl early ↦ g.levels k p low (ap (λ ps. slice_get ps k) (sym h.front) ∙ take_get (length b) c k p early e)
    | inr late ↦ h.levels k p late e
  ];
}

-- ---- shuffles

pub shuffled_refl : (clauses : List Held) → AreShuffled clauses clauses
shuffled_refl clauses = record { names = refl; live = λ r. refl; same = λ r. IsPermutation-refl (literals_at clauses r) }

pub shuffled_trans : (a b c : List Held) → AreShuffled a b → AreShuffled b c → AreShuffled a c
shuffled_trans a b c s t = record {
  names = t.names ∙ s.names;
  live = λ r. t.live r ∙ s.live r;
  same = λ r. IsPermutation-trans (literals_at a r) (literals_at b r) (literals_at c r) (s.same r) (t.same r);
}

-- ---- advances

pub advances_refl : (level : ℕ) (s : Scene) → AreListed s → Advances level s s
advances_refl level s listed = record {
  vars = refl;
  listed = listed;
  attached = λ r. (λ a. a, λ a. a);
  shuffled = shuffled_refl s.clauses;
  rewatches = λ r m first. inl first;
  grows = grows_refl s.clauses level s.trail.places;
}

pub advances_trans : (level : ℕ) (a b c : Scene) → Advances level a b → Advances level b c → Advances level a c
advances_trans level a b c x y = record {
  vars = y.vars ∙ x.vars;
  listed = y.listed;
  attached = λ r. (λ h. (x.attached r).0 ((y.attached r).0 h), λ h. (y.attached r).1 ((x.attached r).1 h));
  shuffled = shuffled_trans a.clauses b.clauses c.clauses x.shuffled y.shuffled;
  rewatches = λ r m first. elim (y.rewatches r m first) as (λ _. IsFirstTwo (literals_at a.clauses r) m ⊎ (¬ IsFalseOn (trues a) m)) [
    | inl was ↦ x.rewatches r m was
    | inr free ↦ inr (λ lost. free (stays_true b.clauses level a.trail.places b.trail.places (negation m) x.grows lost))
  ];
  grows = grows_trans b.clauses c.clauses level a.trail.places b.trail.places c.trail.places y.shuffled x.grows y.grows;
}

-- the clauses that have been visited still have a true literal
pub met_still : (level : ℕ) (a b : Scene) (f : Literal) (at : ℕ) → Advances level a b →
    ((k : ℕ) (w : Watcher) → k < at → slice_get (row b.lists f) k ≡ Some w → (v : Watcher) × (slice_get (row a.lists f) k ≡ Some v) × (v.clause ≡ w.clause)) →
    AreMet a f at → AreMet b f at
met_still level a b f at x front m = record {
  met = λ k w before e.
      let (v, was, same) = front k w before e in
      subst (λ r. HasTrue (trues b) (literals_at b.clauses r)) same
      (true_carries (trues a) (trues b) (literals_at a.clauses v.clause) (literals_at b.clauses v.clause)
      (λ l. stays_true b.clauses level a.trail.places b.trail.places l x.grows)
      (x.shuffled.same v.clause) (m.met k v before was));
}

-- one more clause has a true literal
pub met_more : (s : Scene) (f : Literal) (at : ℕ) → AreMet s f at →
    ((w : Watcher) → slice_get (row s.lists f) at ≡ Some w → HasTrue (trues s) (literals_at s.clauses w.clause)) → AreMet s f (at + 1)
met_more s f at m here = record {
  met = λ k w before e. elim (cases_lt k at) [
    | inl early ↦ m.met k w early e
    | inr late ↦ let same : k ≡ at = omega (arith, late, before) in here w (ap (slice_get (row s.lists f)) (sym same) ∙ e)
  ];
}

-- ---- room

pub room_trans : (a b c : Content) → KeepsRoom a b → KeepsRoom b c → KeepsRoom a c
room_trans a b c x y = record { places = y.places ∙ x.places; words = y.words ∙ x.words; spare = y.spare ∙ x.spare }
