-- The literals that a clause is to watch come to its front.
use Rattle.std.proofs.Common.{◌≡◌, ◌≢◌, ℕ, ◌+◌, ◌<◌, ◌≤◌, true, List, [], ◌∷◌, map, length, swap, refl, sym, ap, subst, ◌∙◌, inl, inr, ◌⊎◌}
use Rattle.std.proofs.Common.{Option, Some, None, arith}
use Rattle.std.specs.Prelude.{slice_get, option_map, IsPermutation}
use Rattle.std.proofs.lemmas.Bool.{cases_eq, cases_lt}
use Rattle.std.proofs.lemmas.List.Edits.{length-swap}
use Rattle.std.proofs.lemmas.List.Sorted.{IsPermutation-swap, IsPermutation-trans, All-permutation}
use Rattle.bs_clause.specs.Literal.{Literal, Clause, negation}
use Rattle.bs_clause.specs.Range.{IsWithin}
use Rattle.bs_arena.specs.Arena.{Held, swapped}
use Rattle.bs_watch.specs.Trail.{IsFalseOn}
use Rattle.bs_watch.specs.Places.{Place, AreApart, IsPlaceOf, IsOnLevel, literals_of}
use Rattle.bs_watch.specs.Scene.{IsWatchable}
use Rattle.bs_watch.specs.Choice.{IsNoLower, AreHighest, IsHighestOf, IsHigherOf, IsLifted}
use Rattle.bs_watch.proofs.Gets.{some_at, get_within, get_from_Contains, get_map_cases, same_some}
use Rattle.bs_watch.proofs.TableLemmas.{one_level}
use Rattle.bs_watch.proofs.Removals.{get_swap_first, get_swap_second, get_swap_other}

-- ---- one literal is no lower than another

pub no_lower_refl : (places : List Place) (l : Literal) → ((i j : ℕ) → IsOnLevel places l i → IsOnLevel places l j → i ≡ j) → IsNoLower places l l
no_lower_refl places l one = λ lost. (lost, λ i j a b. let e = one i j a b in omega (arith, e))

pub no_lower_trans : (places : List Place) (l m n : Literal) → (IsFalseOn (literals_of places) m → (j : ℕ) × IsOnLevel places m j) →
    IsNoLower places l m → IsNoLower places m n → IsNoLower places l n
no_lower_trans places l m n has a b = λ lost.
    let (lost_m, low_m) = a lost in
    let (lost_n, low_n) = b lost_m in
    let (j, on_j) = has lost_m in
    (lost_n, λ i k on_i on_k. let first = low_m i j on_i on_j in let second = low_n j k on_j on_k in omega (arith, first, second))

-- a false literal became false on a level
pub false_has_level : (places : List Place) (m : Literal) → IsFalseOn (literals_of places) m → (j : ℕ) × IsOnLevel places m j
false_has_level places m lost =
    let (k, found) = get_from_Contains (literals_of places) (negation m) lost in
    let (p, there, is) = get_map_cases (λ (x : Place). x.literal) places k (negation m) found in
    (p.level, (p, record { at = k; there = there; same = ap (λ (x : Literal). x.variable) is }, refl))

pub no_lower_same : (places : List Place) (l m : Literal) → AreApart places → l ≡ m → IsNoLower places l m
no_lower_same places l m a same = subst (IsNoLower places l) same (no_lower_refl places l (λ i j x y. one_level places l i j a x y))

pub highest_one : (places : List Place) (c : Clause) (start : ℕ) → AreApart places → IsHighestOf places c start (start + 1) start
highest_one places c start a = record {
  low = omega arith;
  high = omega arith;
  highest = λ k l m low before at_l at_m.
      let same : k ≡ start = omega (arith, low, before) in
      no_lower_same places l m a (same_some l m (sym at_l ∙ ap (slice_get c) (sym same) ∙ at_m));
}

-- ---- the places of a list two of whose elements are exchanged

-- where the element at place k stood before the places i and j were exchanged
pub record Stood (i j k was : ℕ) : Type 0 where
  pub is : ((k ≡ i) × (was ≡ j)) ⊎ (((k ≡ j) × (was ≡ i)) ⊎ ((k ≢ i) × ((k ≢ j) × (was ≡ k))))

pub from_swap : {X : Type 0} (xs : List X) (i j k : ℕ) (x : X) → i < length xs → j < length xs → slice_get (swap xs i j) k ≡ Some x →
    (was : ℕ) × (slice_get xs was ≡ Some x) × Stood i j k was
from_swap {X} xs i j k x in_i in_j e =
    let (y, at_i) = some_at xs i in_i in
    let (z, at_j) = some_at xs j in_j in
    elim (cases_eq k j) as (λ _. (was : ℕ) × (slice_get xs was ≡ Some x) × Stood i j k was) [
      | inl is_j ↦ (i, at_i ∙ sym (sym e ∙ ap (slice_get (swap xs i j)) is_j ∙ get_swap_second xs i j y z at_i at_j), record { is = inr (inl (is_j, refl)) })
      | inr not_j ↦ elim (cases_eq k i) as (λ _. (was : ℕ) × (slice_get xs was ≡ Some x) × Stood i j k was) [
        | inl is_i ↦ (
          j,
          at_j
              ∙ sym (sym e ∙ ap (slice_get (swap xs i j)) is_i ∙ get_swap_first xs i j y z (λ same. not_j (is_i ∙ same)) at_i at_j),
          record { is = inl (is_i, refl) },
        )
        | inr not_i ↦ (k, sym (get_swap_other xs i j k y z at_i at_j not_i not_j) ∙ e, record { is = inr (inr (not_i, (not_j, refl))) })
      ]
    ]

-- no two places come from one
pub apart_stood : (i j k n was : ℕ) → Stood i j k was → Stood i j n was → k ≡ n
apart_stood i j k n was a b = elim a.is as (λ _. k ≡ n) [
  | inl x ↦ elim b.is as (λ _. k ≡ n) [
    | inl y ↦ x.0 ∙ sym y.0
    | inr more ↦ elim more as (λ _. k ≡ n) [
      | inl y ↦ x.0 ∙ sym y.1 ∙ x.1 ∙ sym y.0
      | inr y ↦ absurd (y.1.0 (sym y.1.1 ∙ x.1))
    ]
  ]
  | inr rest ↦ elim rest as (λ _. k ≡ n) [
    | inl x ↦ elim b.is as (λ _. k ≡ n) [
      | inl y ↦ x.0 ∙ sym y.1 ∙ x.1 ∙ sym y.0
      | inr more ↦ elim more as (λ _. k ≡ n) [
        | inl y ↦ x.0 ∙ sym y.0
        | inr y ↦ absurd (y.0 (sym y.1.1 ∙ x.1))
      ]
    ]
    | inr x ↦ elim b.is as (λ _. k ≡ n) [
      | inl y ↦ absurd (x.1.0 (sym x.1.1 ∙ y.1))
      | inr more ↦ elim more as (λ _. k ≡ n) [
        | inl y ↦ absurd (x.0 (sym x.1.1 ∙ y.1))
        | inr y ↦ sym x.1.1 ∙ y.1.1
      ]
    ]
  ]
]

-- ---- two literals in turn come to the front

pub lifted_permuted : (places : List Place) (c d : Clause) (to : ℕ) → to < length c → IsLifted places c d to → IsPermutation c d
lifted_permuted places c d to within x = IsPermutation-swap c d to x.best within x.highest.high x.exchanged

pub lifted_watchable : (vars : ℕ) (places : List Place) (c d : Clause) (to : ℕ) → to < length c → IsLifted places c d to → IsWatchable vars c →
    IsWatchable vars d
lifted_watchable vars places c d to within x w = record {
  long = let long : length d ≡ length c = ap length x.exchanged ∙ length-swap c to x.best in omega (arith, long, w.long);
  apart = λ i j l m a b same.
      let (was_i, at_i, from_i) = from_swap c to x.best i l within x.highest.high (ap (λ e. slice_get e i) (sym x.exchanged) ∙ a) in
      let (was_j, at_j, from_j) = from_swap c to x.best j m within x.highest.high (ap (λ e. slice_get e j) (sym x.exchanged) ∙ b) in
      let one : was_i ≡ was_j = w.apart was_i was_j l m at_i at_j same in
      apart_stood to x.best i j was_j (subst (Stood to x.best i) one from_i) from_j;
  range = All-permutation (IsWithin vars) c d (lifted_permuted places c d to within x) w.range;
}

pub chosen : (places : List Place) (c d e : Clause) → 2 ≤ length c → IsLifted places c d 0 → IsLifted places d e 1 → AreHighest places e
chosen places c d e long x y =
    let long_d : length d ≡ length c = ap length x.exchanged ∙ length-swap c 0 x.best in
    let in_d : 1 < length d = omega (arith, long_d, long) in
    record {
      first = λ k l m at_l at_m.
          let (was_l, there_l, from_l) = from_swap d 1 y.best 0 l in_d y.highest.high (ap (λ z. slice_get z 0) (sym y.exchanged) ∙ at_l) in
          let (was_m, there_m, from_m) = from_swap d 1 y.best k m in_d y.highest.high (ap (λ z. slice_get z k) (sym y.exchanged) ∙ at_m) in
          let zeroth : was_l ≡ 0 = elim from_l.is as (λ _. was_l ≡ 0) [
            | inl z ↦ absurd (omega (arith, z.0))
            | inr more ↦ elim more as (λ _. was_l ≡ 0) [
              | inl z ↦ absurd (omega (arith, z.0, y.highest.low))
              | inr z ↦ z.1.1
            ]
          ] in
          let (old_l, here_l, stood_l) =
          from_swap c 0 x.best 0 l (omega (arith, long)) x.highest.high (ap (λ z. slice_get z 0) (sym x.exchanged) ∙ ap (slice_get d) (sym zeroth) ∙ there_l) in
          let (old_m, here_m, stood_m) =
          from_swap c 0 x.best was_m m (omega (arith, long)) x.highest.high (ap (λ z. slice_get z was_m) (sym x.exchanged) ∙ there_m) in
          let best : old_l ≡ x.best = elim stood_l.is as (λ _. old_l ≡ x.best) [
            | inl z ↦ z.1
            | inr more ↦ elim more as (λ _. old_l ≡ x.best) [
              | inl z ↦ z.1 ∙ z.0
              | inr z ↦ absurd (z.0 refl)
            ]
          ] in
          x.highest.highest old_m l m (omega arith) (get_within c old_m m here_m) (ap (slice_get c) (sym best) ∙ here_l) here_m;
      second = λ k l m low at_l at_m.
          let (was_l, there_l, from_l) = from_swap d 1 y.best 1 l in_d y.highest.high (ap (λ z. slice_get z 1) (sym y.exchanged) ∙ at_l) in
          let (was_m, there_m, from_m) = from_swap d 1 y.best k m in_d y.highest.high (ap (λ z. slice_get z k) (sym y.exchanged) ∙ at_m) in
          let best : was_l ≡ y.best = elim from_l.is as (λ _. was_l ≡ y.best) [
            | inl z ↦ z.1
            | inr more ↦ elim more as (λ _. was_l ≡ y.best) [
              | inl z ↦ z.1 ∙ z.0
              | inr z ↦ absurd (z.0 refl)
            ]
          ] in
          let past : 1 ≤ was_m = elim from_m.is as (λ _. 1 ≤ was_m) [
            | inl z ↦ omega (arith, z.1, y.highest.low)
            | inr more ↦ elim more as (λ _. 1 ≤ was_m) [
              | inl z ↦ omega (arith, z.1)
              | inr z ↦ omega (arith, z.1.1, low)
            ]
          ] in
          y.highest.highest was_m l m past (get_within d was_m m there_m) (ap (slice_get d) (sym best) ∙ there_l) there_m;
    }

-- one more literal is looked at
pub higher_more : (places : List Place) (c : Clause) (start at best result : ℕ) → AreApart places → start < at → at ≤ length c →
    IsHighestOf places c start at best → IsHigherOf places c best at result → IsHighestOf places c start (at + 1) result
higher_more places c start at best result a past inside h r =
    let (b, at_b) = some_at c best (omega (arith, h.high, inside)) in
    record {
      low = elim r.one [ inl same ↦ omega (arith, same, h.low) | inr same ↦ omega (arith, same, past) ];
      high = elim r.one [ inl same ↦ omega (arith, same, h.high) | inr same ↦ omega (arith, same) ];
      highest = λ k l m low before at_l at_m. elim (cases_eq k at) [
        | inl same ↦ r.no_lower k l m (inr same) at_l at_m
        | inr other ↦ no_lower_trans places l b m (false_has_level places b) (r.no_lower best l b (inl refl) at_l at_b)
            (h.highest k b m low (below k other before) at_b at_m)
      ];
    }
  where
    below : (k : ℕ) → k ≢ at → k < at + 1 → k < at
    below k other before = elim (cases_lt k at) [ inl less ↦ less | inr more ↦ absurd (other (omega (arith, more, before))) ]

-- the higher one of two literals
pub higher_of : (places : List Place) (c : Clause) (a b n : ℕ) (x y : Literal) → AreApart places → (n ≡ a) ⊎ (n ≡ b) → slice_get c a ≡ Some x →
    slice_get c b ≡ Some y →
    ((z : Literal) → slice_get c n ≡ Some z → IsNoLower places z x × IsNoLower places z y) → IsHigherOf places c a b n
higher_of places c a b n x y apart one at_x at_y both = record {
  one = one;
  no_lower = λ k l m which at_l at_m. elim which [
    | inl is_a ↦ subst (IsNoLower places l) (same_some x m (sym at_x ∙ ap (slice_get c) (sym is_a) ∙ at_m)) (both l at_l).0
    | inr is_b ↦ subst (IsNoLower places l) (same_some y m (sym at_y ∙ ap (slice_get c) (sym is_b) ∙ at_m)) (both l at_l).1
  ];
}

-- an exchange of literals keeps the id
pub id_swapped : (i j : ℕ) (o : Option Held) → option_map (λ (h : Held). h.id) (option_map (λ h. swapped h i j) o) ≡ option_map (λ (h : Held). h.id) o
id_swapped i j None = refl
id_swapped i j (Some h) = refl
