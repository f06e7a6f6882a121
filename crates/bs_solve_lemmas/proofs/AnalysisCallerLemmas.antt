-- What keeps the reasons of a trail right, and the marks clear.
use Rattle.std.proofs.Common.{◌≡◌, ℕ, zero, suc, arith, true, List, [], ◌∷◌, ◌++◌, map, length, take, refl, sym}
use Rattle.std.proofs.Common.{ap, subst, ◌∙◌, inl, inr, ◌⊎◌, Option, Some, None}
use Rattle.std.specs.Prelude.{slice_get, is_some, option_map, unwrap_or, IsPermutation}
use Rattle.std.proofs.lemmas.Bool.{cases_lt, cases_eq, false≢true}
use Rattle.std.proofs.lemmas.List.{take-append-le, take_at}
use Rattle.std.proofs.lemmas.List.Sorted.{Contains-permutation, All-permutation}
use Rattle.bs_clause.specs.Literal.{Literal, Clause}
use Rattle.bs_arena.specs.Arena.{Held, held_at, literals_at, KeepsOthers}
use Rattle.bs_arena.specs.Renaming.{new_name, IsRenaming}
use Rattle.bs_arena.proofs.Lookups.{renamed_is_live}
use Rattle.bs_watch.specs.Trail.{IsFalseOn, Implies}
use Rattle.bs_watch.specs.Places.{Place, literals_of, renamed_place}
use Rattle.bs_watch.specs.Scene.{AreShuffled, IsImplied, Grows}
use Rattle.bs_watch.proofs.Gets.{none_is_not_some, same_some, get_push_cases, get_within, get_take, take_get, get_map_cases}
use Rattle.bs_watch.proofs.Advancing.{take_front}
use Rattle.bs_watch.proofs.Renames.{same_literals}
use Rattle.bs_solve_lemmas.specs.Reasons.{IsReasoned}

-- ---- the trail changes

pub reasoned_nil : (clauses : List Held) → IsReasoned clauses []
reasoned_nil clauses = record { reasoned = λ k p r e is. absurd (none_is_not_some p e) }

pub reasoned_take : (clauses : List Held) (places : List Place) (n : ℕ) → IsReasoned clauses places → IsReasoned clauses (take n places)
reasoned_take clauses places n w = record {
  reasoned = λ k p r e is.
      let found = get_take n places k p e in
      let before = found.0 in
      let f = w.reasoned k p r found.1 is in
      (f.0, subst (λ ps. Implies (literals_of ps) (literals_at clauses r) p.literal) (sym (take_front n k places (omega (arith, before)))) f.1);
}

-- one more place, whose reason is right
pub reasoned_push : (clauses : List Held) (places : List Place) (p : Place) → IsReasoned clauses places →
    ((r : ℕ) → p.reason ≡ Some r → (is_some (held_at clauses r) ≡ true) × Implies (literals_of places) (literals_at clauses r) p.literal) →
    IsReasoned clauses (places ++ p ∷ [])
reasoned_push clauses places p w last = record {
  reasoned = λ k q r e is. elim (get_push_cases places p q k e) [
    | inl there ↦
        let within = get_within places k q there in
        let f = w.reasoned k q r there is in
        (f.0, subst (λ ps. Implies (literals_of ps) (literals_at clauses r) q.literal) (sym (take-append-le k places (p ∷ []) (omega (arith, within)))) f.1)
    | inr end ↦
        let f = last r (ap (λ (x : Place). x.reason) end.1 ∙ is) in (
          f.0,
          subst (λ ps. Implies (literals_of ps) (literals_at clauses r) q.literal) (sym (take_at places (p ∷ []) k (sym end.0)))
              (subst (λ (x : Place). Implies (literals_of places) (literals_at clauses r) x.literal) end.1 f.1),
        )
  ];
}

pub reasoned_free : (clauses : List Held) (places : List Place) (p : Place) → p.reason ≡ None → IsReasoned clauses places →
    IsReasoned clauses (places ++ p ∷ [])
reasoned_free clauses places p free w = reasoned_push clauses places p w (λ r is. absurd (none_is_not_some r (sym free ∙ is)))

-- ---- the clauses change

pub implies_permuted : (trail : List Literal) (c d : Clause) (l : Literal) → IsPermutation c d → Implies trail c l → Implies trail d l
implies_permuted trail c d l same f = record {
  stands = Contains-permutation c d l same f.stands;
  unassigned = f.unassigned;
  others = All-permutation (λ m. (m ≡ l) ⊎ IsFalseOn trail m) c d same f.others;
}

-- each reason is live still, its literals in any order
pub reasoned_respelled : (old new : List Held) (places : List Place) →
    ((r : ℕ) → is_some (held_at old r) ≡ true → (is_some (held_at new r) ≡ true) × IsPermutation (literals_at old r) (literals_at new r)) →
    IsReasoned old places → IsReasoned new places
reasoned_respelled old new places same w = record {
  reasoned = λ k p r e is.
      let f = w.reasoned k p r e is in
      let s = same r f.0 in
      (s.0, implies_permuted (literals_of (take k places)) (literals_at old r) (literals_at new r) p.literal s.1 f.1);
}

pub reasoned_shuffled : (old new : List Held) (places : List Place) → AreShuffled old new → IsReasoned old places → IsReasoned new places
reasoned_shuffled old new places s w = reasoned_respelled old new places (λ r live. (s.live r ∙ live, s.same r)) w

-- the clauses that are reasons are as they were
pub reasoned_kept : (old new : List Held) (places : List Place) →
    ((k : ℕ) (p : Place) (r : ℕ) → slice_get places k ≡ Some p → p.reason ≡ Some r → held_at new r ≡ held_at old r) →
    IsReasoned old places → IsReasoned new places
reasoned_kept old new places kept w = record {
  reasoned = λ k p r e is.
      let f = w.reasoned k p r e is in
      let same = kept k p r e is in (
        ap is_some same ∙ f.0,
        subst (λ c. Implies (literals_of (take k places)) c p.literal) (sym (ap (λ o. unwrap_or (option_map (λ (h : Held). h.literals) o) []) same)) f.1,
      );
}

is_live_of : (o p : Option Held) → o ≡ p → is_some p ≡ true → is_some o ≡ true
is_live_of o p same live = ap is_some same ∙ live

pub reasoned_swapped : (old new : List Held) (places : List Place) (r : ℕ) → KeepsOthers old new r → is_some (held_at new r) ≡ true →
    IsPermutation (literals_at old r) (literals_at new r) → IsReasoned old places → IsReasoned new places
reasoned_swapped old new places r others live same w = record {
  reasoned = λ k p q e is.
      let f = w.reasoned k p q e is in
      elim (cases_eq q r) as (λ _. (is_some (held_at new q) ≡ true) × Implies (literals_of (take k places)) (literals_at new q) p.literal) [
        | inl one ↦ (
          ap (λ n. is_some (held_at new n)) one ∙ live,
          subst (λ n. Implies (literals_of (take k places)) (literals_at new n) p.literal) (sym one)
              (implies_permuted (literals_of (take k places)) (literals_at old r) (literals_at new r) p.literal same
              (subst (λ n. Implies (literals_of (take k places)) (literals_at old n) p.literal) one f.1)),
        )
        | inr other ↦ (
          is_live_of (held_at new q) (held_at old q) (others.kept q other) f.0,
          subst (λ c. Implies (literals_of (take k places)) c p.literal)
              (sym (ap (λ o. unwrap_or (option_map (λ (h : Held). h.literals) o) []) (others.kept q other))) f.1,
        )
      ];
}

-- ---- propagation

pub reasoned_grows : (old new : List Held) (level : ℕ) (a b : List Place) → AreShuffled old new → Grows new level a b → IsReasoned old a → IsReasoned new b
reasoned_grows old new level a b s g w = record {
  reasoned = λ k p r e is. elim (cases_lt k (length a)) [
    | inl before ↦
        let in_a : slice_get a k ≡ Some p = subst (λ ps. slice_get ps k ≡ Some p) g.front (take_get (length a) b k p before e) in
        let front : take k a ≡ take k b = ap (take k) (sym g.front) ∙ take_front (length a) k b (omega (arith, before)) in
        let f = (reasoned_shuffled old new a s w).reasoned k p r in_a is in
        (f.0, subst (λ ps. Implies (literals_of ps) (literals_at new r) p.literal) front f.1)
    | inr past ↦
        let f : IsImplied new (take k b) p = g.implied k p past e in
        let one : f.by ≡ r = same_some f.by r (sym f.reason ∙ is) in (
          ap (λ n. is_some (held_at new n)) (sym one) ∙ f.live,
          subst (λ n. Implies (literals_of (take k b)) (literals_at new n) p.literal) one f.implies,
        )
  ];
}

-- ---- compaction

renamed_literals : (names : List (ℕ × ℕ)) (places : List Place) (n : ℕ) → literals_of (take n (map (renamed_place names) places)) ≡ literals_of (take n places)
renamed_literals names places zero = refl
renamed_literals names [] (suc n) = refl
renamed_literals names (p ∷ places) (suc n) = ap (λ ls. p.literal ∷ ls) (renamed_literals names places n)

from_some : (o : Option ℕ) (d s : ℕ) → is_some o ≡ true → unwrap_or o d ≡ s → o ≡ Some s
from_some None d s some is = absurd (false≢true some)
from_some (Some x) d s some is = ap Some is

pub reasoned_renamed : (old new : List Held) (names : List (ℕ × ℕ)) (places : List Place) → IsRenaming old new names → IsReasoned old places →
    IsReasoned new (map (renamed_place names) places)
reasoned_renamed old new names places renames w = record {
  reasoned = λ k q s e is.
      let (p, at, same) = get_map_cases (renamed_place names) places k q e in
      by p.reason k q s p at same is refl;
}
  where
    by : (o : Option ℕ) (k : ℕ) (q : Place) (s : ℕ) (p : Place) → slice_get places k ≡ Some p → renamed_place names p ≡ q → q.reason ≡ Some s → p.reason ≡ o →
        (is_some (held_at new s) ≡ true) × Implies (literals_of (take k (map (renamed_place names) places))) (literals_at new s) q.literal
    by None k q s p at same is reason =
        absurd (none_is_not_some s (ap (option_map (λ r. unwrap_or (new_name names r) r)) (sym reason) ∙ ap (λ (x : Place). x.reason) same ∙ is))
    by (Some r) k q s p at same is reason =
        let f = w.reasoned k p r at reason in
        let named : is_some (new_name names r) ≡ true = renames.named r ∙ f.0 in
        let gives : unwrap_or (new_name names r) r ≡ s =
        same_some (unwrap_or (new_name names r) r) s
        (ap (option_map (λ x. unwrap_or (new_name names x) x)) (sym reason) ∙ ap (λ (x : Place). x.reason) same ∙ is) in
        let name : new_name names r ≡ Some s = from_some (new_name names r) r s named gives in (
          renamed_is_live old new names r s renames name,
          subst (λ c. Implies (literals_of (take k (map (renamed_place names) places))) c q.literal) (sym (same_literals old new names r s renames name))
              (subst (λ ls. Implies ls (literals_at old r) q.literal) (sym (renamed_literals names places k))
              (subst (Implies (literals_of (take k places)) (literals_at old r)) (ap (λ (x : Place). x.literal) same) f.1)),
        )
