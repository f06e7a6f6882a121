-- A state that is not listed meets the clauses.
use Rattle.std.proofs.Common.{◌≡◌, ℕ, zero, suc, ◌+◌, ◌<◌, ◌≤◌, arith, Bool, true, false, ◌||◌, cond, List, [], ◌∷◌, length, drop, reverse}
use Rattle.std.proofs.Common.{refl, sym, ap, subst, ◌∙◌, Option, Some, None, inl, inr}
use Rattle.std.specs.Prelude.{All, Contains, is_some}
use Rattle.std.specs.Bool.{beq}
use Rattle.std.specs.List.{list_any, filter, flat_map, range_with_len, AllByRecursion}
use Rattle.std.proofs.lemmas.Bool.{or_left, or_right, false≢true, cases_eq}
use Rattle.std.proofs.lemmas.List.Elements.{recursion_from_All, All-from_recursion, All-contains}
use Rattle.bs_clause.specs.Literal.{Literal, Clause, negation, literal_value, Satisfies}
use Rattle.bs_log.specs.History.{Problem, History, activation_of}
use Rattle.bs_log.specs.Refusal.{assumptions_of}
use Rattle.bs_log.specs.Refutation.{blocks_of}
use Rattle.bs_log.specs.Shown.{Basis, Shown}
use Rattle.bs_log.specs.ShownLaw.{BlocksOther}
use Rattle.bs_log.proofs.ShownLaws.{each_append, each_map, each_weaker, each_reverse, each_range, off_is_true}
use Rattle.bs_evidence.specs.WholeCnf.{finish_of, rest_of, guarded, said_of, part_of, one_of, whole_behind, whole_cnf_of}
use Rattle.bs_evidence.specs.WholeLaw.{OthersAreGuarded, UnlistedMeetsWhole}

each_tail : {X : Type 0} (P : X → Type 0) (xs : List X) → AllByRecursion P xs → AllByRecursion P (drop 1 xs)
each_tail P [] all = tt
each_tail P (x ∷ xs) all = all.1

each_flat : {X Y : Type 0} (P : Y → Type 0) (g : X → List Y) (xs : List X) → AllByRecursion (λ x. AllByRecursion P (g x)) xs → AllByRecursion P (flat_map g xs)
each_flat P g [] all = tt
each_flat P g (x ∷ xs) all = each_append P (g x) (flat_map g xs) all.0 (each_flat P g xs all.1)

all_false : (v : ℕ → Bool) (c : Clause) → list_any (literal_value v) c ≡ false → AllByRecursion (λ (m : Literal). literal_value v m ≡ false) c
all_false v [] none = tt
all_false v (m ∷ ms) none = by (literal_value v m) refl none (λ rest. all_false v ms rest)
  where
    by : (b : Bool) → literal_value v m ≡ b → (b || list_any (literal_value v) ms) ≡ false →
        (list_any (literal_value v) ms ≡ false → AllByRecursion (λ (m : Literal). literal_value v m ≡ false) ms) →
        AllByRecursion (λ (m : Literal). literal_value v m ≡ false) (m ∷ ms)
    by true is e later = absurd (false≢true (sym e))
    by false is e later = (is, later e)

-- a clause with a true literal
met_by : (v : ℕ → Bool) (l : Literal) (c : Clause) → literal_value v l ≡ true → Contains c l → Satisfies v c
met_by v l c is there = elim (list_any (literal_value v) c) as (λ b. list_any (literal_value v) c ≡ b → b ≡ true) [
  | true ↦ λ _. refl
  | false ↦ λ none. lost none
] refl
  where
    lost : list_any (literal_value v) c ≡ false → false ≡ true
    lost none =
        sym (All-contains (λ (m : Literal). literal_value v m ≡ false) c l
        (All-from_recursion (λ (m : Literal). literal_value v m ≡ false) c (all_false v c none)) there) ∙ is

off_value : (v : ℕ → Bool) (p : Problem) (step : ℕ) → v (p.vars + step) ≡ false → literal_value v (negation (activation_of p step)) ≡ true
off_value v p step e = ap (λ b. beq b false) e

on_value : (v : ℕ → Bool) (p : Problem) (step : ℕ) → v (p.vars + step) ≡ true → literal_value v (activation_of p step) ≡ true
on_value v p step e = ap (λ b. beq b true) e

module _ (basis : Basis) (width step : ℕ) (s : List Bool) (h : History) (shown : Shown basis width step s) where
  abbrev pub p : Problem
  p = basis.problem

  abbrev pub v : ℕ → Bool
  v = shown.value

  -- ---- another step

  other_said : (other : ℕ) (o : Option ℕ) → v (p.vars + other) ≡ false → AllByRecursion (Satisfies v) (said_of p other o)
  other_said other None off = (off_is_true v p other off, tt)
  other_said other (Some id) off = guards (rest_of p other)
    where
      guards : (c : Clause) → AllByRecursion (Satisfies v) (guarded p other c)
      guards [] = tt
      guards (a ∷ c) =
          (or_left (literal_value v (negation (activation_of p other))) (literal_value v a || false) (off_value v p other off), guards c)

  other_part : (other : ℕ) → v (p.vars + other) ≡ false → All (λ c. Contains c (negation (activation_of p other))) (blocks_of h other) →
      AllByRecursion (Satisfies v) (part_of p h other)
  other_part other off guarded_blocks =
      each_append (Satisfies v) (reverse (blocks_of h other)) (said_of p other (finish_of h other))
      (each_reverse (Satisfies v) (blocks_of h other)
      (each_weaker (λ c. Contains c (negation (activation_of p other))) (Satisfies v) (blocks_of h other)
      (λ c there. met_by v (negation (activation_of p other)) c (off_value v p other off) there)
      (recursion_from_All (λ c. Contains c (negation (activation_of p other))) (blocks_of h other) guarded_blocks)))
      (other_said other (finish_of h other) off)

  -- ---- the step

  own_said : (o : Option ℕ) → is_some o ≡ true → AllByRecursion (Satisfies v) (said_of p step o)
  own_said None lost = absurd (false≢true lost)
  own_said (Some id) some =
      each_map (λ (l : Literal). literal_value v l ≡ true) (Satisfies v) (λ a. negation (activation_of p step) ∷ a ∷ []) (rest_of p step)
      (λ a is. or_right (literal_value v (negation (activation_of p step))) (literal_value v a || false) (or_left (literal_value v a) false is))
      (each_tail (λ (l : Literal). literal_value v l ≡ true) (assumptions_of p step)
      (recursion_from_All (λ (l : Literal). literal_value v l ≡ true) (assumptions_of p step) shown.assumptions))

  own_part : is_some (finish_of h step) ≡ true → All (BlocksOther basis width step s) (blocks_of h step) → AllByRecursion (Satisfies v) (part_of p h step)
  own_part some all =
      each_append (Satisfies v) (reverse (blocks_of h step)) (said_of p step (finish_of h step))
      (each_reverse (Satisfies v) (blocks_of h step)
      (each_weaker (BlocksOther basis width step s) (Satisfies v) (blocks_of h step)
      (λ c b. subst (Satisfies v) (sym b.is) (shown.blocks b.state b.wide b.other))
      (recursion_from_All (BlocksOther basis width step s) (blocks_of h step) all)))
      (own_said (finish_of h step) some)

  -- ---- all of them

  one_met : (a n : ℕ) → a ≤ step → step < a + n → is_some (finish_of h step) ≡ true →
      Satisfies v (one_of p (filter (λ k. is_some (finish_of h k)) (range_with_len a n)))
  one_met a zero low high some = absurd (omega (arith, low, high))
  one_met a (suc n) low high some = elim (cases_eq a step) [
    | inl same ↦ here (is_some (finish_of h a)) (ap (λ k. is_some (finish_of h k)) same ∙ some) same
    | inr differ ↦ later (is_some (finish_of h a)) (one_met (a + 1) n (omega (arith, low, differ)) (omega (arith, high)) some)
  ]
    where
      rest : List ℕ
      rest = filter (λ k. is_some (finish_of h k)) (range_with_len (a + 1) n)

      here : (b : Bool) → b ≡ true → a ≡ step → Satisfies v (one_of p (cond b (a ∷ rest) rest))
      here true e same =
          or_left (literal_value v (activation_of p a)) (list_any (literal_value v) (one_of p rest))
          (on_value v p a (ap (λ k. v (p.vars + k)) same ∙ shown.activation))
      here false e same = absurd (false≢true e)

      later : (b : Bool) → Satisfies v (one_of p rest) → Satisfies v (one_of p (cond b (a ∷ rest) rest))
      later true met = or_right (literal_value v (activation_of p a)) (list_any (literal_value v) (one_of p rest)) met
      later false met = met

  pub whole_met : 1 ≤ step → step ≤ length p.steps → is_some (finish_of h step) ≡ true → All (BlocksOther basis width step s) (blocks_of h step) →
      OthersAreGuarded p h step → All (Satisfies v) (whole_cnf_of p h)
  whole_met low high some all others =
      All-from_recursion (Satisfies v) (whole_cnf_of p h)
      (each_append (Satisfies v) p.clauses (whole_behind p h) (recursion_from_All (Satisfies v) p.clauses shown.clauses)
      (each_append (Satisfies v) (flat_map (part_of p h) (range_with_len 1 (length p.steps))) _
      (each_flat (Satisfies v) (part_of p h) (range_with_len 1 (length p.steps))
      (each_range (λ k. AllByRecursion (Satisfies v) (part_of p h k)) 1 (length p.steps) each))
      (one_met 1 (length p.steps) low (omega (arith, high)) some, tt)))
    where
      each : (k : ℕ) → 1 ≤ k → k < 1 + length p.steps → AllByRecursion (Satisfies v) (part_of p h k)
      each k first last = elim (cases_eq k step) [
        | inl same ↦ subst (λ k. AllByRecursion (Satisfies v) (part_of p h k)) (sym same) (own_part some all)
        | inr differ ↦ other_part k (shown.other_activations k first (omega (arith, last)) differ) (others.each k first (omega (arith, last)) differ)
      ]

pub unlisted_meets_whole : UnlistedMeetsWhole
unlisted_meets_whole basis width step s h low high some shown all others =
    (shown.value, whole_met basis width step s h shown low high some all others)
