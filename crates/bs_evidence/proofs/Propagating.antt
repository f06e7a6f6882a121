-- Reverse unit propagation while a step is under way.
use Rattle.std.proofs.Common.{◌≡◌, ℕ, Bool, true, false, not, ◌||◌, cond, eqb, List, [], ◌∷◌, ◌++◌, map, refl, sym, ap, ◌∙◌, Some, inl, inr}
use Rattle.std.specs.Prelude.{is_some}
use Rattle.std.specs.Option.{option_and_then}
use Rattle.std.specs.List.{list_any, AllByRecursion}
use Rattle.std.proofs.lemmas.Bool.{not-true, and_parts, and_from, or_left, or_right, or_cases, false≢true, true≢false, eqb-true, eq-eqb}
use Rattle.bs_clause.specs.Literal.{Literal, Clause, negation, same_literal, has_literal}
use Rattle.bs_clause.proofs.Literals.{same_literal-true}
use Rattle.bs_log.specs.Propagation.{sole_unassigned, open_literals, unit_literal, is_false, after_hints, ends_false_after, hints_are_unit, last_is_false}
use Rattle.bs_log.specs.Refusal.{has_distinct_variables, denies}
use Rattle.bs_log.proofs.Units.{Fresh, same_self, unit_opens, grown, fresher, still_there, last_ends}
use Rattle.bs_evidence.specs.WholeProof.{besides}

module _ (v : ℕ) where
  -- the activation literal
  abbrev pub on : Literal
  on = record { variable = v; positive = true }

  -- that a literal is false while the step is under way
  abbrev pub guard : Literal → Clause
  guard l = negation on ∷ negation l ∷ []

  guard_opens : (trues : List Literal) (l : Literal) → has_literal trues on ≡ true → Fresh trues l → unit_literal trues (guard l) ≡ Some (negation l)
  guard_opens trues l there fresh =
      ap (λ t. sole_unassigned trues (cond (not t) (negation on ∷ open_literals trues (negation l ∷ [])) (open_literals trues (negation l ∷ [])))) there
      ∙ unit_opens trues l fresh

  after_guards : (trues : List Literal) (ls : Clause) (c : Clause) → has_literal trues on ≡ true → has_distinct_variables ls ≡ true →
      AllByRecursion (Fresh trues) ls → after_hints trues (map guard ls ++ c ∷ []) ≡ Some (grown trues ls)
  after_guards trues [] c there distinct fresh = refl
  after_guards trues (l ∷ []) c there distinct fresh =
      ap (option_and_then (λ (x : Literal). after_hints (x ∷ trues) (c ∷ []))) (guard_opens trues l there fresh.0)
  after_guards trues (l ∷ m ∷ ms) c there distinct fresh =
      let parts = and_parts (not (list_any (λ x. eqb x.variable l.variable) (m ∷ ms))) (has_distinct_variables (m ∷ ms)) distinct in
      ap (option_and_then (λ (x : Literal). after_hints (x ∷ trues) (map guard (m ∷ ms) ++ c ∷ []))) (guard_opens trues l there fresh.0)
      ∙ after_guards (negation l ∷ trues) (m ∷ ms) c (or_right (same_literal on (negation l)) (has_literal trues on) there) parts.1
      (fresher trues l (m ∷ ms) (not-true (list_any (λ x. eqb x.variable l.variable) (m ∷ ms)) parts.0) fresh.1)

  -- over the variable of the activation literal nothing but its negation stands
  abbrev pub IsOff : Literal → Type 0
  IsOff l = l.variable ≡ v → negation l ≡ on

  all_false : (trues : List Literal) (ls : Clause) → has_literal trues on ≡ true → AllByRecursion IsOff ls → is_false (grown trues (besides v ls)) ls ≡ true
  all_false trues [] there off = refl
  all_false trues (l ∷ ls) there off =
      by (eqb l.variable v) refl (all_false trues ls there off.1)
      (all_false (negation l ∷ trues) ls (or_right (same_literal on (negation l)) (has_literal trues on) there) off.1)
    where
      by : (b : Bool) → eqb l.variable v ≡ b → is_false (grown trues (besides v ls)) ls ≡ true →
          is_false (grown (negation l ∷ trues) (besides v ls)) ls ≡ true →
          is_false (grown trues (cond (not b) (l ∷ besides v ls) (besides v ls))) (l ∷ ls) ≡ true
      by true same first second =
          and_from (has_literal (grown trues (besides v ls)) (negation l)) (is_false (grown trues (besides v ls)) ls)
          (ap (has_literal (grown trues (besides v ls))) (off.0 (eqb-true l.variable v same)) ∙ still_there trues (besides v ls) on there) first
      by false apart first second =
          and_from (has_literal (grown (negation l ∷ trues) (besides v ls)) (negation l)) (is_false (grown (negation l ∷ trues) (besides v ls)) ls)
          (still_there (negation l ∷ trues) (besides v ls) (negation l)
          (or_left (same_literal (negation l) (negation l)) (has_literal trues (negation l)) (same_self (negation l)))) second

  any_besides : (w : ℕ) (ls : Clause) → list_any (λ m. eqb m.variable w) ls ≡ false → list_any (λ m. eqb m.variable w) (besides v ls) ≡ false
  any_besides w [] none = refl
  any_besides w (l ∷ ls) none = by (eqb l.variable w) refl (eqb l.variable v) none (λ rest. any_besides w ls rest)
    where
      by : (a : Bool) → eqb l.variable w ≡ a → (b : Bool) → (a || list_any (λ m. eqb m.variable w) ls) ≡ false →
          (list_any (λ m. eqb m.variable w) ls ≡ false → list_any (λ m. eqb m.variable w) (besides v ls) ≡ false) →
          list_any (λ m. eqb m.variable w) (cond (not b) (l ∷ besides v ls) (besides v ls)) ≡ false
      by true is b e later = absurd (true≢false e)
      by false is true e later = later e
      by false is false e later = ap (λ t. t || list_any (λ m. eqb m.variable w) (besides v ls)) is ∙ later e

  pub distinct_besides : (ls : Clause) → has_distinct_variables ls ≡ true → has_distinct_variables (besides v ls) ≡ true
  distinct_besides [] distinct = refl
  distinct_besides (l ∷ ls) distinct =
      let parts = and_parts (not (list_any (λ x. eqb x.variable l.variable) ls)) (has_distinct_variables ls) distinct in
      by (eqb l.variable v) (any_besides l.variable ls (not-true (list_any (λ x. eqb x.variable l.variable) ls) parts.0)) (distinct_besides ls parts.1)
    where
      by : (b : Bool) → list_any (λ x. eqb x.variable l.variable) (besides v ls) ≡ false → has_distinct_variables (besides v ls) ≡ true →
          has_distinct_variables (cond (not b) (l ∷ besides v ls) (besides v ls)) ≡ true
      by true none rest = rest
      by false none rest =
          and_from (not (list_any (λ x. eqb x.variable l.variable) (besides v ls))) (has_distinct_variables (besides v ls)) (ap not none) rest

  fresh_besides : (ls : Clause) → AllByRecursion (Fresh (on ∷ [])) (besides v ls)
  fresh_besides [] = tt
  fresh_besides (l ∷ ls) = by (eqb l.variable v) refl (fresh_besides ls)
    where
      by : (b : Bool) → eqb l.variable v ≡ b → AllByRecursion (Fresh (on ∷ [])) (besides v ls) →
          AllByRecursion (Fresh (on ∷ [])) (cond (not b) (l ∷ besides v ls) (besides v ls))
      by true is later = later
      by false is later = (ap (λ t. t || false) is, later)

  on_there : has_literal (on ∷ []) on ≡ true
  on_there = or_left (same_literal on on) false (same_self on)

  -- the negated activation literal follows from guards against each other literal of a clause, and that clause
  pub off_is_unit : (c : Clause) → has_distinct_variables c ≡ true → hints_are_unit (negation on ∷ []) (map guard (besides v c) ++ c ∷ []) ≡ true
  off_is_unit c distinct = ap is_some (after_guards (on ∷ []) (besides v c) c on_there (distinct_besides c distinct) (fresh_besides c))

  pub off_is_false : (c : Clause) → has_distinct_variables c ≡ true → AllByRecursion IsOff c →
      last_is_false (negation on ∷ []) (map guard (besides v c) ++ c ∷ []) ≡ true
  off_is_false c distinct off =
      ap (ends_false_after (map guard (besides v c) ++ c ∷ [])) (after_guards (on ∷ []) (besides v c) c on_there (distinct_besides c distinct) (fresh_besides c))
      ∙ (last_ends (map guard (besides v c)) c (grown (on ∷ []) (besides v c)) ∙ all_false (on ∷ []) c on_there off)

  -- ---- a clause whose literals deny assumptions that begin with the activation literal

  over_same : (rest : Clause) (x : Literal) → has_literal rest x ≡ true → x.variable ≡ v → list_any (λ m. eqb m.variable v) rest ≡ true
  over_same [] x there same = absurd (false≢true there)
  over_same (m ∷ ms) x there same = elim (or_cases (same_literal x m) (has_literal ms x) there) [
    | inl here ↦ or_left (eqb m.variable v) (list_any (λ m. eqb m.variable v) ms)
        (eq-eqb m.variable v (ap (λ (l : Literal). l.variable) (sym (same_literal-true x m here)) ∙ same))
    | inr later ↦ or_right (eqb m.variable v) (list_any (λ m. eqb m.variable v) ms) (over_same ms x later same)
  ]

  module _ (rest : Clause) (distinct : has_distinct_variables (on ∷ rest) ≡ true) where
    none_over : list_any (λ m. eqb m.variable v) rest ≡ false
    none_over =
        not-true (list_any (λ m. eqb m.variable v) rest)
        (and_parts (not (list_any (λ m. eqb m.variable v) rest)) (has_distinct_variables rest) distinct).0

    off_literal : (l : Literal) → has_literal (on ∷ rest) (negation l) ≡ true → IsOff l
    off_literal l there same = elim (or_cases (same_literal (negation l) on) (has_literal rest (negation l)) there) [
      | inl here ↦ same_literal-true (negation l) on here
      | inr later ↦ absurd (false≢true (sym none_over ∙ over_same rest (negation l) later same))
    ]

    pub all_off : (c : Clause) → denies (on ∷ rest) c ≡ true → AllByRecursion IsOff c
    all_off [] denied = tt
    all_off (l ∷ ls) denied =
        let parts = and_parts (has_literal (on ∷ rest) (negation l)) (denies (on ∷ rest) ls) denied in
        (off_literal l parts.0, all_off ls parts.1)

    in_rest : (l : Literal) → has_literal (on ∷ rest) (negation l) ≡ true → eqb l.variable v ≡ false → has_literal rest (negation l) ≡ true
    in_rest l there apart = elim (or_cases (same_literal (negation l) on) (has_literal rest (negation l)) there) [
      | inl here ↦ absurd (false≢true (sym apart ∙ eq-eqb l.variable v (ap (λ (m : Literal). m.variable) (same_literal-true (negation l) on here))))
      | inr later ↦ later
    ]

    pub besides_denied : (c : Clause) → denies (on ∷ rest) c ≡ true → denies rest (besides v c) ≡ true
    besides_denied [] denied = refl
    besides_denied (l ∷ ls) denied =
        let parts = and_parts (has_literal (on ∷ rest) (negation l)) (denies (on ∷ rest) ls) denied in
        by (eqb l.variable v) refl parts.0 (besides_denied ls parts.1)
      where
        by : (b : Bool) → eqb l.variable v ≡ b → has_literal (on ∷ rest) (negation l) ≡ true → denies rest (besides v ls) ≡ true →
            denies rest (cond (not b) (l ∷ besides v ls) (besides v ls)) ≡ true
        by true is there later = later
        by false is there later = and_from (has_literal rest (negation l)) (denies rest (besides v ls)) (in_rest l there is) later
