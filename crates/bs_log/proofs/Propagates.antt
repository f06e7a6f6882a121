-- A right lemma is met wherever its hints are.
use Rattle.std.proofs.Common.{◌≡◌, ℕ, Bool, true, false, not, ◌||◌, cond, List, [], ◌∷◌, refl, sym, ap, subst, ◌∙◌, Some, None}
use Rattle.std.specs.Prelude.{option_and_then}
use Rattle.std.specs.List.{list_any, AllByRecursion}
use Rattle.std.proofs.lemmas.Bool.{not-false, false≢true}
use Rattle.bs_clause.specs.Literal.{Literal, Clause, negation, has_literal, literal_value, Satisfies}
use Rattle.bs_log.specs.Propagation.{open_literals, sole_unassigned, unit_literal, is_false, after_hints, ends_false, ends_false_after, start_of, last_is_false}
use Rattle.bs_clause.proofs.Values.{AllTrue, has_literal-true, value_of_negated, Satisfies-filter, AllTrue-negations, denied}

sole_is_true : (v : ℕ → Bool) (trues : List Literal) (c : Clause) (l : Literal) → sole_unassigned trues c ≡ Some l → Satisfies v c → literal_value v l ≡ true
sole_is_true v trues [] l e h = absurd (false≢true h)
sole_is_true v trues (m ∷ []) l e h =
    elim (has_literal trues m) as (λ b. cond b None (Some m) ≡ Some l → literal_value v l ≡ true) [
      | true ↦ λ none. absurd (cc)
      | false ↦ λ some. let same : m ≡ l = cc in
          elim (literal_value v m) as (λ b. literal_value v m ≡ b → (b || false) ≡ true → literal_value v l ≡ true) [
            | true ↦ λ is _. ap (literal_value v) (sym same) ∙ is
            | false ↦ λ _ no. absurd (false≢true no)
          ] refl h
    ] e
sole_is_true v trues (m ∷ n ∷ ns) l e h = absurd (cc)

-- the literal of a unit clause that is met is true
unit_is_true : (v : ℕ → Bool) (trues : List Literal) (c : Clause) (l : Literal) → AllTrue v trues → unit_literal trues c ≡ Some l → Satisfies v c →
    literal_value v l ≡ true
unit_is_true v trues c l all e h =
    sole_is_true v trues (open_literals trues c) l e
    (Satisfies-filter v (λ m. not (has_literal trues (negation m)))
    (λ m fails. value_of_negated v m (has_literal-true v trues (negation m) all (not-false (has_literal trues (negation m)) fails)))
    c h)

-- no assignment meets hints that lead to a false clause
hints_conflict : (v : ℕ → Bool) (trues : List Literal) (hints : List Clause) → AllTrue v trues → AllByRecursion (Satisfies v) hints →
    (final : List Literal) → after_hints trues hints ≡ Some final → ends_false hints final ≡ true → ⊥
hints_conflict v trues [] all met final e f = false≢true f
hints_conflict v trues (last ∷ []) all met final e f =
    let same : trues ≡ final = cc in
    denied v trues last all (subst (λ (t : List Literal). is_false t last ≡ true) (sym same) f) met.0
hints_conflict v trues (c ∷ d ∷ cs) all met final e f =
    elim (unit_literal trues c) as (λ o. unit_literal trues c ≡ o → option_and_then (λ l. after_hints (l ∷ trues) (d ∷ cs)) o ≡ Some final → ⊥) [
      | None ↦ λ _ none. absurd (cc)
      | Some l ↦ λ unit later. hints_conflict v (l ∷ trues) (d ∷ cs) (unit_is_true v trues c l all unit met.0, all) met.1 final later f
    ] refl e

pub Satisfies-lemma : (v : ℕ → Bool) (lemma : Clause) (hints : List Clause) →
    last_is_false lemma hints ≡ true → AllByRecursion (Satisfies v) hints → Satisfies v lemma
Satisfies-lemma v lemma hints f met =
    elim (list_any (literal_value v) lemma) as (λ b. list_any (literal_value v) lemma ≡ b → b ≡ true) [
      | true ↦ λ _. refl
      | false ↦ λ none.
          elim (after_hints (start_of lemma) hints) as (λ o. after_hints (start_of lemma) hints ≡ o → ends_false_after hints o ≡ true → false ≡ true) [
            | None ↦ λ _ no. no
            | Some final ↦ λ e ends. absurd (hints_conflict v (start_of lemma) hints (AllTrue-negations v lemma none) met final e ends)
          ] refl f
    ] refl
