-- Clauses under an assignment, and lists of literals that are true under it.
use Rattle.std.proofs.Common.{◌≡◌, ℕ, Bool, true, false, not, ◌||◌, cond, List, [], ◌∷◌, refl, sym, ap, ◌∙◌, inl, inr, map}
use Rattle.std.specs.List.{list_any, list_all, filter, AllByRecursion}
use Rattle.std.proofs.lemmas.Bool.{both_ways, or_left, or_right, or_cases, and_parts, true≢false, false≢true}
use Rattle.bs_clause.specs.Literal.{Literal, Clause, negation, same_literal, has_literal, literal_value, Satisfies}
use Rattle.bs_clause.proofs.Literals.{same_literal-true, literal_value-negation}

-- each literal is true
abbrev pub AllTrue : (ℕ → Bool) → List Literal → Type 0
AllTrue v ls = AllByRecursion (λ l. literal_value v l ≡ true) ls

pub has_literal-true : (v : ℕ → Bool) (ls : List Literal) (l : Literal) → AllTrue v ls → has_literal ls l ≡ true → literal_value v l ≡ true
has_literal-true v [] l all h = absurd (false≢true h)
has_literal-true v (m ∷ ls) l all h =
    elim (or_cases (same_literal l m) (has_literal ls l) h) [
      | inl same ↦ ap (literal_value v) (same_literal-true l m same) ∙ all.0
      | inr later ↦ has_literal-true v ls l all.1 later
    ]

-- a literal whose negation is true is false
pub value_of_negated : (v : ℕ → Bool) (l : Literal) → literal_value v (negation l) ≡ true → literal_value v l ≡ false
value_of_negated v l h =
    elim (literal_value v l) as (λ b. not b ≡ true → b ≡ false) [ true ↦ λ e. sym e | false ↦ λ _. refl ]
    (sym (literal_value-negation v l) ∙ h)

pub negated_is_true : (v : ℕ → Bool) (l : Literal) → literal_value v l ≡ false → literal_value v (negation l) ≡ true
negated_is_true v l h = literal_value-negation v l ∙ ap not h

-- a clause is met by its literals that pass a test, if those that fail it are false
pub Satisfies-filter : (v : ℕ → Bool) (test : Literal → Bool) → ((m : Literal) → test m ≡ false → literal_value v m ≡ false) →
    (c : Clause) → Satisfies v c → Satisfies v (filter test c)
Satisfies-filter v test lost [] h = h
Satisfies-filter v test lost (m ∷ c) h =
    elim (test m) as (λ b. test m ≡ b → list_any (literal_value v) (cond b (m ∷ filter test c) (filter test c)) ≡ true) [
      | true ↦ λ _. elim (or_cases (literal_value v m) (list_any (literal_value v) c) h) [
        | inl is ↦ or_left (literal_value v m) (list_any (literal_value v) (filter test c)) is
        | inr later ↦ or_right (literal_value v m) (list_any (literal_value v) (filter test c)) (Satisfies-filter v test lost c later)
      ]
      | false ↦ λ fails. elim (or_cases (literal_value v m) (list_any (literal_value v) c) h) [
        | inl is ↦ absurd (both_ways (literal_value v m) (lost m fails) is)
        | inr later ↦ Satisfies-filter v test lost c later
      ]
    ] refl

-- where no literal is true, each negation is
pub AllTrue-negations : (v : ℕ → Bool) (c : Clause) → list_any (literal_value v) c ≡ false → AllTrue v (map negation c)
AllTrue-negations v [] h = tt
AllTrue-negations v (l ∷ c) h =
    elim (literal_value v l) as (λ b. literal_value v l ≡ b → (b || list_any (literal_value v) c) ≡ false → AllTrue v (map negation (l ∷ c))) [
      | true ↦ λ _ e. absurd (true≢false e)
      | false ↦ λ is e. (negated_is_true v l is, AllTrue-negations v c e)
    ] refl h

-- a clause each of whose literals has its negation among true ones is not met
pub denied : (v : ℕ → Bool) (trues : List Literal) (c : Clause) → AllTrue v trues →
    list_all (λ l. has_literal trues (negation l)) c ≡ true → Satisfies v c → ⊥
denied v trues [] all none h = false≢true h
denied v trues (l ∷ c) all none h =
    let parts = and_parts (has_literal trues (negation l)) (list_all (λ m. has_literal trues (negation m)) c) none in
    elim (or_cases (literal_value v l) (list_any (literal_value v) c) h) [
      | inl is ↦ both_ways (literal_value v l) (value_of_negated v l (has_literal-true v trues (negation l) all parts.0)) is
      | inr later ↦ denied v trues c all parts.1 later
    ]
