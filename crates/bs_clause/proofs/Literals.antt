-- Literals and their values under an assignment.
use Rattle.std.proofs.Common.{◌≡◌, ℕ, Bool, true, false, not, ◌↔◌, refl, sym, ap, subst, ◌∙◌, eqb, get_or}
use Rattle.std.specs.Prelude.{Contains}
use Rattle.std.specs.Bool.{beq}
use Rattle.std.proofs.lemmas.Bool.{eqb-true, eq-eqb, and_from, and_parts}
use Rattle.std.proofs.lemmas.List.Folds.{Any-from_list_any, list_any_at}
use Rattle.bs_clause.specs.Literal.{Literal, Clause, negation, same_literal, has_literal, literal_value}

pub literal_from_parts : (a b : Literal) → a.variable ≡ b.variable → a.positive ≡ b.positive → a ≡ b
literal_from_parts a b p q = λ i. record { variable = p i; positive = q i }

pub beq-true : (a b : Bool) → beq a b ≡ true → a ≡ b
beq-true true true h = refl
beq-true true false h = sym h
beq-true false true h = h
beq-true false false h = refl

pub same_literal-true : (a b : Literal) → same_literal a b ≡ true → a ≡ b
same_literal-true a b h =
    let parts = and_parts (eqb a.variable b.variable) (beq a.positive b.positive) h in
    literal_from_parts a b (eqb-true a.variable b.variable parts.0) (beq-true a.positive b.positive parts.1)

beq-refl : (a : Bool) → beq a a ≡ true
beq-refl true = refl
beq-refl false = refl

beq-not : (x y : Bool) → beq x (not y) ≡ not (beq x y)
beq-not true true = refl
beq-not true false = refl
beq-not false true = refl
beq-not false false = refl

pub same_literal-refl : (a : Literal) → same_literal a a ≡ true
same_literal-refl a = and_from _ _ (eq-eqb a.variable a.variable refl) (beq-refl a.positive)

-- the test says that the literals are equal
pub same_literal_iff : (a b : Literal) → (same_literal a b ≡ true) ↔ (a ≡ b)
same_literal_iff a b = (same_literal-true a b, λ e. ap (same_literal a) (sym e) ∙ same_literal-refl a)

-- the test says that the literal stands in the clause
pub Contains-from_has : (c : Clause) (l : Literal) → has_literal c l ≡ true → Contains c l
Contains-from_has c l h =
    let a = Any-from_list_any (same_literal l) c h in
    let same : l ≡ a.1 = same_literal-true l a.1 a.4 in
    (a.0, a.2, subst (λ (x : Literal). get_or c a.0 x ≡ x) (sym same) a.3)

pub has-from_Contains : (c : Clause) (l : Literal) → Contains c l → has_literal c l ≡ true
has-from_Contains c l k = list_any_at (same_literal l) c k.0 l k.1 (ap (same_literal l) k.2 ∙ same_literal-refl l)

pub has_literal_iff : (c : Clause) (l : Literal) → (has_literal c l ≡ true) ↔ Contains c l
has_literal_iff c l = (Contains-from_has c l, has-from_Contains c l)

-- a literal is true exactly where its negation is false
pub literal_value-negation : (v : ℕ → Bool) (l : Literal) → literal_value v (negation l) ≡ not (literal_value v l)
literal_value-negation v l = beq-not (v l.variable) l.positive
