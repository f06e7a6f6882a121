-- A chain: clauses, each with a literal that it makes true where the literals before are.
use Rattle.std.specs.Prelude.{◌≡◌, ◌⊎◌, ℕ, ◌+◌, ◌<◌, true, List, length, Some, slice_get, All, IsTrue}
use Rattle.bs_clause.specs.Literal.{Literal, Clause, negation, has_literal}
use Rattle.bs_log.specs.Propagation.{hints_are_unit, last_is_false}
use Rattle.bs_log.specs.Lean.{IsResolventOf}

-- the lemma is the resolvent of the clauses, and right by them as hints
pub record IsProvedBy (clauses : List Clause) (lemma : Clause) : Type 0 where
  pub unit : IsTrue (hints_are_unit lemma clauses)
  pub last : IsTrue (last_is_false lemma clauses)
  pub resolvent : IsResolventOf lemma clauses

-- the literal stands before a place
abbrev pub IsBefore : List Literal → ℕ → Literal → Type 0
IsBefore literals i l = (x : ℕ) × (x < i) × (slice_get literals x ≡ Some l)

-- a clause behind a place denies the literal
pub record IsNeeded (clauses : List Clause) (i : ℕ) (l : Literal) : Type 0 where
  pub later : ℕ
  pub clause : Clause
  pub behind : i < later
  pub at : slice_get clauses later ≡ Some clause
  pub denies : has_literal clause (negation l) ≡ true

-- The clause in a place has the literal in this place, which stands in no other; its others are denied before, and but for the
-- last one the literal is denied behind.
pub record IsMade (literals : List Literal) (clauses : List Clause) (places : List ℕ) (i : ℕ) : Type 0 where
  pub literal : Literal
  pub clause : Clause
  pub at : slice_get literals i ≡ Some literal
  pub clause_at : slice_get clauses i ≡ Some clause
  pub stands : has_literal clause literal ≡ true
  pub others : All (λ m. (m ≡ literal) ⊎ IsBefore literals i (negation m)) clause
  pub place : slice_get places literal.variable ≡ Some i
  pub needed : i + 1 < length literals → IsNeeded clauses i literal

-- each of the first so many places is as it should be
pub record AreMade (literals : List Literal) (clauses : List Clause) (places : List ℕ) (n : ℕ) : Type 0 where
  pub each : (i : ℕ) → i < n → IsMade literals clauses places i
