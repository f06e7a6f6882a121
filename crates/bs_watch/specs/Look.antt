-- What a look at a clause finds.
use Rattle.std.specs.Prelude.{◌≡◌, ◌⊎◌, ℕ, ◌<◌, ◌≤◌, List, Some, Contains, slice_get}
use Rattle.bs_clause.specs.Literal.{Literal, Clause}
use Rattle.bs_watch.specs.declared.clause_look.ClauseLook.{ClauseLook}
use Rattle.bs_watch.specs.declared.clause_look.ClauseLook.TheVariants.{True, Free, Unit as IsUnitOf, False}
use Rattle.bs_watch.specs.Trail.{IsTrueOn, IsFalseOn, IsConflict, Implies}

-- the literal is one of the two that the clause watches
abbrev pub IsFirstTwo : Clause → Literal → Type 0
IsFirstTwo c l = (slice_get c 0 ≡ Some l) ⊎ (slice_get c 1 ≡ Some l)

-- the literals from this place on are false
abbrev pub AreFalseFrom : List Literal → Clause → ℕ → Type 0
AreFalseFrom trail c start =
    (k : ℕ) (m : Literal) → start ≤ k → slice_get c k ≡ Some m → IsFalseOn trail m

-- one of the clause's literals is true
pub record HasTrue (trail : List Literal) (c : Clause) : Type 0 where
  pub literal : Literal
  pub stands : Contains c literal
  pub holds : IsTrueOn trail literal

-- a literal past the first two is not false
pub record IsFree (trail : List Literal) (c : Clause) (falsified : Literal) (side place : ℕ)
    (literal : Literal) : Type 0 where
  pub low : side < 2
  pub lost : slice_get c side ≡ Some falsified
  pub far : 2 ≤ place
  pub there : slice_get c place ≡ Some literal
  pub free : ¬ IsFalseOn trail literal

abbrev pub Says : List Literal → Clause → Literal → ClauseLook → Type 0
Says trail c falsified (True l) = Contains c l × IsTrueOn trail l
Says trail c falsified (Free side place l) = IsFree trail c falsified side place l
Says trail c falsified (IsUnitOf l) = Implies trail c l
Says trail c falsified False = IsConflict trail c
