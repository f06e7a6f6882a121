-- The trail with its reasons: the literals that are true, the oldest first.
use Rattle.std.specs.Prelude.{◌≡◌, ℕ, ◌≤◌, List, [], ◌∷◌, ◌++◌, map, Option, option_map, unwrap_or, Some, None, slice_get}
use Rattle.bs_clause.specs.Literal.{Literal}
use Rattle.bs_arena.specs.Renaming.{new_name}
use Rattle.bs_watch.specs.Trail.{IsOpenOn}

-- a literal that is true, with the clause that implied it and its level; a decision and an
-- assumption have no clause
pub record Place : Type 0 where
  pub literal : Literal
  pub reason : Option ℕ
  pub level : ℕ

-- the places that are taken, over variables 1 to vars
pub record TrailState : Type 0 where
  pub vars : ℕ
  pub places : List Place

-- with one more place
abbrev pub with_place : TrailState → Literal → Option ℕ → ℕ → TrailState
with_place t l reason level = record t {
  places = t.places ++ record { literal = l; reason = reason; level = level } ∷ [];
}

-- the literals that are true
abbrev pub literals_of : List Place → List Literal
literals_of places = map (λ p. p.literal) places

abbrev pub variable_of : Place → ℕ
variable_of p = p.literal.variable

-- its variable is among those of the trail, and neither it nor its negation is true
pub record IsUnassigned (s : TrailState) (l : Literal) : Type 0 where
  pub in_range : l.variable ≤ s.vars
  pub unassigned : IsOpenOn (literals_of s.places) l

-- no variable stands in two places
pub record AreApart (places : List Place) : Type 0 where
  pub apart : (i j : ℕ) (p q : Place) → slice_get places i ≡ Some p →
      slice_get places j ≡ Some q → variable_of p ≡ variable_of q → i ≡ j

-- the place that holds the literal's variable
pub record IsPlaceOf (places : List Place) (l : Literal) (p : Place) : Type 0 where
  pub at : ℕ
  pub there : slice_get places at ≡ Some p
  pub same : variable_of p ≡ l.variable

-- the variable of the literal was assigned on the level
abbrev pub IsOnLevel : List Place → Literal → ℕ → Type 0
IsOnLevel places l level = (p : Place) × IsPlaceOf places l p × (p.level ≡ level)

-- and on no other
pub record IsLevelOf (places : List Place) (l : Literal) (level : ℕ) : Type 0 where
  pub on : IsOnLevel places l level
  pub only : (n : ℕ) → IsOnLevel places l n → n ≡ level

-- the variable of the literal was implied by the clause
abbrev pub IsImpliedBy : List Place → Literal → ℕ → Type 0
IsImpliedBy places l r = (p : Place) × IsPlaceOf places l p × (p.reason ≡ Some r)

-- no clause implied the variable of the literal
pub record HasNoReason (places : List Place) (l : Literal) : Type 0 where
  pub none : (p : Place) → IsPlaceOf places l p → p.reason ≡ None

-- the literal in the place
abbrev pub IsLiteralAt : List Place → ℕ → Literal → Type 0
IsLiteralAt places k l = (p : Place) × (slice_get places k ≡ Some p) × (p.literal ≡ l)

-- with its reason's new reference
abbrev pub renamed_place : List (ℕ × ℕ) → Place → Place
renamed_place names p = record {
  literal = p.literal;
  reason = option_map (λ r. unwrap_or (new_name names r) r) p.reason;
  level = p.level;
}
