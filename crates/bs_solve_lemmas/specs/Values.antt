-- The values that a trail gives to the variables.
use Rattle.std.specs.Prelude.{◌≡◌, ◌⊎◌, ℕ, ◌-◌, ◌≤◌, Bool, true, false, List, ◌++◌, map, replicate, length, Option, Some, None, slice_index_or, unwrap_or, All}
use Rattle.bs_clause.specs.Literal.{Literal, Clause, negation, has_literal, literal_value, Satisfies, value_at}

-- the literal of a variable
abbrev pub positive : ℕ → Literal
positive v = record { variable = v; positive = true }

-- one of each variable's two literals is true
abbrev pub AreAssigned : List Literal → ℕ → Type 0
AreAssigned trail vars = (v : ℕ) → 1 ≤ v → v ≤ vars → (has_literal trail (positive v) ≡ true) ⊎ (has_literal trail (negation (positive v)) ≡ true)

-- each variable has the value that makes its true literal true
pub record HasValues (trail : List Literal) (vars : ℕ) (values : List (Option Bool)) : Type 0 where
  pub length_is : length values ≡ vars
  pub given : (v : ℕ) → 1 ≤ v → v ≤ vars → slice_index_or values (v - 1) None ≡ Some (has_literal trail (positive v))

-- the value of a variable, false where it has none
abbrev pub value_of : List (Option Bool) → ℕ → Bool
value_of values v = unwrap_or (slice_index_or values (v - 1) None) false

-- each variable has a value, and each clause and each assumption is met
pub record IsSolution (vars : ℕ) (clauses : List Clause) (assumptions : Clause) (values : List (Option Bool)) : Type 0 where
  pub length_is : length values ≡ vars
  pub total : (v : ℕ) → 1 ≤ v → v ≤ vars → value_at values v ≡ Some (Some (value_of values v))
  pub clauses_met : All (Satisfies (value_of values)) clauses
  pub assumptions_met : All (λ l. literal_value (value_of values) l ≡ true) assumptions

-- the values of the first variables, of so many that are false, and of the rest
abbrev pub values_of : List Bool → ℕ → List Bool → List (Option Bool)
values_of front falses back = map Some (front ++ (replicate falses false ++ back))
