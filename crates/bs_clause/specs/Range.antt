-- Which variables a clause has.
use Rattle.std.specs.Prelude.{ℕ, ◌≤◌, All}
use Rattle.bs_clause.specs.Literal.{Literal, Clause}

-- the literal's variable is one of 1 to vars
abbrev pub IsWithin : ℕ → Literal → Type 0
IsWithin vars l = (1 ≤ l.variable) × (l.variable ≤ vars)

-- the clause's variables are 1 to vars
abbrev pub HasVariables : ℕ → Clause → Type 0
HasVariables vars c = All (IsWithin vars) c
