-- The units of retired activation literals.
use Rattle.std.specs.Prelude.{ℕ, zero, suc, ◌+◌, [], ◌∷◌, ◌++◌, false}
use Rattle.bs_clause.specs.Literal.{Literal, Clause}

abbrev pub retired_unit : ℕ → ℕ → Literal
retired_unit vars step = record { variable = vars + step; positive = false }

-- the negations of the activation literals of this many steps, in order
abbrev pub retired_units : ℕ → ℕ → Clause
retired_units vars zero = []
retired_units vars (suc n) = retired_units vars n ++ retired_unit vars (suc n) ∷ []
