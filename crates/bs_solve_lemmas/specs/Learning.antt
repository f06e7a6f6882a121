-- The trail after a learnt clause, and the trail as a number.
use Rattle.std.specs.Prelude.{ℕ, Bool, true, List, [], ◌∷◌, ◌++◌, map, take}
use Rattle.bs_clause.specs.Literal.{Literal}
use Rattle.bs_solve_lemmas.specs.Place.{LoggedPlace}

-- which places a clause implied
abbrev pub digits : List LoggedPlace → List Bool
digits places = map (λ p. p.implied) places

-- the trail goes back, and a clause implies the literal
abbrev pub after_learning : List LoggedPlace → Literal → ℕ → List LoggedPlace
after_learning places u cut = take cut places ++ record { literal = u; implied = true } ∷ []
