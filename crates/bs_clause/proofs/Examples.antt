-- Worked clauses: a literal is written as its variable and its sign.
use Rattle.std.proofs.Common.{◌≡◌, ℕ, true, false, [], ◌∷◌, refl}
use Rattle.bs_clause.specs.Literal.{Literal, code_of}
use Rattle.bs_clause.specs.Resolvent.{resolvent}

abbrev pub is : ℕ → Literal
is v = record { variable = v; positive = true }

abbrev pub not : ℕ → Literal
not v = record { variable = v; positive = false }

-- the pivot goes from both
pub two_of_three : resolvent (is 1 ∷ is 2 ∷ []) (not 1 ∷ is 3 ∷ []) (is 1) ≡ is 2 ∷ is 3 ∷ []
two_of_three = refl

-- what stands already is not added again, be it from the first clause or from the second
pub each_once : resolvent (is 1 ∷ is 2 ∷ []) (is 3 ∷ is 2 ∷ not 1 ∷ is 3 ∷ []) (is 1) ≡ is 2 ∷ is 3 ∷ []
each_once = refl

-- a pivot may be negative
pub negative_pivot : resolvent (not 4 ∷ []) (is 4 ∷ []) (not 4) ≡ []
negative_pivot = refl

pub codes : code_of (is 3) ∷ code_of (not 3) ∷ [] ≡ 6 ∷ 7 ∷ []
codes = refl
