-- Time frames of clauses over higher variables, and links between them (docs/FORMATS.md, "Clauses of the transition relation").
use Rattle.std.specs.Prelude.{ℕ, ◌+◌, ◌<◌, Bool, true, false, List, [], ◌∷◌, ◌++◌, map, All}
use Rattle.bs_clause.specs.declared.literal.TheConstants.{VARIABLE_LIMIT}
use Rattle.bs_clause.specs.Literal.{Literal, Clause, negation}
use Rattle.bs_encode.specs.Tables.{lit}

-- the literal of the variable that is so much higher
abbrev pub raised : ℕ → Literal → Literal
raised by l = record { variable = by + l.variable; positive = l.positive }

abbrev pub raised_all : ℕ → List Literal → List Literal
raised_all by ls = map (raised by) ls

-- each variable that is so much higher is one
abbrev pub HasRoom : ℕ → Clause → Type 0
HasRoom by c = All (λ l. by + l.variable < VARIABLE_LIMIT) c

abbrev pub HasRooms : ℕ → List Clause → Type 0
HasRooms by cs = All (HasRoom by) cs

-- both variables have the same value
abbrev pub link : ℕ → ℕ → List Clause
link n s = (lit n false ∷ lit s true ∷ []) ∷ (lit n true ∷ lit s false ∷ []) ∷ []

abbrev pub links : List Literal → List Literal → List Clause
links [] ss = []
links (n ∷ ns) [] = []
links (n ∷ ns) (s ∷ ss) = link n.variable s.variable ++ links ns ss

-- the clauses hold where l is true
abbrev pub under : Literal → List Clause → List Clause
under l cs = map (λ c. negation l ∷ c) cs

-- the assignment that a time frame sees
abbrev pub lowered : (ℕ → Bool) → ℕ → ℕ → Bool
lowered a by v = a (by + v)
