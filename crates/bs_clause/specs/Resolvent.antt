-- Resolution.
use Rattle.std.specs.Prelude.{not, [], ◌∷◌, ◌++◌}
use Rattle.std.specs.List.{filter}
use Rattle.bs_clause.specs.Literal.{Literal, Clause, negation, same_literal, has_literal}

-- the clause's other literals
abbrev pub without : Literal → Clause → Clause
without l c = filter (λ m. not (same_literal l m)) c

-- the clause's literals, each where it stands first
abbrev pub once : Clause → Clause
once [] = []
once (l ∷ c) = l ∷ without l (once c)

-- the clause's literals that do not stand there yet, each once
abbrev pub news : Clause → Clause → Clause
news there c = filter (λ m. not (has_literal there m)) (once c)

-- the other literals of a, and then those of b that do not stand there yet
abbrev pub resolvent : Clause → Clause → Literal → Clause
resolvent a b pivot = without pivot a ++ news (without pivot a) (without (negation pivot) b)
