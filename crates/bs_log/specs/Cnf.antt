-- The clauses that a step's list stands on, and their text as DIMACS has it (docs/FORMATS.md, "Clauses for other checkers").
use Rattle.std.specs.Prelude.{ℕ, ◌+◌, ◌-◌, List, [], ◌∷◌, ◌++◌, length, map, reverse, codes, decimal}
use Rattle.std.specs.List.{flat_map, range_with_len}
use Rattle.bs_bits.specs.Lines.{line}
use Rattle.bs_clause.specs.Literal.{Clause, negation}
use Rattle.bs_log.specs.History.{Problem, History, activation_of}
use Rattle.bs_log.specs.Refusal.{assumptions_of}
use Rattle.bs_log.specs.Refutation.{blocks_of}
use Rattle.bs_log.specs.Clauses.{clause_text}

-- each literal as a clause of its own
abbrev pub units : Clause → List Clause
units literals = map (λ l. l ∷ []) literals

-- the steps but this one, by their numbers: those before it and those behind it
abbrev pub others : ℕ → ℕ → List ℕ
others count step = range_with_len 1 (step - 1) ++ range_with_len (step + 1) (count - step)

-- the clause that turns a step's clauses off
abbrev pub closed : Problem → ℕ → Clause
closed p step = negation (activation_of p step) ∷ []

-- what stands behind the clauses: what the step assumes, its blocks in the order of the log, and that no other step is under way
abbrev pub behind : Problem → History → ℕ → List Clause
behind p h step = units (assumptions_of p step) ++ (reverse (blocks_of h step) ++ map (closed p) (others (length p.steps) step))

-- the clauses that a step's list stands on, where the history is that of the step's lines before its finish line
abbrev pub cnf_of : Problem → History → ℕ → List Clause
cnf_of p h step = p.clauses ++ behind p h step

-- ---- the text

abbrev pub header_text : (vars count : ℕ) → List ℕ
header_text vars count = line (codes "p cnf " ++ (decimal vars ++ (codes " " ++ decimal count)))

-- clauses over so many variables
abbrev pub dimacs_text : ℕ → List Clause → List ℕ
dimacs_text vars clauses = header_text vars (length clauses) ++ flat_map clause_text clauses

-- the activation literals count as variables
abbrev pub cnf_text : Problem → History → ℕ → List ℕ
cnf_text p h step = dimacs_text (p.vars + length p.steps) (cnf_of p h step)
