-- The clauses that all finished lists of a log stand on, and their text as DIMACS has it (docs/FORMATS.md, "Clauses for other checkers").
use Rattle.std.specs.Prelude.{ℕ, ◌+◌, ◌==◌, cond, List, [], ◌∷◌, ◌++◌, length, map, reverse, drop, Option, Some, None, is_some}
use Rattle.std.specs.List.{filter, flat_map, range_with_len}
use Rattle.bs_clause.specs.Literal.{Clause, negation}
use Rattle.bs_log.specs.declared.line.Line.TheVariants.{Finish}
use Rattle.bs_log.specs.History.{Problem, History, step_of, activation_of}
use Rattle.bs_log.specs.Refusal.{assumptions_of}
use Rattle.bs_log.specs.Refutation.{blocks_of}
use Rattle.bs_log.specs.Cnf.{dimacs_text, closed}

-- the lemma that finishes a step, if a line does
abbrev pub finish_of : History → ℕ → Option ℕ
finish_of [] step = None
finish_of (Finish id ∷ earlier) step = cond (step_of earlier == step) (Some id) (finish_of earlier step)
finish_of (line ∷ earlier) step = finish_of earlier step

-- the finished ones of the problem's steps
abbrev pub finished : Problem → History → List ℕ
finished p h = filter (λ step. is_some (finish_of h step)) (range_with_len 1 (length p.steps))

-- what a step assumes behind its activation literal, which comes first
abbrev pub rest_of : Problem → ℕ → Clause
rest_of p step = drop 1 (assumptions_of p step)

-- that each of these holds while the step is under way
abbrev pub guarded : Problem → ℕ → Clause → List Clause
guarded p step literals = map (λ a. negation (activation_of p step) ∷ a ∷ []) literals

-- what is said of a step: where a lemma finishes it, what it assumes while it is under way, and else that it is not under way
abbrev pub said_of : Problem → ℕ → Option ℕ → List Clause
said_of p step None = closed p step ∷ []
said_of p step (Some id) = guarded p step (rest_of p step)

-- the clauses of a step: its blocks in the order of the log, and what is said of it
abbrev pub part_of : Problem → History → ℕ → List Clause
part_of p h step = reverse (blocks_of h step) ++ said_of p step (finish_of h step)

-- one of the finished steps is under way
abbrev pub one_of : Problem → List ℕ → Clause
one_of p steps = map (activation_of p) steps

-- what stands behind the clauses: those of each step in order, and that one of the finished steps is under way
abbrev pub whole_behind : Problem → History → List Clause
whole_behind p h = flat_map (part_of p h) (range_with_len 1 (length p.steps)) ++ one_of p (finished p h) ∷ []

-- the clauses that all finished lists stand on, where the history is that of all lines of the log
abbrev pub whole_cnf_of : Problem → History → List Clause
whole_cnf_of p h = p.clauses ++ whole_behind p h

-- the activation literals count as variables
abbrev pub whole_cnf_text : Problem → History → List ℕ
whole_cnf_text p h = dimacs_text (p.vars + length p.steps) (whole_cnf_of p h)
