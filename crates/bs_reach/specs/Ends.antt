-- How the search over the lengths ends.
use Rattle.std.specs.Prelude.{ℕ, ◌<◌, Bool, List}
use Rattle.bs_scan.specs.declared.seen.Seen.{Seen}
use Rattle.bs_clause.specs.Literal.{Clause}
use Rattle.bs_encode.specs.Encoded.{Encoded}
use Rattle.bs_solve_lemmas.specs.Solver.{SolverState}
use Rattle.bs_reach.specs.declared.search.End.{End}
use Rattle.bs_reach.specs.declared.search.End.TheVariants.{Reached, Unreached, Unknown}
use Rattle.bs_reach.specs.Search.{IsBetween, HasShown, HasSpent}

abbrev pub EndsAs : List Clause → Encoded → ℕ → Seen → ℕ → SolverState → End → Type 0
EndsAs clauses e k p b s (Reached c values) = (c < k) × HasShown clauses e k p b c values s
EndsAs clauses e k p b s Unreached = IsBetween clauses e k p b k s
EndsAs clauses e k p b s (Unknown c) = (c < k) × HasSpent clauses e k p b c s
