use Rattle.std.proofs.Common.{◌≡◌, take, true}
use Rattle.std.specs.Prelude.{All}
use Rattle.bs_clause.specs.Literal.{Clause}
use Rattle.bs_clause.specs.Range.{HasVariables}
use Rattle.bs_log.specs.Refusal.{has_distinct_variables}
use Rattle.bs_rows_chip.proofs.solve_rows.are_fit.Given as goal

abbrev pub invariant-loop-c : goal.invariant-loop-c
invariant-loop-c l = record {
  range : All (HasVariables l.vars) (take l.c-index l.clauses);
  distinct : All (λ (x : Clause). has_distinct_variables x ≡ true) (take l.c-index l.clauses);
}
