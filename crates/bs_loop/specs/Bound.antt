-- How many lemmas a backtrace logs, and when a list may end in conflicts.
use Rattle.std.specs.Prelude.{◌≡◌, ℕ, ◌+◌, ◌-◌, ◌<◌, ◌^◌, Some, List, length, slice_get}
use Rattle.bs_clause.specs.Literal.{Literal}
use Rattle.bs_clause.specs.UnitRun.{IsUnitRun}
use Rattle.bs_clause.specs.Range.{HasVariables}
use Rattle.bs_log.specs.History.{Problem}
use Rattle.bs_log.specs.Refusal.{assumptions_of, history_of}
use Rattle.bs_solve.specs.Budget.{HasFewLemmas}
use Rattle.bs_report.specs.declared.report.ListEnd.TheVariants.{Conflicts}
use Rattle.bs_report.specs.declared.report.Step.{Step}
use Rattle.bs_report.specs.declared.report.Report.{Report}

-- A solve logs at most as many lemmas as its budget, and fewer where a block follows. It does not come to its budget where a unit
-- run over the clauses and what its step assumes leaves so few variables open that the budget is at least the number of their
-- values.
pub record HasBound (p : Problem) (r : Report) : Type 0 where
  pub few : HasFewLemmas r.budgets.conflicts (history_of r.log)
  pub bound : (i : ℕ) (step : Step) → slice_get r.steps i ≡ Some step → step.end ≡ Conflicts → (run : List Literal) → HasVariables p.vars run →
      IsUnitRun p.clauses (assumptions_of p (i + 1)) run → r.budgets.conflicts < 2 ^ (p.vars - length run)
