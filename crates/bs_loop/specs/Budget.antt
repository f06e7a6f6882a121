-- What may be asked of a backtrace.
use Rattle.std.specs.Prelude.{◌≤◌}
use Rattle.bs_report.specs.declared.limits.TheConstants.{MAX_STEPS, MAX_CANDIDATES, MAX_CONFLICTS}
use Rattle.bs_report.specs.declared.report.Budgets.{Budgets}

pub record IsBudget (b : Budgets) : Type 0 where
  pub steps : (1 ≤ b.steps) × (b.steps ≤ MAX_STEPS)
  pub candidates : (1 ≤ b.candidates) × (b.candidates ≤ MAX_CANDIDATES)
  pub conflicts : (1 ≤ b.conflicts) × (b.conflicts ≤ MAX_CONFLICTS)
