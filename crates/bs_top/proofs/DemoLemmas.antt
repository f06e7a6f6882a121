-- The backtrace of a generated job.
use Rattle.std.proofs.Common.{◌≤◌, length, subst, sym, lit≤}
use Rattle.std.specs.Prelude.{All}
use Rattle.bs_scan.specs.Crash.{Crash}
use Rattle.bs_report.specs.declared.limits.TheConstants.{MAX_STEPS, MAX_CANDIDATES}
use Rattle.bs_report.specs.declared.report.Budgets.{Budgets}
use Rattle.bs_report.specs.declared.report.Report.{Report}
use Rattle.bs_loop.specs.Budget.{IsBudget}
use Rattle.bs_top.specs.Finishes.{demo_budgets, IsBacktrace}
use Rattle.bs_top.proofs.SizeLemmas.{few_steps, few_listed}

pub demo_budget : IsBudget demo_budgets
demo_budget = record { steps = (lit≤ tt, lit≤ tt); candidates = (lit≤ tt, lit≤ tt); conflicts = (lit≤ tt, lit≤ tt) }

pub demo_steps : (crash : Crash) (r : Report) → IsBacktrace crash demo_budgets r → length r.steps ≤ MAX_STEPS
demo_steps crash r is = few_steps crash r is.sound.good (subst (λ (b : Budgets). b.steps ≤ MAX_STEPS) (sym is.asked) (lit≤ tt))

pub demo_listed : (crash : Crash) (r : Report) → IsBacktrace crash demo_budgets r → All (λ step. length step.cands ≤ MAX_CANDIDATES) r.steps
demo_listed crash r is = few_listed crash r is.sound.good (subst (λ (b : Budgets). b.candidates ≤ MAX_CANDIDATES) (sym is.asked) (lit≤ tt))
