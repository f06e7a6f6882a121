-- What holds of a report that is written, or accepted.
use Rattle.std.specs.Prelude.{◌≡◌, ◌≢◌, ℕ, ◌+◌, ◌≤◌, [], length, All, Some, None, slice_get}
use Rattle.bs_report.specs.declared.report.HitLine.{HitLine}
use Rattle.bs_report.specs.declared.report.Step.{Step}
use Rattle.bs_report.specs.declared.report.Report.{Report}
use Rattle.bs_report.specs.declared.report.Stop.TheVariants.{Reset}
use Rattle.bs_scan.specs.Crash.{Crash}
use Rattle.bs_report.specs.Good.{IsGood}
use Rattle.bs_report.specs.GoodLaw.{EndsExecution, HitsEarlier}
use Rattle.bs_report.specs.Stop.{IsFinished}
use Rattle.bs_report.specs.Valid.{IsValid}
use Rattle.bs_audit.specs.Finding.{basis_for}

-- The report is good and valid. A trace of at least one step ends an execution from reset under a supplied run's inputs and then
-- the trace's, which ends in a state that shows the dump's known bits. Each later finished step hits earlier, so that a finished list
-- without a hit is the first one, and where all are finished the backtrace reaches reset if the budget of steps allows it.
pub record IsSoundReport (crash : Crash) (r : Report) : Type 0 where
  pub good : IsGood crash r
  pub valid : IsValid crash (basis_for crash r) r
  pub headline : r.inputs ≢ [] → EndsExecution crash r
  pub progress : (i : ℕ) (earlier later : Step) → slice_get r.steps i ≡ Some earlier → slice_get r.steps (i + 1) ≡ Some later → IsFinished later.end →
      HitsEarlier earlier later
  pub unhit_is_first : (i : ℕ) (step : Step) → slice_get r.steps i ≡ Some step → IsFinished step.end → step.hit ≡ None → i ≡ 0
  pub reaches_reset : (first : Step) (hit : HitLine) → All (λ step. IsFinished step.end) r.steps → slice_get r.steps 0 ≡ Some first → first.hit ≡ Some hit →
      hit.cycle + 1 ≤ r.budgets.steps → (r.stop ≡ Reset) × (length r.steps ≤ hit.cycle + 1)
