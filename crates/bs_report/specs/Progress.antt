-- How a backtrace goes back, whatever its budget of candidates is.
use Rattle.std.specs.Prelude.{◌≡◌, ◌≢◌, ◌⊎◌, ℕ, ◌+◌, ◌<◌, ◌≤◌, true, List, length, Some, None, slice_get, All}
use Rattle.bs_scan.specs.Crash.{Crash}
use Rattle.bs_scan.specs.Moments.{Moment, IsMoment, state_of, is_listed}
use Rattle.bs_report.specs.declared.report.HitLine.{HitLine}
use Rattle.bs_report.specs.declared.report.ListEnd.TheVariants.{Candidates, Conflicts}
use Rattle.bs_report.specs.declared.report.Report.{Report}
use Rattle.bs_report.specs.declared.report.Step.{Step}
use Rattle.bs_report.specs.declared.report.Stop.TheVariants as stops
use Rattle.bs_report.specs.GoodLaw.{HitsEarlier}
use Rattle.bs_report.specs.Step.{listed}

-- a step lists the state of some moment before a cycle
pub record ListsSooner (crash : Crash) (step : Step) (cycle : ℕ) : Type 0 where
  pub there : Moment
  pub recorded : IsMoment crash.runs there
  pub sooner : there.cycle < cycle
  pub is : is_listed (listed step.cands) (state_of crash.circuit crash.runs there) ≡ true

-- the later step lists the state of some moment before the cycle of the earlier one's hit
pub record ListsBefore (crash : Crash) (earlier later : Step) : Type 0 where
  pub before : (hit : HitLine) → earlier.hit ≡ Some hit → 1 ≤ hit.cycle → ListsSooner crash later hit.cycle

-- each step behind the first does, whose list ended by its count
abbrev pub ListBefore : Crash → List Step → Type 0
ListBefore crash steps =
    (i : ℕ) (earlier later : Step) → slice_get steps i ≡ Some earlier → slice_get steps (i + 1) ≡ Some later → later.end ≡ Candidates →
    ListsBefore crash earlier later

-- A step behind the first one, unless its list ended with conflicts, hits at a smaller cycle than the step before. So a list without
-- a hit that ended otherwise is the first one; and where no list with a hit ended with conflicts, and the first step hits at a cycle
-- within the budget of steps, reset is reached after at most one step more than this cycle, or the last list ended with conflicts.
pub record GoesBack (r : Report) : Type 0 where
  pub later : (i : ℕ) (earlier later : Step) → slice_get r.steps i ≡ Some earlier → slice_get r.steps (i + 1) ≡ Some later → later.end ≢ Conflicts →
      HitsEarlier earlier later
  pub first : (i : ℕ) (step : Step) → slice_get r.steps i ≡ Some step → step.end ≢ Conflicts → step.hit ≡ None → i ≡ 0
  pub ends : All (λ step. step.hit ≢ None → step.end ≢ Conflicts) r.steps → (first : Step) (hit : HitLine) → slice_get r.steps 0 ≡ Some first →
      first.hit ≡ Some hit → hit.cycle + 1 ≤ r.budgets.steps → ((r.stop ≡ stops.Reset) × (length r.steps ≤ hit.cycle + 1)) ⊎ (r.stop ≡ stops.Conflicts)
