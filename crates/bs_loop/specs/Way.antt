-- Between two turns of a backtrace.
use Rattle.std.specs.Prelude.{◌≡◌, ℕ, ◌≤◌, List, Option, IfSome, length}
use Rattle.bs_scan.specs.declared.dump.Dump.{Dump}
use Rattle.bs_report.specs.declared.report.Step.{Step}
use Rattle.bs_report.specs.declared.report.Stop.{Stop}
use Rattle.bs_report.specs.declared.report.Budgets.{Budgets}
use Rattle.bs_scan.specs.Crash.{Recording, Crash, crash_of, DumpFits}
use Rattle.bs_report.specs.Stop.{StopsFor}
use Rattle.bs_preimage.specs.Preimage.{PreimageState}
use Rattle.bs_scan.specs.Moments.{Moment}
use Rattle.bs_loop.specs.Recorded.{StandsIn, last_moment}
use Rattle.bs_loop.specs.Made.{HasMade, StandsAt}

-- so many steps are made from the dump, each with a hit, and the last hit is the present, at its moment
pub record IsUnderWay (r : Recording) (dump : Dump) (budgets : Budgets) (steps : List Step) (s : PreimageState) (now : Dump) (at : Option Moment)
    (number : ℕ) : Type 0 where
  pub made : HasMade (crash_of r dump) budgets steps s
  pub stands : StandsAt (crash_of r dump) steps now
  pub last : at ≡ last_moment steps
  pub recorded : IfSome at (StandsIn r now)
  pub fits : DumpFits r.circuit r.choice now
  pub count : length steps ≡ number

-- the steps made, and the cause for which no more are made
pub record HasEnded (crash : Crash) (budgets : Budgets) (steps : List Step) (s : PreimageState) (stop : Stop) : Type 0 where
  pub made : HasMade crash budgets steps s
  pub few : length steps ≤ budgets.steps
  pub cause : StopsFor crash budgets steps stop
