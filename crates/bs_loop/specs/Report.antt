-- The report of a way, and its log.
use Rattle.std.specs.Prelude.{◌≡◌, ◌<◌, ◌^◌, false, List, length, All}
use Rattle.bs_log.specs.LineForms.{HasText}
use Rattle.bs_log.specs.Refusal.{history_of, IsAccepted}
use Rattle.bs_log.specs.Lean.{IsLean}
use Rattle.bs_preimage.specs.Preimage.{PreimageState}
use Rattle.bs_scan.specs.Crash.{Crash}
use Rattle.bs_report.specs.declared.report.Budgets.{Budgets}
use Rattle.bs_report.specs.declared.report.Report.{Report}
use Rattle.bs_report.specs.declared.report.Step.{Step}
use Rattle.bs_report.specs.declared.report.Stop.{Stop}
use Rattle.bs_report.specs.Trace.{trace_end, trace_inputs, trace_states}

-- the report of these steps from a crash, and of the cause of their stop, whatever its log
pub record IsOfWay (crash : Crash) (budgets : Budgets) (steps : List Step) (stop : Stop) (r : Report) : Type 0 where
  pub depth : r.depth ≡ crash.dump.depth
  pub asked : r.budgets ≡ budgets
  pub steps_are : r.steps ≡ steps
  pub stop_is : r.stop ≡ stop
  pub states : r.states ≡ trace_states (trace_end crash steps).bits steps
  pub inputs : r.inputs ≡ trace_inputs steps
  pub free : r.free ≡ (trace_end crash steps).free

-- the same report with another log
pub record IsAlikeButLog (old new : Report) : Type 0 where
  pub depth : new.depth ≡ old.depth
  pub asked : new.budgets ≡ old.budgets
  pub steps_are : new.steps ≡ old.steps
  pub stop_is : new.stop ≡ old.stop
  pub states : new.states ≡ old.states
  pub inputs : new.inputs ≡ old.inputs
  pub free : new.free ≡ old.free

-- the same report with the log of a search, which is accepted while memory has not run out
pub record IsWithLog (s : PreimageState) (old new : Report) : Type 0 where
  pub alike : IsAlikeButLog old new
  pub lines : history_of new.log ≡ s.history
  pub lean : s.failed ≡ false → IsLean s.problem (history_of new.log)
  pub accepted : s.failed ≡ false → IsAccepted s.problem new.log
  pub texts : All HasText new.log
  pub few : length new.log < 2 ^ 64
