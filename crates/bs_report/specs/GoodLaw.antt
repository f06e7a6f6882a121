-- Laws of good reports.
use Rattle.std.specs.Prelude.{◌≡◌, ◌≢◌, ◌↔◌, ℕ, ◌+◌, ◌<◌, ◌≤◌, Bool, List, [], ◌++◌, length, take, map, filter_map, Option, Some, None, option_map, slice_get, All}
use Rattle.std.specs.List.{range_with_len, last_or}
use Rattle.bs_scan.specs.Seen.{whole, Shows}
use Rattle.bs_net.specs.Circuit.{Circuit, Leads}
use Rattle.bs_scan.specs.declared.moment.Moment.{Moment}
use Rattle.bs_scan.specs.Moments.{Run, moment, IsMoment, run_of, state_at}
use Rattle.bs_report.specs.declared.report.Step.{Step}
use Rattle.bs_report.specs.declared.report.HitLine.{HitLine}
use Rattle.bs_report.specs.declared.report.Report.{Report}
use Rattle.bs_report.specs.declared.report.Stop.TheVariants.{Reset}
use Rattle.bs_scan.specs.Crash.{Crash, IsCrash}
use Rattle.bs_scan.specs.Present.{LeadsInto}
use Rattle.bs_report.specs.Good.{IsGood}
use Rattle.bs_report.specs.Stop.{IsFinished}
use Rattle.bs_report.specs.Trace.{trace_end}

-- ---- progress

-- the later step has a hit, at a smaller cycle than the earlier one
pub record HitsEarlier (earlier later : Step) : Type 0 where
  pub before : HitLine
  pub hit : HitLine
  pub before_is : earlier.hit ≡ Some before
  pub hit_is : later.hit ≡ Some hit
  pub smaller : hit.cycle < before.cycle

abbrev pub LaterHitsAreEarlier : Type 0
LaterHitsAreEarlier =
    (crash : Crash) (r : Report) (i : ℕ) (earlier later : Step) → IsCrash crash → IsGood crash r →
    slice_get r.steps i ≡ Some earlier → slice_get r.steps (i + 1) ≡ Some later → IsFinished later.end →
    HitsEarlier earlier later

-- ---- the headline

-- the inputs of a run up to a moment, and then others
abbrev pub continued : List Run → Moment → List (List Bool) → Run
continued runs m inputs = take m.cycle (run_of runs m.run) ++ inputs

-- the hit of the last step that has one
abbrev pub last_hit : List Step → Option HitLine
last_hit steps = last_or None (filter_map (λ step. step.hit) steps)

-- An execution from reset goes under a supplied run's inputs to the moment of the last hit, and from there under the trace's
-- inputs through the trace's states, all of which are known, and of which the last shows what is known of the dumped one.
pub record EndsExecution (crash : Crash) (r : Report) : Type 0 where
  pub reached : Moment
  pub last : option_map (λ hit. moment hit.run hit.cycle) (last_hit r.steps) ≡ Some reached
  pub recorded : IsMoment crash.runs reached
  pub states : r.states ≡ map (state_at crash.circuit (continued crash.runs reached r.inputs)) (range_with_len reached.cycle (length r.inputs + 1))
  pub ends : Shows crash.dump.state (state_at crash.circuit (continued crash.runs reached r.inputs) (reached.cycle + length r.inputs))
  pub known : r.free ≡ []

abbrev pub TracesEndExecutions : Type 0
TracesEndExecutions =
    (crash : Crash) (r : Report) → IsCrash crash → IsGood crash r → r.inputs ≢ [] → EndsExecution crash r

-- ---- the ends of a backtrace

-- A finished list without a hit is the first one.
abbrev pub UnhitIsFirst : Type 0
UnhitIsFirst =
    (crash : Crash) (r : Report) (i : ℕ) (step : Step) → IsCrash crash → IsGood crash r →
    slice_get r.steps i ≡ Some step → IsFinished step.end → step.hit ≡ None → i ≡ 0

-- Where all lists are finished, and the first step hits at a cycle within the budget of steps, reset is reached.
abbrev pub FinishedReachReset : Type 0
FinishedReachReset =
    (crash : Crash) (r : Report) (first : Step) (hit : HitLine) → IsCrash crash → IsGood crash r → All (λ step. IsFinished step.end) r.steps →
    slice_get r.steps 0 ≡ Some first → first.hit ≡ Some hit → hit.cycle + 1 ≤ r.budgets.steps →
    (r.stop ≡ Reset) × (length r.steps ≤ hit.cycle + 1)

-- ---- a dump of which all is known

-- The trace of a good report ends in it.
abbrev pub WholeDumpsEndTraces : Type 0
WholeDumpsEndTraces =
    (crash : Crash) (r : Report) → IsCrash crash → IsGood crash r → crash.dump.state.free ≡ [] → trace_end crash r.steps ≡ crash.dump.state

-- To lead to a state that shows it is to lead to it.
abbrev pub WholeStatesAreLedTo : Type 0
WholeStatesAreLedTo = (c : Circuit) (s x p : List Bool) → LeadsInto c s x (whole p) ↔ Leads c s x p
