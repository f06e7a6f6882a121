-- The moments at which the states of a report's trace were recorded.
use Rattle.std.specs.Prelude.{ℕ, ◌+◌, ◌-◌, ◌==◌, ◌||◌, List, length, map, slice_get, Option, Some, None, if◌then◌else◌}
use Rattle.std.specs.List.{range_with_len}
use Rattle.bs_report.specs.declared.report.HitLine.{HitLine}
use Rattle.bs_report.specs.declared.report.Report.{Report}
use Rattle.bs_report.specs.declared.report.Step.{Step}
use Rattle.bs_inspect_report.specs.Execution.{is_execution}

-- the run and the cycle of a hit
abbrev pub moment_of : Option HitLine → Option (ℕ × ℕ)
moment_of None = None
moment_of (Some hit) = Some (hit.run, hit.cycle)

abbrev pub step_moment : Option Step → Option (ℕ × ℕ)
step_moment None = None
step_moment (Some step) = moment_of step.hit

-- the last state of a backtrace is the dump, the one before it the hit of the first step, and so on; an execution was not recorded
abbrev pub recorded_at : Report → ℕ → Option (ℕ × ℕ)
recorded_at r i =
    if is_execution r || (i + 1 == length r.states) then None else step_moment (slice_get r.steps (length r.states - 2 - i))

-- for each state the run and the cycle, where it was recorded
abbrev pub recorded_moments : Report → List (Option (ℕ × ℕ))
recorded_moments r = map (recorded_at r) (range_with_len 0 (length r.states))
