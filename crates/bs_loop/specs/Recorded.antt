-- What was recorded before a moment.
use Rattle.std.specs.Prelude.{◌≡◌, ℕ, ◌-◌, ◌==◌, ◌||◌, if◌then◌else◌, [], Option, Some, None, option_map, option_and_then, slice_index_or, List}
use Rattle.std.specs.List.{last_or}
use Rattle.bs_scan.specs.declared.dump.Dump.{Dump}
use Rattle.bs_scan.specs.Choice.{depth_of}
use Rattle.bs_scan.specs.Crash.{Recording, dump_at}
use Rattle.bs_scan.specs.Moments.{Moment, moment, IsMoment, run_of, state_at}
use Rattle.bs_report.specs.declared.report.Before.{Before}
use Rattle.bs_report.specs.declared.report.Cand.{Cand}
use Rattle.bs_report.specs.declared.report.Step.{Step}

-- the state of a run at a cycle, and the input recorded there
abbrev pub recorded_at : Recording → ℕ → ℕ → Before
recorded_at r run cycle = record { state = state_at r.circuit (run_of r.runs run) cycle; input = slice_index_or (run_of r.runs run) cycle [] }

-- the same of the cycle before, where the register keeps two signatures and there is such a cycle
abbrev pub before_at : Recording → ℕ → ℕ → Option Before
before_at r run cycle = if (depth_of r.choice == 1) || (cycle == 0) then None else Some (recorded_at r run (cycle - 1))

-- the state of a run at a cycle with its recorded input, and what stands before it
abbrev pub cand_at : Recording → ℕ → ℕ → Cand
cand_at r run cycle =
    record { state = (recorded_at r run cycle).state; input = (recorded_at r run cycle).input; before = before_at r run cycle }

-- the moment before a moment above cycle 0
abbrev pub known_before : Recording → Option Moment → Option Cand
known_before r None = None
known_before r (Some m) = if m.cycle == 0 then None else Some (cand_at r m.run (m.cycle - 1))

-- the present is the dump of the moment
pub record StandsIn (r : Recording) (now : Dump) (m : Moment) : Type 0 where
  pub moment : IsMoment r.runs m
  pub dump : now ≡ dump_at r m

-- the moment that the last step hit
abbrev pub last_moment : List Step → Option Moment
last_moment steps = option_and_then (λ step. option_map (λ hit. moment hit.run hit.cycle) step.hit) (last_or None steps)
