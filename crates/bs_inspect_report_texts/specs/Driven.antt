-- What a test bench drives, and whether the netlist goes through a report's trace under it (docs/DEFINITIONS.md, "Trace").
use Rattle.std.specs.Prelude.{◌≡◌, ℕ, ◌+◌, ◌<◌, Bool, List, [], length, slice_index_or, Option, Some, None, option_map}
use Rattle.bs_net.specs.Circuit.{Circuit}
use Rattle.bs_scan.specs.Moments.{IsMoment, Moment, Run, moment, state_at}
use Rattle.bs_report.specs.declared.report.Report.{Report}
use Rattle.bs_report.specs.GoodLaw.{continued, last_hit}

-- the moment of the trace's first state: that of the last hit; without a hit the trace begins at reset
abbrev pub begin_of : Report → Option Moment
begin_of r = option_map (λ hit. moment hit.run hit.cycle) (last_hit r.steps)

-- how many cycles stand before the trace's first state
abbrev pub cycles_before : Option Moment → ℕ
cycles_before None = 0
cycles_before (Some m) = m.cycle

-- there is such a moment
abbrev pub IsThere : List Run → Option Moment → Type 0
IsThere runs None = Unit {0}
IsThere runs (Some m) = IsMoment runs m

-- the inputs of a run up to a moment, and then those of the trace
abbrev pub driven_from : List Run → List (List Bool) → Option Moment → Run
driven_from runs inputs None = inputs
driven_from runs inputs (Some m) = continued runs m inputs

-- the inputs that a test bench drives, cycle by cycle from reset
abbrev pub driven : List Run → Report → Run
driven runs r = driven_from runs r.inputs (begin_of r)

-- under these inputs the netlist goes from reset, behind so many cycles, through the first of these states
pub record GoesThrough (c : Circuit) (inputs : Run) (cycles : ℕ) (states : List (List Bool)) (count : ℕ) : Type 0 where
  pub each : (i : ℕ) → i < count → state_at c inputs (cycles + i) ≡ slice_index_or states i []

-- through all of them
abbrev pub GoesOn : Circuit → Run → ℕ → List (List Bool) → Type 0
GoesOn c inputs cycles states = GoesThrough c inputs cycles states (length states)

-- the first of these states that it is not in at its cycle
pub record IsAstray (c : Circuit) (inputs : Run) (cycles : ℕ) (states : List (List Bool)) (i : ℕ) : Type 0 where
  pub there : i < length states
  pub other : state_at c inputs (cycles + i) ≡ slice_index_or states i [] → ⊥
  pub before : GoesThrough c inputs cycles states i
