-- The data inputs of a recorded run beside those of a simulation (docs/FORMATS.md, "Texts of `backspace_inspect`").
use Rattle.std.specs.Prelude.{ℕ, ◌==◌, ◌&&◌, Bool, true, false, not, List, [], ◌∷◌, length, map, min, slice_index_or, Option, Some, None, Result, Ok, Err}
use Rattle.std.specs.Bool.{beq}
use Rattle.std.specs.List.{find, list_any, range_with_len}
use Rattle.bs_scan.specs.Moments.{Run}
use Rattle.bs_stim.specs.Runs.{Stimulus, no_run}
use Rattle.bs_vcd_header.specs.declared.fault.VcdFault.{VcdFault}
use Rattle.bs_vcd_header.specs.declared.fault.VcdFault.TheVariants.{NoMemory as Want}
use Rattle.bs_vcd.specs.declared.clock_edges.SampledLines.{SampledLines}
use Rattle.bs_inspect_check.specs.declared.inputs.InputComparison.{InputComparison}
use Rattle.bs_inspect_check.specs.declared.level.FlopLevel.{FlopLevel}
use Rattle.bs_inspect_check.specs.declared.level.FlopLevel.TheVariants.{Known as Level}
use Rattle.bs_inspect_check.specs.declared.tally.CycleEnd.{CycleEnd}

-- ---- two runs

-- the bit of a data input in a cycle
abbrev pub input_bit : Run → (cycle place : ℕ) → Bool
input_bit run cycle place = slice_index_or (slice_index_or run cycle []) place false

-- the bit of a data input is another one
abbrev pub other_bit : Run → Run → (cycle place : ℕ) → Bool
other_bit one other cycle place = not (beq (input_bit one cycle place) (input_bit other cycle place))

-- the bit of one of so many data inputs is another one in a cycle
abbrev pub is_other_cycle : (width : ℕ) → Run → Run → (cycle : ℕ) → Bool
is_other_cycle width one other cycle = list_any (other_bit one other cycle) (range_with_len 0 width)

-- the cycles that both have
abbrev pub both_cycles : Run → Run → List ℕ
both_cycles one other = range_with_len 0 (min (length one) (length other))

-- the first of these in which the bit of a data input is another one, if there is one
abbrev pub first_other : (width : ℕ) → Run → Run → Option ℕ
first_other width one other = find (is_other_cycle width one other) (both_cycles one other)

-- two runs are like: they have as many cycles, and in each the same bit of each data input
abbrev pub is_like : (width : ℕ) → Run → Run → Bool
is_like width one other = (length one == length other) && not (list_any (is_other_cycle width one other) (both_cycles one other))

-- ---- a run and its VCD

-- the inputs of the run at a place, from 0
abbrev pub inputs_at : Stimulus → ℕ → Run
inputs_at s i = (slice_index_or s.runs i no_run).inputs

-- the place of the first run that is like this one, if there is one
abbrev pub first_like : Stimulus → Run → Option ℕ
first_like s vcd = find (λ i. is_like s.width (inputs_at s i) vcd) (range_with_len 0 (length s.runs))

-- the bits of so many data inputs in a cycle, of a run and of a VCD
abbrev pub run_row : (width : ℕ) → Run → (cycle : ℕ) → List Bool
run_row width run cycle = map (input_bit run cycle) (range_with_len 0 width)

abbrev pub vcd_row : (width : ℕ) → Run → (cycle : ℕ) → List FlopLevel
vcd_row width vcd cycle = map (λ place. Level (input_bit vcd cycle place)) (range_with_len 0 width)

abbrev pub input_end : (width : ℕ) → Run → Run → (cycle : ℕ) → CycleEnd
input_end width run vcd cycle = record { cycle = cycle; state = run_row width run cycle; levels = vcd_row width vcd cycle }

abbrev pub ends_at : (width : ℕ) → Run → Run → Option ℕ → List CycleEnd
ends_at width run vcd None = []
ends_at width run vcd (Some cycle) = input_end width run vcd cycle ∷ []

-- where some cycle differs: the place of the first run that is like the VCD, if there is one
abbrev pub like_if : Stimulus → Run → Option ℕ → Option ℕ
like_if s vcd None = None
like_if s vcd (Some cycle) = first_like s vcd

-- the run at a place beside the inputs of a VCD just before each edge, where this is the first cycle that differs
abbrev pub beside_from : Stimulus → ℕ → Run → Option ℕ → InputComparison
beside_from s i vcd other = record { known = true; differing = ends_at s.width (inputs_at s i) vcd other; like = like_if s vcd other }

-- the run at a place beside the inputs of a VCD just before each edge
abbrev pub inputs_beside : Stimulus → ℕ → Run → InputComparison
inputs_beside s i vcd = beside_from s i vcd (first_other s.width (inputs_at s i) vcd)

-- nothing is known of the inputs of a VCD
abbrev pub no_inputs : InputComparison
no_inputs = record { known = false; differing = []; like = None }

-- the same where the VCD has each data input as 0 or 1 just before each edge
abbrev pub inputs_compared : Stimulus → ℕ → Result SampledLines VcdFault → InputComparison
inputs_compared s i (Ok vcd) = inputs_beside s i vcd.lines
inputs_compared s i (Err fault) = no_inputs

-- ---- what inner functions promise each other

abbrev pub is_want : VcdFault → Bool
is_want Want = true
is_want _ = false
