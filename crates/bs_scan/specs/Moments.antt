-- The moments of recorded runs (docs/DEFINITIONS.md, "Moments").
use Rattle.std.specs.Prelude.{ℕ, zero, suc, ◌+◌, ◌-◌, ◌≤◌, Bool, max, nat_le, List, [], length, map, filter, find, fold, slice_index_or, Option}
use Rattle.std.specs.List.{list_any, range_with_len, flat_map}
use Rattle.bs_bits.specs.Bits.{bits_eq}
use Rattle.bs_net.specs.Circuit.{Circuit, reset_state, next}
use Rattle.bs_scan.specs.declared.moment.Moment.{Moment as CodeMoment}

-- a run: the input of each of its cycles
abbrev pub Run : Type 0
Run = List (List Bool)

-- a moment: a run, numbered from 1, and a cycle
abbrev pub Moment : Type 0
Moment = CodeMoment

abbrev pub moment : ℕ → ℕ → Moment
moment run cycle = record { run = run; cycle = cycle }

-- the state of a run at a cycle
unfoldable pub state_at : Circuit → Run → ℕ → List Bool
state_at c run zero = reset_state c
state_at c run (suc cycle) = next c (state_at c run cycle) (slice_index_or run cycle [])

-- the run with a number
abbrev pub run_of : List Run → ℕ → Run
run_of runs number = slice_index_or runs (number - 1) []

-- a run of n cycles has the moments of the cycles 0 to n
pub record IsMoment (runs : List Run) (m : Moment) : Type 0 where
  pub from_one : 1 ≤ m.run
  pub recorded : m.run ≤ length runs
  pub lasts : m.cycle ≤ length (run_of runs m.run)

abbrev pub state_of : Circuit → List Run → Moment → List Bool
state_of c runs m = state_at c (run_of runs m.run) m.cycle

-- the moments of one cycle, by the number of the run: the run lasts so long
abbrev pub moments_at : List Run → ℕ → List Moment
moments_at runs cycle =
    map (λ r. moment r cycle)
    (filter (λ r. nat_le cycle (length (run_of runs r))) (range_with_len 1 (length runs)))

-- how many cycles the longest run has
abbrev pub longest : List Run → ℕ
longest runs = fold max 0 (map (λ run. length run) runs)

-- every moment, by cycle and then by run
abbrev pub moments : List Run → List Moment
moments runs = flat_map (moments_at runs) (range_with_len 0 (longest runs + 1))

-- whether a state stands in a list
abbrev pub is_listed : List (List Bool) → List Bool → Bool
is_listed states s = list_any (bits_eq s) states

-- the first moment whose state is in the list
unfoldable pub first_moment : Circuit → List Run → List (List Bool) → Option Moment
first_moment c runs states = find (λ m. is_listed states (state_of c runs m)) (moments runs)
