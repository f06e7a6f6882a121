-- Recorded runs (docs/DEFINITIONS.md, "Run").
use Rattle.std.specs.Prelude.{◌≡◌, ℕ, ◌-◌, ◌≤◌, Bool, List, [], length, map, All, IsTrue, slice_index_or}
use Rattle.bs_bits.specs.Lines.{is_name}
use Rattle.bs_stim.specs.declared.limits.TheConstants.{MAX_RUNS, MAX_CYCLES, MAX_NAME}

-- a run: the bytes of its name, and the input of each cycle
pub record Recorded : Type 0 where
  pub name : List ℕ
  pub inputs : List (List Bool)

-- the runs, and the number of bits of an input line
pub record Stimulus : Type 0 where
  pub width : ℕ
  pub runs : List Recorded

-- the inputs alone, as the chip replays them
abbrev pub inputs_of : Stimulus → List (List (List Bool))
inputs_of stimulus = map (λ run. run.inputs) stimulus.runs

-- a run has a name of at most `MAX_NAME` bytes, at most `MAX_CYCLES` cycles, and inputs of one width
pub record IsRecorded (width : ℕ) (run : Recorded) : Type 0 where
  pub named : IsTrue (is_name run.name)
  pub short_name : length run.name ≤ MAX_NAME
  pub few_cycles : length run.inputs ≤ MAX_CYCLES
  pub widths : All (λ input. length input ≡ width) run.inputs

-- there are 1 to `MAX_RUNS` runs
pub record IsStimulus (stimulus : Stimulus) : Type 0 where
  pub some_run : 1 ≤ length stimulus.runs
  pub few_runs : length stimulus.runs ≤ MAX_RUNS
  pub recorded : All (IsRecorded stimulus.width) stimulus.runs

abbrev pub no_run : Recorded
no_run = record { name = []; inputs = [] }

-- the run with a number from 1
abbrev pub run_at : Stimulus → ℕ → Recorded
run_at stimulus number = slice_index_or stimulus.runs (number - 1) no_run
