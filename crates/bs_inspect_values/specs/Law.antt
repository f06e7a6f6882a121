-- The text of runs that were simulated is read back.
use Rattle.std.specs.Prelude.{◌≡◌, ℕ, ◌≤◌, Bool, List, length, map, All, Ok}
use Rattle.bs_bits.specs.Lines.{lines_of}
use Rattle.bs_stim.specs.declared.limits.TheConstants.{MAX_CYCLES, MAX_RUNS}
use Rattle.bs_stim.specs.Runs.{Recorded}
use Rattle.bs_stim.specs.StimulusText.{stimulus_of}
use Rattle.bs_inspect_values.specs.SimulatedRun.{recorded, runs_text}

-- the lines of a file: few enough, and each has the width
pub record IsFile (width : ℕ) (path : List ℕ) (lines : List (List Bool)) : Type 0 where
  pub few : length lines ≤ MAX_CYCLES
  pub widths : All (λ input. length input ≡ width) lines

-- files with their lines
abbrev pub Files : Type 0
Files = List (List ℕ × List (List Bool))

abbrev pub runs_of : Files → List Recorded
runs_of files = map (λ f. recorded f.0 f.1) files

-- where there are files and not too many
abbrev pub RunsReadBack : Type 0
RunsReadBack =
    (width : ℕ) (files : Files) → 1 ≤ length files → length files ≤ MAX_RUNS → All (λ f. IsFile width f.0 f.1) files →
    stimulus_of width (lines_of (runs_text (runs_of files))) ≡ Ok (record { width = width; runs = runs_of files })
