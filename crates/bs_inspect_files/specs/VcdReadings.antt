-- A run beside the text of its VCD, and how many VCDs there are.
use Rattle.std.specs.Prelude.{ℕ, ◌==◌, Bool, true, List, ◌++◌, length, codes, decimal, Option, Result, Ok, Err, if◌then◌else◌}
use Rattle.bs_net.specs.Parts.{Parts}
use Rattle.bs_stim.specs.Runs.{Stimulus}
use Rattle.bs_note_files.specs.Notes.{file_text}
use Rattle.bs_inspect_notes.specs.declared.name.Subject.TheVariants.{Flops}
use Rattle.bs_inspect_check.specs.declared.comparison.Comparison.{Comparison}
use Rattle.bs_inspect_check.specs.Comparison.{compared_in}
use Rattle.bs_outside.specs.Plan.{Reason, any_of}
use Rattle.bs_top_files.specs.Causes.{Case, stated, with_reason}
use Rattle.bs_inspect_values.specs.Saying.{vcd_reason}

-- the run with a number beside the text of its VCD, which stands at a path, where the flip-flops with these keys have those names
abbrev pub compared_read : Parts → Stimulus → (number : ℕ) → (path : List ℕ) → (keys names : List (List ℕ)) → (scope : Option (List ℕ)) →
    (clock text : List ℕ) → Result Comparison (Reason Case)
compared_read raw runs number path keys names scope clock text =
    with_reason (vcd_reason Flops path text keys names scope clock) (compared_in raw runs number path text scope clock names)

-- ---- as many VCDs as runs

abbrev pub count_words : ℕ → List ℕ
count_words runs = codes "Runs " ++ decimal runs

abbrev pub count_text : (path : List ℕ) → (runs vcds : ℕ) → List ℕ
count_text path runs vcds =
    file_text path (codes "the stimulus has so many runs, each of which needs its VCD: " ++ (decimal runs ++ (codes "; VCDs that are named: " ++ decimal vcds)))

-- a VCD for each run of the stimulus at a path
abbrev pub count_in : Stimulus → List ℕ → List (List ℕ) → Result Bool (Reason Case)
count_in runs path vcds =
    if length runs.runs == length vcds then Ok true
    else Err (any_of (stated (count_words (length runs.runs)) (count_text path (length runs.runs) (length vcds))))
