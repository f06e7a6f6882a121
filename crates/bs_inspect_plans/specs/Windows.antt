-- What is said where no state of a trace is told.
use Rattle.std.specs.Prelude.{ℕ, Bool, List, ◌++◌, codes, decimal, Option, Some, None, if◌then◌else◌}
use Rattle.std.specs.List.{list_any, range_with_len}
use Rattle.bs_note_files.specs.Notes.{pair_text}
use Rattle.bs_inspect_report.specs.Window.{is_shown}
use Rattle.bs_inspect_report.specs.declared.window.Window.{Window}

-- some of so many states is in the window
abbrev pub shows_any : Window → ℕ → Bool
shows_any w count = list_any (is_shown w count) (range_with_len 0 count)

unfoldable pub empty_sentence : ℕ → List ℕ
empty_sentence count = codes "none of the states that are asked for is one of the trace, which has so many: " ++ decimal count

abbrev pub empty_text : ℕ → List ℕ
empty_text count = pair_text (empty_sentence count) (codes "--from and --to count the states from 0, and --last keeps only as many as it says, from the end")

-- the note on a trace of so many states, where the window has none of them
abbrev pub window_text : Window → ℕ → Option (List ℕ)
window_text w count = if shows_any w count then None else Some (empty_text count)
