-- What is said of a dump whose simulation does not have all flip-flops.
use Rattle.std.specs.Prelude.{ℕ, ◌==◌, List, ◌++◌, codes, decimal, Option, Some, None, if◌then◌else◌}
use Rattle.bs_note_files.specs.Notes.{pair_text}

unfoldable pub lack_sentence : ℕ → List ℕ
lack_sentence count = codes "so many flip-flops are not in the simulation, and `-` stands for each of them: " ++ decimal count

abbrev pub lack_text : ℕ → List ℕ
lack_text count = pair_text (lack_sentence count) (codes "`check` tells their names; where they are there, --scope and --map say where")

-- the note on a dump of which so many are not there, where there are some
abbrev pub lacking_text : ℕ → Option (List ℕ)
lacking_text count = if count == 0 then None else Some (lack_text count)
