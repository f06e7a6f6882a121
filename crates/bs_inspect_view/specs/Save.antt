-- A save file of gtkwave for the waveform of a trace: which file it opens, and which signals it shows (docs/FORMATS.md, "Texts of
-- `backspace_inspect`").
use Rattle.std.specs.Prelude.{◌≡◌, ℕ, ◌+◌, ◌-◌, ◌==◌, List, [], ◌++◌, length, codes, decimal, if◌then◌else◌}
use Rattle.std.specs.List.{flat_map}
use Rattle.bs_bits.specs.Lines.{line}
use Rattle.bs_net.specs.Parts.{Parts}
use Rattle.bs_net_names.specs.Ranges.{range_text}
use Rattle.bs_inspect_view.specs.Signals.{Signal}
use Rattle.bs_inspect_view.specs.Drawn.{AreDrawn, ViewRequest}
use Rattle.bs_inspect_view.specs.Scopes.{leaf_of, parts_of, path_of, word_of}

-- the file of the waveform, the time of the first moment, the marker's, and `run` and `cycle` as decimal numbers
abbrev pub save_head : (wave : List ℕ) → (from marker : ℕ) → List ℕ
save_head wave from marker =
    codes "[dumpfile] \"" ++ (wave ++ (line (codes "\"") ++ (line (codes "[timestart] " ++ decimal from)
    ++ (line (codes "*0.000000 " ++ decimal marker) ++ codes "@24\nrecorded.run\nrecorded.cycle\n"))))

-- a scope, and the dot behind it
abbrev pub scope_word : List ℕ → List ℕ
scope_word part = word_of part ++ codes "."

-- the scopes of a path
abbrev pub path_words : List ℕ → List ℕ
path_words path = if length path == 0 then [] else flat_map scope_word (parts_of path)

-- the variable of a signal in the waveform, behind its scopes
abbrev pub full_name : Signal → List ℕ
full_name s = codes "trace." ++ (path_words (path_of s.base) ++ (word_of (leaf_of s.base) ++ range_text s.high (length s.places)))

-- one bit is shown as it is, and more are a number of base 16
abbrev pub format_line : ℕ → List ℕ
format_line count = if count == 1 then line (codes "@28") else line (codes "@22")

abbrev pub shown_lines : Signal → List ℕ
shown_lines s = format_line (length s.places) ++ line (full_name s)

abbrev pub save_lines : (wave : List ℕ) → (from marker : ℕ) → List Signal → List ℕ
save_lines wave from marker signals = save_head wave from marker ++ flat_map shown_lines signals

-- the text opens the waveform of this name, and shows the signals that are drawn in it: each once, in its order; the marker stands at the
-- last of so many states
pub record IsSaveFile (raw : Parts) (asked : ViewRequest) (wave : List ℕ) (states : ℕ) (text : List ℕ) : Type 0 where
  pub signals : List Signal
  pub are : AreDrawn raw asked signals
  pub says : text ≡ save_lines wave asked.from (asked.from + (states - 1)) signals
