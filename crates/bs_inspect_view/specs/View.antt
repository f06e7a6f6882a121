-- The waveform of a trace in the form that viewers take (docs/FORMATS.md, "Texts of `backspace_inspect`"): a four-state value change
-- dump (IEEE 1364-2005, 18.2) whose variables are signals.
use Rattle.std.specs.Prelude.{◌≡◌, ℕ, ◌+◌, ◌-◌, ◌==◌, not, Bool, true, false, List, [], ◌∷◌, ◌++◌, length, map, codes, decimal, slice_get, Option, Some, None}
use Rattle.std.specs.Prelude.{if◌then◌else◌}
use Rattle.std.specs.List.{flat_map, list_any, range_with_len}
use Rattle.bs_bits.specs.Lines.{line}
use Rattle.bs_net.specs.Parts.{Parts}
use Rattle.bs_net_names.specs.Ranges.{range_text}
use Rattle.bs_inspect_view.specs.Signals.{Signal}
use Rattle.bs_inspect_view.specs.Drawn.{AreDrawn, ViewRequest}
use Rattle.bs_inspect_view.specs.Recorded.{opening_lines, recorded_lines}
use Rattle.bs_inspect_view.specs.Scopes.{leaf_of, moves, path_of, scopes, word_of}
use Rattle.bs_wave.specs.declared.value.Value.{Value}
use Rattle.bs_wave.specs.declared.wave.Wave.{Wave}
use Rattle.bs_wave.specs.Wave.{IsWaveOf, value_at}
use Rattle.bs_wave.specs.WaveText.{id_of, same_value, time_line, value_code}

-- ---- variables

-- the numbers of a vector's bits behind its name, and nothing behind a net's
abbrev pub range_words : Option ℕ → ℕ → List ℕ
range_words None count = []
range_words (Some high) count = codes " " ++ range_text (Some high) count

-- the name of a signal in its scope
abbrev pub reference : Signal → List ℕ
reference s = word_of (leaf_of s.base) ++ range_words s.high (length s.places)

-- the variable of the signal with this number
abbrev pub variable_line : ℕ → Signal → List ℕ
variable_line i s =
    line (codes "$var wire " ++ (decimal (length s.places) ++ (codes " " ++ (id_of i ++ (codes " " ++ (reference s ++ codes " $end"))))))

-- the same in its scopes, where those of this path are open
abbrev pub scoped : List ℕ → ℕ → Signal → List ℕ
scoped path i s = moves path (path_of s.base) ++ variable_line i s

abbrev pub path_at : Option Signal → List ℕ
path_at None = []
path_at (Some s) = path_of s.base

-- the path of the signal before this one, which the first has none of
abbrev pub path_before : List Signal → ℕ → List ℕ
path_before signals i = if i == 0 then [] else path_at (slice_get signals (i - 1))

abbrev pub variable_at : List Signal → ℕ → Option Signal → List ℕ
variable_at signals i None = []
variable_at signals i (Some s) = scoped (path_before signals i) i s

-- the variables of all signals, each in its scopes
abbrev pub variables : List Signal → List ℕ
variables signals =
    flat_map (λ i. variable_at signals i (slice_get signals i)) (range_with_len 0 (length signals)) ++ scopes false (path_before signals (length signals))

abbrev pub declarations : List ℕ → List Signal → List ℕ
declarations remarks signals =
    line (codes "$timescale 1ns $end") ++ (remarks ++ (opening_lines
    ++ (variables signals ++ (line (codes "$upscope $end") ++ line (codes "$enddefinitions $end")))))

-- ---- values

-- the values of the bits of a signal, the greatest bit first
abbrev pub signal_values : List Value → List ℕ → List Value
signal_values values places = map (value_at values) places

-- one bit is a character before the id, and more are a number of base 2 with a space behind it
abbrev pub values_text : List Value → List ℕ
values_text (v ∷ []) = value_code v ∷ []
values_text values = codes "b" ++ (map value_code values ++ codes " ")

abbrev pub value_line : ℕ → List Value → List ℕ
value_line i values = line (values_text values ++ id_of i)

-- whether one of the bits of a signal has another value than before, where there is a before
abbrev pub has_changed : Option (List Value) → List Value → List ℕ → Bool
has_changed None now places = true
has_changed (Some before) now places = list_any (λ p. not (same_value (value_at before p) (value_at now p))) places

-- the value of the signal with this number, where it has changed
abbrev pub change_text : Option (List Value) → List Value → ℕ → Signal → List ℕ
change_text before now i s = if has_changed before now s.places then value_line i (signal_values now s.places) else []

abbrev pub change_at : Option (List Value) → List Value → ℕ → Option Signal → List ℕ
change_at before now i None = []
change_at before now i (Some s) = change_text before now i s

abbrev pub changes : List Signal → Option (List Value) → List Value → List ℕ
changes signals before now = flat_map (λ i. change_at before now i (slice_get signals i)) (range_with_len 0 (length signals))

-- ---- moments

-- the moment before this one, which the first has none of
abbrev pub moment_before : List (List Value) → ℕ → Option (List Value)
moment_before moments t = if t == 0 then None else slice_get moments (t - 1)

abbrev pub moment_text : List Signal → ℕ → Option (List Value) → Option (List Value) → List ℕ
moment_text signals time before None = []
moment_text signals time before (Some now) = line (time_line time) ++ changes signals before now

-- the moment at a place, where the first stands at this time
abbrev pub moment_at : List Signal → ℕ → List (List Value) → ℕ → List ℕ
moment_at signals from moments t = moment_text signals (from + t) (moment_before moments t) (slice_get moments t)

-- the same, and the run and the cycle at which its state was recorded, where these are others than before
abbrev pub moment_lines : List Signal → ℕ → List (Option (ℕ × ℕ)) → List (List Value) → ℕ → List ℕ
moment_lines signals from recorded moments t = moment_at signals from moments t ++ recorded_lines recorded t

-- the head, and at each moment the signals whose values are others than at the moment before
abbrev pub view_lines : ViewRequest → List Signal → List (List Value) → List ℕ
view_lines asked signals moments =
    declarations asked.remarks signals ++ flat_map (moment_lines signals asked.from asked.recorded moments) (range_with_len 0 (length moments))

-- the text of a wave, whose variables are the signals that are drawn: each once, and the bits of a vector as one
pub record Views (raw : Parts) (asked : ViewRequest) (wave : Wave) (text : List ℕ) : Type 0 where
  pub signals : List Signal
  pub are : AreDrawn raw asked signals
  pub says : text ≡ view_lines asked signals wave.moments

-- the text of the wave of a trace, with what is asked
pub record IsDrawing (raw : Parts) (asked : ViewRequest) (states inputs : List (List Bool)) (text : List ℕ) : Type 0 where
  pub wave : Wave
  pub of : IsWaveOf raw states inputs wave
  pub views : Views raw asked wave text
