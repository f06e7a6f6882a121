-- The line of a signal at a cycle: its name and its value.
use Rattle.std.specs.Prelude.{ℕ, ◌==◌, Bool, true, false, not, List, [], ◌++◌, length, map, codes, decimal, slice_index_or, Option, Some, None, if◌then◌else◌}
use Rattle.std.specs.Bool.{beq}
use Rattle.std.specs.List.{flat_map, list_any}
use Rattle.bs_bits.specs.Lines.{line}
use Rattle.bs_inspect_view.specs.Signals.{Signal, name_text}
use Rattle.bs_inspect_view.specs.Values.{value_text}
use Rattle.bs_scan.specs.SeenText.{seen_text}

-- the bit at a place of a state or an input
abbrev pub bit_at : List Bool → ℕ → Bool
bit_at bits place = slice_index_or bits place false

-- the bits of a signal, the greatest first
abbrev pub signal_bits : List Bool → List ℕ → List Bool
signal_bits bits places = map (bit_at bits) places

-- whether a signal has another value than before, where there is a before
abbrev pub has_changed : Option (List Bool) → List Bool → List ℕ → Bool
has_changed None now places = true
has_changed (Some before) now places = list_any (λ p. not (beq (bit_at before p) (bit_at now p))) places

-- whether one of the bits of a signal is not known, where these are not
abbrev pub is_open : List Bool → List ℕ → Bool
is_open free places = list_any (λ p. bit_at free p) places

-- bits of which some are not known: a character each, `-` for one that is not, behind `0b` where there are more than one
abbrev pub open_text : (free bits : List Bool) → List ℕ → List ℕ
open_text free bits places =
    if length places == 1
    then seen_text (record { bits = signal_bits bits places; free = signal_bits free places })
    else codes "0b" ++ seen_text (record { bits = signal_bits bits places; free = signal_bits free places })

-- the value of a signal, where some bits may not be known
abbrev pub seen_value : Option (List Bool) → List Bool → List ℕ → List ℕ
seen_value None bits places = value_text (signal_bits bits places)
seen_value (Some free) bits places = if is_open free places then open_text free bits places else value_text (signal_bits bits places)

-- cycle, kind, name and value
abbrev pub signal_line : List ℕ → ℕ → Option (List Bool) → List Bool → Signal → List ℕ
signal_line kind cycle free bits s = line (decimal cycle ++ (kind ++ (name_text s ++ (codes " = " ++ seen_value free bits s.places))))

-- the line of a signal, where its value is another one than before
abbrev pub signal_piece : List ℕ → ℕ → (free before : Option (List Bool)) → List Bool → Signal → List ℕ
signal_piece kind cycle free before now s = if has_changed before now s.places then signal_line kind cycle free now s else []

-- the lines of signals that changed
abbrev pub signals_lines : List ℕ → ℕ → (free before : Option (List Bool)) → List Bool → List Signal → List ℕ
signals_lines kind cycle free before now signals = flat_map (signal_piece kind cycle free before now) signals
