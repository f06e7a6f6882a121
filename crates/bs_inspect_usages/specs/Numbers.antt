-- The numbers that options of `backspace_inspect` take (docs/FORMATS.md, "Words of `backspace_inspect`").
use Rattle.std.specs.Prelude.{ℕ, ◌==◌, List, [], ◌∷◌, codes, Option, Some, None, if◌then◌else◌}
use Rattle.std.specs.Option.{option_and_then, option_map}
use Rattle.std.specs.Str.{bytes_eq}
use Rattle.bs_stim.specs.declared.limits.TheConstants.{MAX_CYCLES}
use Rattle.bs_top_words.specs.declared.flags.Flag.TheVariants as F
use Rattle.bs_top_words.specs.declared.limits.TheConstants.{MAX_BITS, MAX_BOUND}
use Rattle.bs_top_words.specs.Given.{Setting}
use Rattle.bs_top_words.specs.Options.{number_between}
use Rattle.bs_inspect_usages.specs.declared.numbers.TheConstants.{DEFAULT_DEPTH, DEFAULT_DRAWN, MAX_DEPTH, MAX_DRAWN, MAX_LINES, MAX_STEP}
use Rattle.bs_inspect_usages.specs.declared.window.TraceWindow.{TraceWindow}
use Rattle.bs_inspect_usages.specs.Settings.{value_of}

-- ---- which states of a trace are told

-- the cycle at which a waveform begins, or the first state that is told: 0 where none is given
abbrev pub from_of : Option (List ℕ) → Option ℕ
from_of None = Some 0
from_of (Some word) = number_between 0 MAX_CYCLES word

abbrev pub some_cycle : Option ℕ → Option (Option ℕ)
some_cycle None = None
some_cycle (Some cycle) = Some (Some cycle)

-- the cycle that a word is, and none where there is no word
abbrev pub cycle_at : Option (List ℕ) → Option (Option ℕ)
cycle_at None = Some None
cycle_at (Some word) = some_cycle (number_between 0 MAX_CYCLES word)

-- how many of the last states a word says, and none where there is no word
abbrev pub last_of : Option (List ℕ) → Option (Option ℕ)
last_of None = Some None
last_of (Some word) = some_cycle (number_between 1 MAX_CYCLES word)

-- which states of a trace are told, where each number is one
abbrev pub window_for : Option ℕ → (to last : Option (Option ℕ)) → Option TraceWindow
window_for (Some from) (Some to) (Some last) = Some record { from = from; to = to; last = last }
window_for from to last = None

abbrev pub window_of : List Setting → Option TraceWindow
window_of settings = window_for (from_of (value_of F.From settings)) (cycle_at (value_of F.To settings)) (last_of (value_of F.Last settings))

-- ---- other numbers

-- how many signals of a kind a page draws at most, by how many are named
abbrev pub drawn_most : Option (List ℕ) → ℕ → Option ℕ
drawn_most None named = Some (if named == 0 then DEFAULT_DRAWN else MAX_DRAWN)
drawn_most (Some word) named = number_between 1 MAX_DRAWN word

-- the number of items that a word is
abbrev pub items_in : Option (List ℕ) → Option ℕ
items_in word = option_and_then (number_between 1 MAX_BITS) word

-- the number of a step that a word is
abbrev pub step_of : List ℕ → Option (Option ℕ)
step_of word = option_map (λ (n : ℕ). Some n) (number_between 1 MAX_STEP word)

-- the number of a step, if there is a word
abbrev pub step_in : Option (List ℕ) → Option (Option ℕ)
step_in None = Some None
step_in (Some word) = step_of word

-- the number of lines that a word is: all where there is none
abbrev pub most_lines : Option (List ℕ) → Option ℕ
most_lines None = Some MAX_LINES
most_lines (Some word) = number_between 1 MAX_LINES word

-- the number of layers that a word is
abbrev pub layers : Option (List ℕ) → Option ℕ
layers None = Some DEFAULT_DEPTH
layers (Some word) = number_between 1 MAX_DEPTH word

-- ---- the length of an answer, which stands last

-- the length that a word is: a number of cycles
abbrev pub cycles_of : List ℕ → Option (Option ℕ)
cycles_of word = option_map (λ (n : ℕ). Some n) (number_between 1 MAX_BOUND word)

abbrev pub cycles_behind : (option number : List ℕ) → Option (Option ℕ)
cycles_behind option number = if bytes_eq option (codes "--length") then cycles_of number else None

-- the length behind the words by position, if there is one
abbrev pub length_of : List (List ℕ) → Option (Option ℕ)
length_of [] = Some None
length_of (option ∷ number ∷ []) = cycles_behind option number
length_of _ = None
