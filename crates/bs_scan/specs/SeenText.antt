-- The text of bits of which some are not known (docs/FORMATS.md, "Bits").
use Rattle.std.specs.Prelude.{◌≡◌, ℕ, ◌==◌, Bool, List, [], ◌∷◌, map, length, Option, Some, option_map, if◌then◌else◌}
use Rattle.std.specs.List.{list_any}
use Rattle.bs_bits.specs.Text.{bits_of, bits_text, digit_of}
use Rattle.bs_scan.specs.declared.seen.Seen.{Seen}
use Rattle.bs_scan.specs.Seen.{IsSeen}

-- whether a character is `-`, which says that a bit is not known
abbrev pub is_dash : ℕ → Bool
is_dash c = c == 45

-- a character, or `-` at a free place
abbrev pub dash_or : Bool → ℕ → ℕ
dash_or free c = if free then 45 else c

-- characters with `-` at the free places
abbrev pub marked : List Bool → List ℕ → List ℕ
marked [] text = text
marked (free ∷ frees) [] = []
marked (free ∷ frees) (c ∷ cs) = dash_or free c ∷ marked frees cs

-- as the text of bits, with `-` at the free places
abbrev pub seen_text : Seen → List ℕ
seen_text seen = if length seen.free == 0 then bits_text seen.bits else marked seen.free (map digit_of seen.bits)

-- a character with `0` in place of `-`
abbrev pub filled_in : ℕ → ℕ
filled_in c = if is_dash c then 48 else c

abbrev pub filled : List ℕ → List ℕ
filled text = map filled_in text

-- the places of the `-`, if there are any
abbrev pub free_in : List ℕ → List Bool
free_in text = if list_any is_dash text then map is_dash text else []

-- what a text stands for: its bits, where each `-` counts as 0 and is free
abbrev pub seen_of : List ℕ → Option Seen
seen_of text = option_map (λ bits. record { bits = bits; free = free_in text }) (bits_of (filled text))

-- What has a text is read back from it,
abbrev pub SeenTextsReadBack : Type 0
SeenTextsReadBack = (seen : Seen) → IsSeen seen → seen_of (seen_text seen) ≡ Some seen

-- and what is read of a text has that text and no other.
abbrev pub SeenTextsAreExact : Type 0
SeenTextsAreExact = (text : List ℕ) (seen : Seen) → seen_of text ≡ Some seen → IsSeen seen × (seen_text seen ≡ text)
