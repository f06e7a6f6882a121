-- Places of a text: lines are ended by line feeds, and a column counts bytes.
use Rattle.std.specs.Prelude.{◌≡◌, ◌<◌, ◌≤◌, ◌+◌, ◌-◌, ◌==◌, ◌⊎◌, ℕ, List, length, slice_index, take, count_by, Bool, true, false}
use Rattle.bs_net_names.specs.declared.spot.Spot.{Spot}

abbrev pub is_feed : ℕ → Bool
is_feed b = b == 10

-- how many line feeds stand before a place
abbrev pub feeds_before : List ℕ → ℕ → ℕ
feeds_before text at = count_by is_feed (take at text)

-- The line is one more than the line feeds before the place, and the column one more than the bytes since the last of these. The line's
-- bytes reach from behind that line feed, or the text's front, to the next one, or the text's end.
pub record IsSpot (text : List ℕ) (at : ℕ) (s : Spot) : Type 0 where
  pub line : s.line ≡ feeds_before text at + 1
  pub column : s.column ≡ (at - s.start) + 1
  pub from : s.start ≤ at
  pub to : at ≤ s.end
  pub within : s.end ≤ length text
  pub begins : (s.start ≡ 0) ⊎ (0 < s.start × ((slice_index text (s.start - 1) == 10) ≡ true))
  pub ends : (s.end ≡ length text) ⊎ ((slice_index text s.end == 10) ≡ true)
  pub before : (k : ℕ) → s.start ≤ k → k < at → (slice_index text k == 10) ≡ false
  pub behind : (k : ℕ) → at ≤ k → k < s.end → (slice_index text k == 10) ≡ false

-- The first place with so many line feeds before it that the line with this number begins there, or the text's length where it has fewer.
pub record IsLineStart (text : List ℕ) (number start : ℕ) : Type 0 where
  pub within : start ≤ length text
  pub there : start < length text → feeds_before text start + 1 ≡ number
  pub least : (k : ℕ) → k < start → feeds_before text k + 1 < number
