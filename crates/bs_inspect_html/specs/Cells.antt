-- What the page shows of a signal over moments: its cells, each a run of moments with one value (docs/FORMATS.md, "The page").
use Rattle.std.specs.Prelude.{ℕ, ◌+◌, ◌-◌, ◌%◌, ◌==◌, not, ◌||◌, ◌&&◌, Bool, true, false, List, [], length, map, filter, slice_index_or, Option, if◌then◌else◌}
use Rattle.std.specs.Bool.{beq}
use Rattle.std.specs.List.{find, list_all, list_any, range_with_len}
use Rattle.std.specs.Option.{unwrap_or}

-- the states or inputs that are drawn, the bits that are open in each (those at which other candidates of its list differ), and for each
-- place whether an item of the signature reads it
pub record Figure : Type 0 where
  pub moments : List (List Bool)
  pub opens : List (List Bool)
  pub signed : List Bool

-- the bit at a place of a moment
abbrev pub bit_of : List (List Bool) → ℕ → ℕ → Bool
bit_of moments i place = slice_index_or (slice_index_or moments i []) place false

-- the bits of a signal at a moment, the greatest first
abbrev pub bits_at : Figure → List ℕ → ℕ → List Bool
bits_at f places i = map (bit_of f.moments i) places

-- whether a bit of a signal is open at a moment
abbrev pub is_open : Figure → List ℕ → ℕ → Bool
is_open f places i = list_any (bit_of f.opens i) places

-- whether one of a signal's places is read
abbrev pub is_signed : List Bool → List ℕ → Bool
is_signed signed places = list_any (λ p. slice_index_or signed p false) places

-- whether a signal has the same bits at two moments
abbrev pub same_bits : Figure → List ℕ → ℕ → ℕ → Bool
same_bits f places i j = list_all (λ p. beq (bit_of f.moments i p) (bit_of f.moments j p)) places

-- whether the same is shown at two moments
abbrev pub same_shown : Figure → List ℕ → ℕ → ℕ → Bool
same_shown f places i j = same_bits f places i j && beq (is_open f places i) (is_open f places j)

-- whether a cell begins at a moment: where other is shown than a moment before. A cell of a table spans no more than 1000 columns.
abbrev pub begins : Figure → List ℕ → ℕ → Bool
begins f places i = if i == 0 then true else (if i % 1000 == 0 then true else not (same_shown f places (i - 1) i))

-- the moment of the next cell, if there is one
abbrev pub next_begin : Figure → List ℕ → ℕ → Option ℕ
next_begin f places i = find (begins f places) (range_with_len (i + 1) (length f.moments - (i + 1)))

-- the moment behind the cell that begins here: that of the next cell, or behind the last
abbrev pub end_of : Figure → List ℕ → ℕ → ℕ
end_of f places i = unwrap_or (next_begin f places i) (length f.moments)

-- the moments from one up to another, the bits of a signal at each of them, and whether one of them is open
pub record ValueCell : Type 0 where
  pub from : ℕ
  pub to : ℕ
  pub bits : List Bool
  pub marked : Bool

abbrev pub cell_from : Figure → List ℕ → ℕ → ValueCell
cell_from f places i = record { from = i; to = end_of f places i; bits = bits_at f places i; marked = is_open f places i }

-- the cells of a signal
abbrev pub cells_of : Figure → List ℕ → List ValueCell
cells_of f places = map (cell_from f places) (filter (begins f places) (range_with_len 0 (length f.moments)))

-- whether a signal is open at a moment, or has another value than at first
abbrev pub is_other : Figure → List ℕ → ℕ → Bool
is_other f places i = is_open f places i || not (same_bits f places 0 i)

-- the same at some moment
unfoldable pub is_lively : Figure → List ℕ → Bool
is_lively f places = list_any (is_other f places) (range_with_len 0 (length f.moments))
