-- What a cell shows.
use Rattle.std.specs.Prelude.{◌≡◌, ℕ, ◌<◌, ◌≤◌, List, length}
use Rattle.bs_inspect_html.specs.Cells.{Figure, bits_at, end_of, is_open}

-- at each moment from that at which a cell begins up to its end the signal has the bits that the cell has, and is open as the cell is
pub record AreExact (f : Figure) (places : List ℕ) : Type 0 where
  pub bits : (i j : ℕ) → i < length f.moments → i ≤ j → j < end_of f places i → bits_at f places j ≡ bits_at f places i
  pub marks : (i j : ℕ) → i < length f.moments → i ≤ j → j < end_of f places i → is_open f places j ≡ is_open f places i

abbrev pub CellsAreExact : Type 0
CellsAreExact = (f : Figure) (places : List ℕ) → AreExact f places
