-- What a mark beside a name means.
use Rattle.std.specs.Prelude.{◌≡◌, ℕ, List}
use Rattle.std.specs.List.{list_any}
use Rattle.bs_scan.specs.Choice.{Chosen, IsChoice}
use Rattle.bs_inspect_html.specs.Cells.{is_signed}
use Rattle.bs_inspect_html.specs.Reads.{is_read, reads_of}

-- a signal with these places is marked just where some item has one of them
pub record AreReads (choice : Chosen) (places : List ℕ) : Type 0 where
  pub is : is_signed (reads_of choice) places ≡ list_any (is_read choice.items) places

abbrev pub MarksAreReads : Type 0
MarksAreReads = (choice : Chosen) (places : List ℕ) → IsChoice choice → AreReads choice places
