-- A line by its number.
use Rattle.std.specs.Prelude.{◌≡◌, ℕ, List}
use Rattle.bs_net_names.specs.declared.spot.Spot.{Spot}
use Rattle.bs_net_names.specs.Spots.{IsLineStart, IsSpot}
use Rattle.bs_note_files.specs.Notes.{line_at}

-- the line with a number, from 1, begins at this place and has these bytes, without its line feed
pub record IsNumbered (text : List ℕ) (number start : ℕ) (line : List ℕ) : Type 0 where
  pub begins : IsLineStart text number start
  pub spot : Spot
  pub place : IsSpot text start spot
  pub bytes : line ≡ line_at text spot
