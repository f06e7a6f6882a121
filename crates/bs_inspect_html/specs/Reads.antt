-- The flip-flops that the items of a signature read.
use Rattle.std.specs.Prelude.{ℕ, ◌==◌, Bool, List, [], map, Option, Some, None}
use Rattle.std.specs.List.{list_any, range_with_len}
use Rattle.bs_scan.specs.Choice.{Chosen}
use Rattle.bs_inspect_html.specs.Signed.{SignatureFile}

-- whether an item has a flip-flop: it is the bit itself, or one of a parity's
abbrev pub has_flop : List ℕ → ℕ → Bool
has_flop item place = list_any (λ flop. flop == place) item

-- whether some item has it
abbrev pub is_read : List (List ℕ) → ℕ → Bool
is_read items place = list_any (λ item. has_flop item place) items

-- for each flip-flop, whether some item has it
abbrev pub reads_of : Chosen → List Bool
reads_of choice = map (is_read choice.items) (range_with_len 0 choice.width)

-- the same of a signature that may be given: where there is none, none is read
abbrev pub signed_of : Option SignatureFile → List Bool
signed_of None = []
signed_of (Some s) = reads_of s.choice
