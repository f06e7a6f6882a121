-- In how many of the known bits a state differs from what is seen of another.
use Rattle.std.specs.Prelude.{ℕ, ◌&&◌, not, Bool, false, List, length, count_by, filter, slice_index_or}
use Rattle.std.specs.Bool.{beq}
use Rattle.std.specs.List.{range_with_len}
use Rattle.bs_net.specs.Circuit.{bit_at}
use Rattle.bs_scan.specs.declared.seen.Seen.{Seen}

-- the bit at a place is not known
abbrev pub is_free : Seen → ℕ → Bool
is_free seen place = slice_index_or seen.free place false

-- the bit at a place is known, and the state has another one
abbrev pub differs : List Bool → Seen → ℕ → Bool
differs state seen place = not (is_free seen place) && not (beq (bit_at state place) (bit_at seen.bits place))

-- the places at which they differ, in order
abbrev pub differing : List Bool → Seen → List ℕ
differing state seen = filter (differs state seen) (range_with_len 0 (length seen.bits))

-- how many these are
abbrev pub distance : List Bool → Seen → ℕ
distance state seen = count_by (differs state seen) (range_with_len 0 (length seen.bits))
