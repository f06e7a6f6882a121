-- The constants of a module as a list, and the nets that runs join.
use Rattle.std.specs.Prelude.{ℕ, ◌+◌, ◌-◌, Bool, true, false, ◌&&◌, if◌then◌else◌, nat_le, nat_lt, List, [], ◌∷◌, length, filter, Option, Some, None, is_none}
use Rattle.std.specs.Prelude.{slice_index_or, slice_set, unwrap_or}
use Rattle.std.specs.List.{flat_map, range_with_len}
use Rattle.std.specs.Bool.{beq}
use Rattle.bs_net.specs.declared.net.Const.{Const}
use Rattle.bs_net.specs.Parts.{Parts}
use Rattle.bs_flat_meaning.specs.Design.{Join}
use Rattle.bs_flat_meaning.specs.Meaning.{joined_with}
use Rattle.bs_flat_meaning.specs.Flat.{constant_bit}
use Rattle.bs_flat_nets.specs.declared.blocks.JoinedNets.{JoinedNets}
use Rattle.bs_flat_nets.specs.declared.constants.Bit.{Bit}

-- a net with its bit, where that is known
abbrev pub entry : ℕ → Option Bool → List Bit
entry n None = []
entry n (Some v) = record { net = n; value = v } ∷ []

-- a net with its bit in a table of bits
abbrev pub entry_at : List (Option Bool) → ℕ → List Bit
entry_at table n = entry n (slice_index_or table n None)

-- a net with its bit, where it is a constant
abbrev pub bit_at : Parts → ℕ → List Bit
bit_at parts n = entry n (constant_bit parts n)

-- the constants of a module in the order of its nets
abbrev pub known_constants : Parts → List Bit
known_constants parts = flat_map (bit_at parts) (range_with_len 0 (length parts.names))

-- a constant with this bit that is joined with none of the parent
abbrev pub is_free : Bool → List Join → Bit → Bool
is_free b joins k = is_none (joined_with joins k.net) && beq b k.value

-- how many constants with this bit are joined with none of the parent
abbrev pub free_count : Bool → List Join → List Bit → ℕ
free_count b joins bits = length (filter (is_free b joins) bits)

-- how many of so many nets are neither joined nor constants
abbrev pub plain_left : ℕ → List Join → List Bit → ℕ
plain_left nets joins bits = (nets - length joins) - (free_count false joins bits + free_count true joins bits)

-- a table of bits after one constant more: a bit that is known stays
abbrev pub noted : Bool → Const → List (Option Bool) → List (Option Bool)
noted named k table =
    if named then slice_set table k.net.0 (Some (unwrap_or (slice_index_or table k.net.0 None) k.value)) else table

-- whether a run joins a net
abbrev pub covers : JoinedNets → ℕ → Bool
covers r n = nat_le r.inner n && nat_lt (n - r.inner) r.width
