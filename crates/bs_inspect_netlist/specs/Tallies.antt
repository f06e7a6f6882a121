-- A table of how often each net is named.
use Rattle.std.specs.Prelude.{ℕ, ◌+◌, List, [], ◌∷◌, slice_index_or, slice_set}
use Rattle.bs_net.specs.declared.net.NetId.{NetId}

-- the table after each of these nets was counted where it stands
abbrev pub counted : List ℕ → List NetId → List ℕ
counted table [] = table
counted table (n ∷ ns) = counted (slice_set table n.0 (slice_index_or table n.0 0 + 1)) ns
