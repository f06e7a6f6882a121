-- Tables of how often each net is named.
use Rattle.std.specs.Prelude.{ℕ, zero, suc, Bool, true, false, List, [], ◌∷◌, not, ◌&&◌, replicate, slice_set, slice_index_or}
use Rattle.bs_net.specs.declared.net.NetId.{NetId}
use Rattle.bs_net.specs.declared.tallies.UseCount.{UseCount}
use Rattle.bs_net.specs.declared.tallies.UseCount.TheVariants.{Never, Once, Often}

-- the tally of a count
abbrev pub tally_of : ℕ → UseCount
tally_of zero = Never
tally_of (suc zero) = Once
tally_of (suc (suc n)) = Often

-- the tally after one more
abbrev pub raised : UseCount → UseCount
raised Never = Once
raised Once = Often
raised Often = Often

-- whether it is twice or more
abbrev pub is_often : UseCount → Bool
is_often Never = false
is_often Once = false
is_often Often = true

-- whether it is not at all
abbrev pub is_never : UseCount → Bool
is_never Never = true
is_never Once = false
is_never Often = false

-- the tally of a net in a table
abbrev pub tally_at : List UseCount → ℕ → UseCount
tally_at table n = slice_index_or table n Never

-- the table after a list of nets is named
abbrev pub tallied : List UseCount → List NetId → List UseCount
tallied table [] = table
tallied table (n ∷ ns) = tallied (slice_set table n.0 (raised (tally_at table n.0))) ns

-- the table of the nets below a count after a list of nets is named
abbrev pub tallies_of : ℕ → List NetId → List UseCount
tallies_of count ns = tallied (replicate count Never) ns

-- whether a net is named twice or more
abbrev pub often_at : List UseCount → ℕ → Bool
often_at drivers n = is_often (tally_at drivers n)

-- whether a net is named among the readers and not among the drivers
abbrev pub undriven_at : List UseCount → List UseCount → ℕ → Bool
undriven_at readers drivers n = not (is_never (tally_at readers n)) && is_never (tally_at drivers n)
