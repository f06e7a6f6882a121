-- The bits of a range (docs/FORMATS.md, "Keys").
use Rattle.std.specs.Prelude.{ℕ, ◌-◌, ◌==◌, ◌&&◌, ◌||◌, nat_le, Bool, false, List, [], ◌∷◌, ◌++◌, decimal, length, Option, Some, None, if◌then◌else◌}
use Rattle.bs_bits.specs.Lines.{number_in}
use Rattle.bs_net_names.specs.Splits.{Halves, first_split}
use Rattle.bs_net_names.specs.declared.range.Range.{Range}

abbrev pub range : ℕ → ℕ → Range
range left right = record { left = left; right = right }

abbrev pub both_ends : Option ℕ → Option ℕ → Option Range
both_ends None right = None
both_ends (Some l) None = None
both_ends (Some l) (Some r) = Some (range l r)

abbrev pub one_end : Option ℕ → Option Range
one_end None = None
one_end (Some n) = Some (range n n)

-- `7:0`, or `3`
abbrev pub ends_of : List ℕ → Option Halves → Option Range
ends_of text None = one_end (number_in text)
ends_of text (Some h) = both_ends (number_in h.before) (number_in h.behind)

abbrev pub range_before : Option Halves → Option Range
range_before None = None
range_before (Some h) = if length h.behind == 0 then ends_of h.before (first_split 58 h.before) else None

-- `7:0]`, or `3]`
abbrev pub range_behind : List ℕ → Option Range
range_behind text = range_before (first_split 93 text)

abbrev pub falling : Range → ℕ → Option ℕ
falling r n = if nat_le r.right n && nat_le n r.left then Some (n - r.right) else None

abbrev pub rising : Range → ℕ → Option ℕ
rising r n = if nat_le r.left n && nat_le n r.right then Some (r.right - n) else None

-- the place of a bit, counted from the last one of a range; a name without a number is the one bit of its variable
abbrev pub place_in : Range → Option ℕ → Option ℕ
place_in r None = if r.left == r.right then Some 0 else None
place_in r (Some n) = if nat_le r.right r.left then falling r n else rising r n

-- whether a number is one of a range's, whichever end is the greater
abbrev pub is_among : Range → Option ℕ → Bool
is_among r None = false
is_among r (Some n) = (nat_le r.right n && nat_le n r.left) || (nat_le r.left n && nat_le n r.right)

-- so many bits of a vector as they stand behind its name, from the greatest down: `[7:4]`, or `[3]` of one; a net by itself has none
abbrev pub range_text : Option ℕ → ℕ → List ℕ
range_text None count = []
range_text (Some high) count =
    if count == 1 then 91 ∷ (decimal high ++ 93 ∷ []) else 91 ∷ (decimal high ++ (58 ∷ (decimal (high - (count - 1)) ++ 93 ∷ [])))
