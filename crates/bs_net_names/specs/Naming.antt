-- Which bits a name stands for (docs/FORMATS.md, "Keys").
use Rattle.std.specs.Prelude.{ℕ, ◌==◌, ◌&&◌, ◌||◌, Bool, true, false, List, [], ◌∷◌, Option, Some, None, if◌then◌else◌}
use Rattle.std.specs.Str.{bytes_eq}
use Rattle.bs_net_names.specs.Splits.{Halves, last_split}
use Rattle.bs_net_names.specs.Keys.{KeyParts, back_bit, key_parts}
use Rattle.bs_net_names.specs.Ranges.{is_among, range_behind}
use Rattle.bs_net_names.specs.declared.range.Range.{Range}

-- a name without the `\` that it may begin with
abbrev pub plain : List ℕ → List ℕ
plain [] = []
plain (b ∷ bs) = if b == 92 then bs else b ∷ bs

-- a name without the space that may end it, as yosys writes one behind an escaped name
abbrev pub unspaced : List ℕ → List ℕ
unspaced [] = []
unspaced (b ∷ []) = if b == 32 then [] else b ∷ []
unspaced (b ∷ c ∷ cs) = b ∷ unspaced (c ∷ cs)

abbrev pub same_bit : Option ℕ → Option ℕ → Bool
same_bit None bit = true
same_bit (Some n) None = false
same_bit (Some n) (Some m) = n == m

-- whether a name is that of a vector or of a net; a `\` in front of either and the space that may end the name are passed over
abbrev pub same_base : List ℕ → List ℕ → Bool
same_base name base = bytes_eq (plain (unspaced name)) (plain base)

-- `tx.level[0]`, or `[0]\tx.level`: that bit; `tx.level`: each bit
abbrev pub names_bit : KeyParts → List ℕ → Bool
names_bit parts name = let of_name = key_parts name in same_base of_name.base parts.base && same_bit of_name.bit parts.bit

abbrev pub is_sliced : KeyParts → List ℕ → Option Range → Bool
is_sliced parts base None = false
is_sliced parts base (Some r) = same_base base parts.base && is_among r parts.bit

abbrev pub sliced_by : KeyParts → Option Halves → Bool
sliced_by parts None = false
sliced_by parts (Some h) = is_sliced parts h.before (range_behind h.behind)

-- `tx.level[3:1]`: those bits, whichever number is the greater
abbrev pub names_range : KeyParts → List ℕ → Bool
names_range parts name = sliced_by parts (last_split 91 name)

abbrev pub is_word : List ℕ → Option KeyParts → Bool
is_word name None = false
is_word name (Some word) = same_base name word.base

-- `box`: each bit of the words `box[0]`, `box[1]` .. of a memory
abbrev pub names_memory : KeyParts → List ℕ → Bool
names_memory parts name = is_word name (back_bit parts.base)

-- whether a name is that of a bit, of its vector, which may be a memory's word as `box[3]` is, of a range with it, or of the memory
abbrev pub is_named : KeyParts → List ℕ → Bool
is_named parts name =
    names_bit parts (unspaced name) || (same_base name parts.base || (names_range parts (unspaced name) || names_memory parts name))
