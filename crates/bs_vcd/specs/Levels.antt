-- The bit of a variable by its changes (docs/FORMATS.md, "Value changes (VCD)").
use Rattle.std.specs.Prelude.{ℕ, ◌-◌, nat_lt, ◌==◌, Bool, true, false, not, List, [], ◌∷◌, length, reverse, find, is_some, slice_index_or, Option, Some, None, if◌then◌else◌, nat_eq, ◌&&◌}
use Rattle.std.specs.Option.{option_map}
use Rattle.std.specs.Borrow.{Bor}
use Rattle.std.specs.HashMap.{get, HashMap}
use Rattle.bs_vcd_header.specs.declared.sources.BitSource.{BitSource}
use Rattle.bs_vcd.specs.History.{ValueChange}

-- what the variables with each code are known to be
abbrev pub Known : Type 0
Known = ℕ → Option (List ℕ)

abbrev pub is_of : ℕ → ValueChange → Bool
is_of id c = c.id == id

abbrev pub bits_of : Option ValueChange → Option (List ℕ)
bits_of None = None
bits_of (Some c) = Some c.bits

-- the bits of the last of these changes that has this code
abbrev pub latest : ℕ → List ValueChange → Option (List ℕ)
latest id changes = bits_of (find (is_of id) (reverse changes))

-- what is known by changes
abbrev pub known_by : List ValueChange → Known
known_by changes = λ id. latest id changes

-- the bit of a character, where it is known
abbrev pub level_in : ℕ → Option Bool
level_in b = if b == 48 then Some false else (if b == 49 then Some true else None)

-- what stands before a value's first character: a 0 before a 1, and else that character again
abbrev pub extension : List ℕ → ℕ
extension [] = 120
extension (b ∷ bits) = if b == 49 then 48 else b

-- the bit at a place of a value, counted from its last character
abbrev pub bit_at : ℕ → List ℕ → Option Bool
bit_at place bits =
    level_in (if nat_lt place (length bits) then slice_index_or bits (length bits - 1 - place) 120 else extension bits)

abbrev pub level_of : ℕ → Option (List ℕ) → Option Bool
level_of place None = None
level_of place (Some bits) = bit_at place bits

-- the bit of a source, where it is known
abbrev pub level : Known → BitSource → Option Bool
level known s = level_of s.place (known s.id)

-- a source has had a value, be it known or not
abbrev pub is_given : Known → BitSource → Bool
is_given known s = is_some (known s.id)

-- whether a bit is known to be this one
abbrev pub is_bit : Bool → Option Bool → Bool
is_bit b None = false
is_bit true (Some b) = b
is_bit false (Some b) = not b

abbrev pub is_unknown : Known → BitSource → Bool
is_unknown known s = not (is_bit false (level known s)) && not (is_bit true (level known s))

-- what the code's table knows
abbrev pub known_in : {S : Type 0} → HashMap ℕ (Bor (List ℕ)) S → Known
known_in table = λ id. option_map (λ bits. bits.now) (get nat_eq table id)
