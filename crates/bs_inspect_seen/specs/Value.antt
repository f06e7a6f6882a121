-- The bits of a value, the lowest first (docs/FORMATS.md, "Values of flip-flops").
use Rattle.std.specs.Prelude.{ℕ, zero, suc, ◌-◌, ◌/◌, ◌%◌, ◌==◌, ◌&&◌, ◌||◌, nat_le, nat_lt, Bool, List, [], ◌∷◌, ◌++◌, codes, length, take, drop, Option, Some, None, if◌then◌else◌}
use Rattle.std.specs.List.{list_all}
use Rattle.std.specs.Str.{bytes_eq}
use Rattle.bs_bits.specs.Lines.{number_in}
use Rattle.bs_inspect_seen.specs.declared.value.Base.{Base}
use Rattle.bs_inspect_seen.specs.declared.value.Base.TheVariants.{Hex, Binary}

-- the rest of a text that begins with a word
abbrev pub behind : List ℕ → List ℕ → Option (List ℕ)
behind word text = if bytes_eq (take (length word) text) word then Some (drop (length word) text) else None

-- a character 0 to 9, A to F or a to f
abbrev pub is_hex : ℕ → Bool
is_hex c = (nat_le 48 c && nat_le c 57) || ((nat_le 65 c && nat_le c 70) || (nat_le 97 c && nat_le c 102))

abbrev pub is_digit : Base → ℕ → Bool
is_digit Hex c = is_hex c
is_digit Binary c = (c == 48) || (c == 49)

-- one or more digits
abbrev pub is_number : Base → List ℕ → Bool
is_number base text = nat_lt 0 (length text) && list_all (is_digit base) text

-- the number of a hexadecimal digit
abbrev pub hex_number : ℕ → ℕ
hex_number c = if nat_le c 57 then c - 48 else (if nat_le c 70 then c - 55 else c - 87)

-- so many binary digits of a number, the lowest first
abbrev pub binary : ℕ → ℕ → List Bool
binary zero n = []
binary (suc count) n = (n % 2 == 1) ∷ binary count (n / 2)

-- the bits of a digit
abbrev pub digit_bits : Base → ℕ → List Bool
digit_bits Hex c = binary 4 (hex_number c)
digit_bits Binary c = (c == 49) ∷ []

-- the bits of digits, of which the last is the lowest
abbrev pub digits_bits : Base → List ℕ → List Bool
digits_bits base [] = []
digits_bits base (c ∷ cs) = digits_bits base cs ++ digit_bits base c

abbrev pub based : Base → List ℕ → Option (List Bool)
based base digits = if is_number base digits then Some (digits_bits base digits) else None

abbrev pub decimal_bits : Option ℕ → Option (List Bool)
decimal_bits None = None
decimal_bits (Some n) = Some (binary 64 n)

abbrev pub in_binary : List ℕ → Option (List ℕ) → Option (List Bool)
in_binary text (Some digits) = based Binary digits
in_binary text None = decimal_bits (number_in text)

abbrev pub in_hex : List ℕ → Option (List ℕ) → Option (List Bool)
in_hex text (Some digits) = based Hex digits
in_hex text None = in_binary text (behind (codes "0b") text)

-- hexadecimal digits behind `0x`, binary ones behind `0b`, or a decimal number below 2 ^ 64
abbrev pub value_in : List ℕ → Option (List Bool)
value_in text = in_hex text (behind (codes "0x") text)
