-- The value of a bit or of a vector as a text.
use Rattle.std.specs.Prelude.{ℕ, ◌+◌, ◌-◌, ◌*◌, ◌/◌, ◌%◌, nat_lt, Bool, true, false, List, [], ◌∷◌, ◌++◌, length, map, codes, slice_index_or}
use Rattle.std.specs.Prelude.{if◌then◌else◌}
use Rattle.std.specs.List.{range_with_len}
use Rattle.bs_bits.specs.Text.{digit_of}

-- the weight of a bit: 1 or 0
abbrev pub weight : Bool → ℕ
weight false = 0
weight true = 1

-- the bit at a place of a text that so many zeros stand before
abbrev pub padded : ℕ → List Bool → ℕ → Bool
padded zeros bits i = if nat_lt i zeros then false else slice_index_or bits (i - zeros) false

-- the number of four bits from a place on, the greatest first
abbrev pub four_bits : ℕ → List Bool → ℕ → ℕ
four_bits zeros bits i =
    8 * weight (padded zeros bits i)
    + (4 * weight (padded zeros bits (i + 1)) + (2 * weight (padded zeros bits (i + 2)) + weight (padded zeros bits (i + 3))))

-- a digit of base 16
abbrev pub hex_digit : ℕ → ℕ
hex_digit n = if nat_lt n 10 then 48 + n else 87 + n

-- how many zeros make a number of bits one of whole digits
abbrev pub zeros_for : ℕ → ℕ
zeros_for count = (4 - count % 4) % 4

-- the number that bits are, the greatest first, in base 16 with four bits a digit
abbrev pub hex_text : List Bool → List ℕ
hex_text bits =
    let zeros = zeros_for (length bits) in
    map (λ k. hex_digit (four_bits zeros bits (4 * k))) (range_with_len 0 ((zeros + length bits) / 4))

-- one bit is `0` or `1`, and more are a number such as `0xb`
abbrev pub value_text : List Bool → List ℕ
value_text (b ∷ []) = digit_of b ∷ []
value_text bits = codes "0x" ++ hex_text bits
