-- A line as it is shown, and the caret under a place of it.
use Rattle.std.specs.Prelude.{ℕ, ◌+◌, ◌-◌, ◌/◌, ◌%◌, List, [], ◌∷◌, ◌++◌, length, replicate, take, min, nat_le, nat_lt, Bool, ◌&&◌, if◌then◌else◌, flat_map}
use Rattle.bs_net_names.specs.declared.quoted_line.TheConstants.{SHOWN}

-- a digit of a number to the base 16
abbrev pub digit : ℕ → ℕ
digit n = if nat_lt n 10 then 48 + n else 97 + (n - 10)

-- a byte ` ` to `~` is shown as it is
abbrev pub is_printable : ℕ → Bool
is_printable b = nat_le 32 b && nat_le b 126

-- and any other as `\xHH`
abbrev pub shown_byte : ℕ → List ℕ
shown_byte b = if is_printable b then b ∷ [] else 92 ∷ 120 ∷ digit (b / 16) ∷ digit (b % 16) ∷ []

-- a line as it is shown
abbrev pub shown_line : List ℕ → List ℕ
shown_line line = flat_map shown_byte (take SHOWN line)

-- how many columns a byte takes where it is shown
abbrev pub shown_width : ℕ → ℕ
shown_width b = length (shown_byte b)

-- a space for each character that is shown before the column, and a caret
abbrev pub caret : List ℕ → ℕ → List ℕ
caret line column = flat_map (λ b. replicate (shown_width b) 32) (take (min (column - 1) SHOWN) line) ++ 94 ∷ []
