-- The words of a VCD text, each with the number of its line (docs/FORMATS.md, "Value changes (VCD)").
use Rattle.std.specs.Prelude.{ℕ, ◌+◌, ◌==◌, nat_le, Bool, true, false, not, ◌&&◌, ◌||◌, List, [], ◌∷◌, if◌then◌else◌}
use Rattle.bs_vcd_header.specs.declared.token.VcdToken.{VcdToken as CodeVcdToken}

-- a word, and the line that it stands in
pub record VcdToken : Type 0 where
  pub line : ℕ
  pub text : List ℕ

-- white space: the byte 32, and the bytes 9 to 13
abbrev pub is_white : ℕ → Bool
is_white b = (b == 32) || (nat_le 9 b && nat_le b 13)

-- the line behind a byte
abbrev pub line_behind : ℕ → ℕ → ℕ
line_behind line b = if b == 10 then line + 1 else line

-- whether a word goes on here
abbrev pub goes_on : List ℕ → Bool
goes_on [] = false
goes_on (b ∷ bs) = not (is_white b)

-- a byte before the first word, where that goes on from it, or a word of its own
abbrev pub onto_word : ℕ → ℕ → Bool → List VcdToken → List VcdToken
onto_word line b true (t ∷ ts) = (record { line = line; text = b ∷ t.text }) ∷ ts
onto_word line b true [] = (record { line = line; text = b ∷ [] }) ∷ []
onto_word line b false ts = (record { line = line; text = b ∷ [] }) ∷ ts

-- the words of a text, which white space parts, where its first line has this number
abbrev pub tokens_from : ℕ → List ℕ → List VcdToken
tokens_from line [] = []
tokens_from line (b ∷ bs) = if is_white b then tokens_from (line_behind line b) bs else onto_word line b (goes_on bs) (tokens_from line bs)

abbrev pub token_in : CodeVcdToken → VcdToken
token_in t = record { line = t.line; text = t.text.now }
