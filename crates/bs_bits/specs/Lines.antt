-- The lines of a text, the words of a line, and the numbers among them (docs/FORMATS.md, "Lines, words and numbers").
use Rattle.std.specs.Prelude.{ℕ, ◌+◌, ◌-◌, ◌*◌, ◌^◌, ◌==◌, nat_lt, nat_le, Bool, false, not, Option, Some, None, ◌&&◌, ◌||◌, List, [], ◌∷◌, ◌++◌}
use Rattle.std.specs.Prelude.{length, fold, if◌then◌else◌}
use Rattle.std.specs.List.{list_all}

-- a byte before the first line
abbrev pub onto_first : ℕ → List (List ℕ) → List (List ℕ)
onto_first b [] = (b ∷ []) ∷ []
onto_first b (line ∷ lines) = (b ∷ line) ∷ lines

-- the lines of a text, each ended by a line feed, which the last one may want: no bytes have no line
abbrev pub lines_of : List ℕ → List (List ℕ)
lines_of [] = []
lines_of (b ∷ bs) = if b == 10 then [] ∷ lines_of bs else onto_first b (lines_of bs)

-- What stands before, between and behind the line feeds of a text: each of these but the last is a whole line.
abbrev pub pieces_of : List ℕ → List (List ℕ)
pieces_of [] = [] ∷ []
pieces_of (b ∷ bs) = if b == 10 then [] ∷ pieces_of bs else onto_first b (pieces_of bs)

-- a line of a text that is written
abbrev pub line : List ℕ → List ℕ
line text = text ++ 10 ∷ []

-- the words of a line, which one space parts: a line has one more than it has spaces
abbrev pub words_of : List ℕ → List (List ℕ)
words_of [] = [] ∷ []
words_of (b ∷ bs) = if b == 32 then [] ∷ words_of bs else onto_first b (words_of bs)

-- whether each byte is 33 to 126, `!` to `~`
abbrev pub is_visible : List ℕ → Bool
is_visible text = list_all (λ b. nat_le 33 b && nat_le b 126) text

-- a name: bytes 33 to 126, at least one
abbrev pub is_name : List ℕ → Bool
is_name word = nat_lt 0 (length word) && is_visible word

-- whether each byte is a decimal digit
abbrev pub is_digits : List ℕ → Bool
is_digits text = list_all (λ b. nat_le 48 b && nat_le b 57) text

-- digits without a leading zero, other than `0` itself
abbrev pub is_canonical : List ℕ → Bool
is_canonical [] = false
is_canonical (d ∷ ds) = is_digits (d ∷ ds) && ((length ds == 0) || not (d == 48))

-- the number that digits stand for
abbrev pub number_of : List ℕ → ℕ
number_of digits = fold (λ n d. 10 * n + (d - 48)) 0 digits

-- the same where it is below 2 ^ 64
abbrev pub digits_in : List ℕ → Option ℕ
digits_in digits = if nat_lt (number_of digits) (2 ^ 64) then Some (number_of digits) else None

-- the number below 2 ^ 64 whose one form the text is
abbrev pub number_in : List ℕ → Option ℕ
number_in text = if is_canonical text then digits_in text else None
