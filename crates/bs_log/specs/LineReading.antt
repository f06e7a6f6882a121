-- The line of a log that a text is (docs/FORMATS.md, "The log").
use Rattle.std.specs.Prelude.{ℕ, ◌==◌, nat_lt, nat_le, Bool, false, true, ◌&&◌, List, [], ◌∷◌, length, Option, Some, None, option_map}
use Rattle.std.specs.Prelude.{option_and_then, if◌then◌else◌}
use Rattle.bs_bits.specs.Lines.{words_of, number_in}
use Rattle.bs_clause.specs.declared.literal.TheConstants.{VARIABLE_LIMIT}
use Rattle.bs_clause.specs.Literal.{Literal}
use Rattle.bs_log.specs.declared.line.Line.{Line}
use Rattle.bs_log.specs.declared.line.Line.TheVariants.{Solve, Lemma, Block, Finish, Retire, Delete}

-- ---- words

-- whether the word is this one character
abbrev pub is_letter : ℕ → List ℕ → Bool
is_letter letter [] = false
is_letter letter (b ∷ []) = b == letter
is_letter letter (b ∷ c ∷ cs) = false

abbrev pub from_one : Option ℕ → Option ℕ
from_one None = None
from_one (Some n) = if n == 0 then None else Some n

-- an id: a number from 1 to 2 ^ 64 - 1
abbrev pub id_in : List ℕ → Option ℕ
id_in word = from_one (number_in word)

-- a variable: a number from 1 to VARIABLE_LIMIT - 1
abbrev pub variable_of : Option ℕ → Option ℕ
variable_of None = None
variable_of (Some n) = if nat_le 1 n && nat_lt n VARIABLE_LIMIT then Some n else None

abbrev pub signed : Bool → Option ℕ → Option Literal
signed positive None = None
signed positive (Some v) = Some (record { variable = v; positive = positive })

-- a literal: its variable, behind `-` where it is negated
abbrev pub literal_in : List ℕ → Option Literal
literal_in [] = None
literal_in (b ∷ bs) =
    if b == 45 then signed false (variable_of (number_in bs)) else signed true (variable_of (number_in (b ∷ bs)))

-- ---- lists of words

abbrev pub onto_found : {A : Type 0} → Option A → Option (List A × List (List ℕ)) → Option (List A × List (List ℕ))
onto_found None found = None
onto_found (Some a) None = None
onto_found (Some a) (Some found) = Some (a ∷ found.0, found.1)

-- what the words before the first word `0` stand for, and the words behind it
abbrev pub up_to_zero : {A : Type 0} → (List ℕ → Option A) → List (List ℕ) → Option (List A × List (List ℕ))
up_to_zero read [] = None
up_to_zero read (w ∷ ws) = if is_letter 48 w then Some ([], ws) else onto_found (read w) (up_to_zero read ws)

-- the list, where it has a member and no word is left
abbrev pub some_and_end : {A : Type 0} → List A → List (List ℕ) → Option (List A)
some_and_end found ws = if nat_lt 0 (length found) && (length ws == 0) then Some found else None

-- one or more, and then a word `0` as the last one
abbrev pub some_to_end : {A : Type 0} → (List ℕ → Option A) → List (List ℕ) → Option (List A)
some_to_end read ws = option_and_then (λ found. some_and_end found.0 found.1) (up_to_zero read ws)

-- ---- lines

abbrev pub solve_in : List (List ℕ) → Option Line
solve_in [] = Some Solve
solve_in (w ∷ ws) = None

abbrev pub sole_id : List (List ℕ) → Option ℕ
sole_id [] = None
sole_id (w ∷ []) = id_in w
sole_id (w ∷ v ∷ ws) = None

abbrev pub block_in : List (List ℕ) → Option Line
block_in [] = None
block_in (w ∷ ws) = option_and_then (λ id. option_map (λ lits. Block id lits) (some_to_end literal_in ws)) (id_in w)

abbrev pub with_hints : ℕ → Option (List Literal × List (List ℕ)) → Option Line
with_hints id None = None
with_hints id (Some found) = option_map (λ hints. Lemma id found.0 hints) (some_to_end id_in found.1)

abbrev pub lemma_in : List ℕ → List (List ℕ) → Option Line
lemma_in w ws = option_and_then (λ id. with_hints id (up_to_zero literal_in ws)) (id_in w)

-- the line of these words, the first of which is its letter or a lemma's id
abbrev pub line_of_words : List (List ℕ) → Option Line
line_of_words [] = None
line_of_words (w ∷ ws) =
    if is_letter 115 w then solve_in ws
    else if is_letter 98 w then block_in ws
    else if is_letter 101 w then option_map (λ id. Finish id) (sole_id ws)
    else if is_letter 114 w then option_map (λ id. Retire id) (sole_id ws)
    else if is_letter 100 w then option_map (λ ids. Delete ids) (some_to_end id_in ws)
    else lemma_in w ws

-- the line that a text is, if it is one
abbrev pub line_in : List ℕ → Option Line
line_in text = line_of_words (words_of text)
