-- What the grammar sees of each token (docs/FORMATS.md, "Words of a netlist").
use Rattle.std.specs.Prelude.{ℕ, ◌+◌, ◌-◌, ◌*◌, Bool, true, false, ◌&&◌, ◌||◌, ◌==◌, nat_lt, if◌then◌else◌, List, [], ◌∷◌, ◌++◌, length, drop, map, min, codes}
use Rattle.std.specs.Prelude.{Option, Some, None, slice_index, unwrap_or, Result, Ok, Err}
use Rattle.std.specs.List.{list_any, list_all}
use Rattle.std.specs.Str.{bytes_eq}
use Prim.Native.String.{String}
use Rattle.bs_net.specs.declared.gate.Kind.TheVariants.{And, Nand, Or, Nor, Xor, Xnor, Buf, Not}
use Rattle.bs_net.specs.Names.{with_key, number_of}
use Rattle.bs_lex.specs.declared.token.Token.{Token}
use Rattle.bs_lex.specs.declared.token.TokenKind.TheVariants as kinds
use Rattle.bs_lex.specs.Bytes.{◌∈◌, is_digit, is_base}
use Rattle.bs_lex.specs.Tokens.{first, tokens_of}
use Rattle.bs_lex.specs.Placing.{token_text}
use Rattle.bs_lex.specs.declared.token.TokenKind.{TokenKind}
use Rattle.bs_lex.specs.declared.number_limits.TheConstants.{MAX_INDEX, GREAT}
use Rattle.bs_lex.specs.Packed.{Lexeme}
use Rattle.bs_lex.specs.declared.fault.LexFault.{LexFault}
use Rattle.bs_lex.specs.declared.fault.LexFault.TheVariants.{BadByte}
use Rattle.bs_lex.specs.declared.lexeme.Sort.{Sort}
use Rattle.bs_lex.specs.declared.lexeme.Sort.TheVariants as sorts
use Rattle.bs_lex.specs.declared.lexeme.Word as code
use Rattle.bs_lex.specs.declared.lexeme.Word.TheVariants as words
use Rattle.bs_lex.specs.declared.lexeme.Cell as code_cell
use Rattle.bs_lex.specs.declared.lexeme.Cell.TheVariants.{Dff, Dffs, Dffe, Dffr}

-- the name is one of these
abbrev pub is_one_of : List ℕ → List String → Bool
is_one_of name these = list_any (λ word. bytes_eq name (codes word)) these

-- the keywords of behaviour, `reg` apart
abbrev pub behaviour_words : List String
behaviour_words =
    "always" ∷ "initial" ∷ "integer" ∷ "real" ∷ "time" ∷ "event" ∷ "task" ∷ "function" ∷ "specify" ∷ "generate" ∷ "genvar" ∷ []

-- the keywords of parameters
abbrev pub parameter_words : List String
parameter_words = "parameter" ∷ "localparam" ∷ "defparam" ∷ []

-- the net types that are left out
abbrev pub net_words : List String
net_words = "tri" ∷ "uwire" ∷ "wand" ∷ "wor" ∷ "tri0" ∷ "tri1" ∷ "triand" ∷ "trior" ∷ "trireg" ∷ []

-- the primitives that are left out
abbrev pub switch_words : List String
switch_words =
    "bufif0" ∷ "bufif1" ∷ "notif0" ∷ "notif1" ∷ "nmos" ∷ "pmos" ∷ "cmos" ∷ "rnmos" ∷ "rpmos" ∷ "rcmos" ∷ "tran" ∷ "tranif0" ∷ "tranif1"
    ∷ "rtran" ∷ "rtranif0" ∷ "rtranif1" ∷ "pullup" ∷ "pulldown" ∷ []

-- the strengths that are keywords of nothing else
abbrev pub strength_words : List String
strength_words = "strong0" ∷ "pull0" ∷ "weak0" ∷ "highz0" ∷ "strong1" ∷ "pull1" ∷ "weak1" ∷ "highz1" ∷ []

-- the keywords that the grammar tells apart
abbrev pub own_words : List (String × code.Word)
own_words =
    ("module", words.Module) ∷ ("endmodule", words.Endmodule) ∷ ("input", words.Input) ∷ ("output", words.Output) ∷ ("inout", words.Inout)
    ∷ ("wire", words.Wire) ∷ ("supply0", words.Supply0) ∷ ("supply1", words.Supply1) ∷ ("assign", words.Assign) ∷ ("reg", words.Reg)
    ∷ ("primitive", words.Primitive) ∷ ("and", words.Gate And) ∷ ("nand", words.Gate Nand) ∷ ("or", words.Gate Or) ∷ ("nor", words.Gate Nor)
    ∷ ("xor", words.Gate Xor) ∷ ("xnor", words.Gate Xnor) ∷ ("buf", words.Gate Buf) ∷ ("not", words.Gate Not) ∷ []

-- what a list has beside this text
abbrev pub among : {A : Type 0} → List ℕ → List (String × A) → Option A
among name [] = None
among name (w ∷ ws) = if bytes_eq name (codes w.0) then Some w.1 else among name ws

-- a part of the first member that passes a test
abbrev pub first_by : {A B : Type 0} → (A → Bool) → (A → B) → List A → Option B
first_by test part [] = None
first_by test part (x ∷ xs) = if test x then Some (part x) else first_by test part xs

-- the keyword that a name is
unfoldable pub word_of : List ℕ → Option code.Word
word_of name =
    if is_one_of name behaviour_words then Some words.Behaviour
    else if is_one_of name parameter_words then Some words.Parameter
    else if is_one_of name net_words then Some words.NetType
    else if is_one_of name switch_words then Some words.Switch
    else if is_one_of name strength_words then Some words.Strength
    else among name own_words

-- the cells and their names
abbrev pub cell_names : List (String × code_cell.Cell)
cell_names = ("dff", Dff) ∷ ("dffs", Dffs) ∷ ("dffe", Dffe) ∷ ("dffr", Dffr) ∷ []

-- the cell of a name
abbrev pub cell_of : List ℕ → Option code_cell.Cell
cell_of name = among name cell_names

-- the number that digits are, after the number before them
unfoldable pub decimal_from : ℕ → List ℕ → ℕ
decimal_from n [] = n
decimal_from n (c ∷ text) = decimal_from (10 * n + (c - 48)) text

-- four bytes: `1`, a `'`, a base, and `0` or `1`
abbrev pub is_one_bit : List ℕ → Bool
is_one_bit text = length text == 4 && first text ∈ "1" && slice_index text 1 ∈ "'" && is_base (slice_index text 2) && slice_index text 3 ∈ "01"

-- digits alone, one bit, or another number
abbrev pub sort_of_number : List ℕ → Sort
sort_of_number text =
    if list_all is_digit text then sorts.Digits (min (decimal_from 0 text) GREAT)
    else if is_one_bit text then sorts.Bit (slice_index text 3 ∈ "1")
    else sorts.Number

-- a keyword, or a name
abbrev pub sort_of_name : List ℕ → Sort
sort_of_name name = elim (word_of name) [ Some word ↦ sorts.Word word | None ↦ sorts.Name (cell_of name) ]

-- an escaped name
abbrev pub is_escaped : TokenKind → Bool
is_escaped kinds.Escaped = true
is_escaped _ = false

-- the text of a token, of an escaped name without its `\`
abbrev pub spelling : List ℕ → Token → List ℕ
spelling source t = if is_escaped t.kind then drop 1 (token_text source t) else token_text source t

-- What a token of this kind and spelling is to the grammar. An escaped name is never a keyword.
unfoldable pub sort_of : TokenKind → List ℕ → Sort
sort_of kinds.Name text = sort_of_name text
sort_of kinds.Escaped text = sorts.Name (cell_of text)
sort_of kinds.System text = sorts.System
sort_of kinds.Number text = sort_of_number text
sort_of kinds.Text text = sorts.Text
sort_of kinds.Directive text = sorts.Directive
sort_of kinds.AttrOpen text = sorts.AttrOpen
sort_of kinds.AttrClose text = sorts.AttrClose
sort_of kinds.Sym text = sorts.Symbol (first text)

-- what a token is to the grammar
abbrev pub token_sort : List ℕ → Token → Sort
token_sort source t = sort_of t.kind (spelling source t)

-- a NAME
abbrev pub is_name : Sort → Bool
is_name (sorts.Name cell) = true
is_name _ = false

-- a number of digits above `MAX_INDEX`
abbrev pub is_great : Sort → Bool
is_great (sorts.Digits n) = nat_lt MAX_INDEX n
is_great _ = false

-- a name or a great number, which have a number among the names
abbrev pub has_number : Sort → Bool
has_number sort = is_name sort || is_great sort

-- the first digit is a zero
abbrev pub has_leading_zero : List ℕ → Bool
has_leading_zero [] = false
has_leading_zero (c ∷ text) = c == 48

-- digits without leading zeros, one text for each number
unfoldable pub without_zeros : List ℕ → List ℕ
without_zeros [] = []
without_zeros (c ∷ text) = if c == 48 then without_zeros text else c ∷ text

-- the text under which a token stands among the names: the name that it is (what has the form of a Name is that name,
-- escaped or not), or the digits of a number above `MAX_INDEX`
unfoldable pub name_text : List ℕ → Token → Option (List ℕ)
name_text source t =
    if is_name (token_sort source t) then Some (spelling source t)
    else (if is_great (token_sort source t) then Some (without_zeros (spelling source t)) else None)

-- the names after one is added, if there is one
abbrev pub with_name : List (List ℕ) → Option (List ℕ) → List (List ℕ)
with_name names (Some name) = with_key names name
with_name names None = names

-- the names of a text and its numbers above `MAX_INDEX`, each once, in the order in which they first occur
unfoldable pub names_from : List (List ℕ) → List ℕ → List Token → List (List ℕ)
names_from names source [] = names
names_from names source (t ∷ ts) = names_from (with_name names (name_text source t)) source ts

-- the names of all tokens
abbrev pub names_of : List ℕ → List Token → List (List ℕ)
names_of source tokens = names_from [] source tokens

-- the number of a name among the names; 0 where there is none
abbrev pub number_in : List (List ℕ) → Option (List ℕ) → ℕ
number_in names (Some name) = unwrap_or (number_of names name) 0
number_in names None = 0

-- the sort of a token with this number among the names: numbers above `MAX_INDEX` are told apart by it, and all stay above
abbrev pub numbered_sort : ℕ → Sort → Sort
numbered_sort number sort = if is_great sort then sorts.Digits (GREAT + number) else sort

-- the lexeme of a token with this number among the names
abbrev pub numbered_lexeme : ℕ → List ℕ → Token → Lexeme
numbered_lexeme number source t = record { sort = numbered_sort number (token_sort source t); at = t.start; name = number }

-- the lexeme of a token, among these names
abbrev pub lexeme_of : List (List ℕ) → List ℕ → Token → Lexeme
lexeme_of names source t = numbered_lexeme (number_in names (name_text source t)) source t

-- the end of a text, as a lexeme
abbrev pub end_of : List ℕ → Lexeme
end_of source = record { sort = sorts.End; at = length source; name = 0 }

-- what the grammar reads: a lexeme for each token, and the end
unfoldable pub lexemes_of : List ℕ → List Token → List Lexeme
lexemes_of source tokens = map (lexeme_of (names_of source tokens) source) tokens ++ end_of source ∷ []

-- the lexemes of a text and its names, or the first place where no token begins
abbrev pub lexed : List ℕ → Result (List Lexeme × List (List ℕ)) LexFault
lexed source = elim (tokens_of source) [ Ok tokens ↦ Ok (lexemes_of source tokens, names_of source tokens) | Err at ↦ Err (BadByte at) ]
