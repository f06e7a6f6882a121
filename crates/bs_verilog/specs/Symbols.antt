-- What each token of a text is to the grammar: the symbols that its productions speak of (docs/FORMATS.md, "Words of a netlist").
use Rattle.std.specs.Prelude.{ℕ, Bool, List, [], ◌∷◌, ◌++◌, map, Option}
use Rattle.bs_lex.specs.declared.token.Token.{Token}
use Rattle.bs_lex.specs.declared.lexeme.Cell.{Cell}
use Rattle.bs_lex.specs.declared.lexeme.Word.{Word}
use Rattle.bs_lex.specs.declared.lexeme.Sort.{Sort}
use Rattle.bs_lex.specs.declared.lexeme.Sort.TheVariants as sorts
use Rattle.bs_lex.specs.Lexemes.{sort_of, spelling, decimal_from}

-- A symbol. A name has its text, and the cell of this name; digits alone are the number that they stand for, of any size.
pub data Symbol : Type 0 where
  keyword : Word → Symbol
  name : Option Cell → List ℕ → Symbol
  bit : Bool → Symbol
  digits : ℕ → Symbol
  mark : ℕ → Symbol
  opens : Symbol
  closes : Symbol
  number : Symbol
  quoted : Symbol
  system : Symbol
  directive : Symbol
  finish : Symbol

-- a text as its symbols
abbrev pub Text : Type 0
Text = List Symbol

-- the symbol of a token with this spelling, which the grammar sees so
abbrev pub symbol_seen : List ℕ → Sort → Symbol
symbol_seen text (sorts.Word w) = keyword w
symbol_seen text (sorts.Name cell) = name cell text
symbol_seen text (sorts.Bit b) = bit b
symbol_seen text (sorts.Digits n) = digits (decimal_from 0 text)
symbol_seen text sorts.Number = number
symbol_seen text (sorts.Symbol c) = mark c
symbol_seen text sorts.AttrOpen = opens
symbol_seen text sorts.AttrClose = closes
symbol_seen text sorts.Text = quoted
symbol_seen text sorts.System = system
symbol_seen text sorts.Directive = directive
symbol_seen text sorts.End = finish

-- the symbol of a token
abbrev pub symbol_of : List ℕ → Token → Symbol
symbol_of source t = symbol_seen (spelling source t) (sort_of t.kind (spelling source t))

-- the symbols of a text, and its end
abbrev pub symbols_of : List ℕ → List Token → Text
symbols_of source tokens = map (symbol_of source) tokens ++ finish ∷ []
