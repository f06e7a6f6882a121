-- That the grammar sees numbers of digits as they are, of any length (docs/FORMATS.md, "Netlists").
use Rattle.std.specs.Prelude.{ℕ, ◌≡◌, ◌<◌, ◌≤◌, ◌↔◌, true, List, Some, slice_get}
use Rattle.std.specs.List.{list_all}
use Rattle.bs_lex.specs.Bytes.{is_digit}
use Rattle.bs_lex.specs.declared.token.Token.{Token}
use Rattle.bs_lex.specs.declared.token.TokenKind.TheVariants as kinds
use Rattle.bs_lex.specs.declared.number_limits.TheConstants.{MAX_INDEX}
use Rattle.bs_lex.specs.declared.lexeme.Sort.{Sort}
use Rattle.bs_lex.specs.declared.lexeme.Sort.TheVariants as sorts
use Rattle.bs_lex.specs.Lexemes.{decimal_from, lexeme_of, names_of, spelling}

-- a token that is a number of digits alone
pub record IsDigits (source : List ℕ) (t : Token) : Type 0 where
  pub number : t.kind ≡ kinds.Number
  pub digits : list_all is_digit (spelling source t) ≡ true

-- the number that its digits stand for
abbrev pub value : List ℕ → Token → ℕ
value source t = decimal_from 0 (spelling source t)

-- what the grammar sees of a token, among all tokens of the text
abbrev pub seen : List ℕ → List Token → Token → Sort
seen source tokens t = (lexeme_of (names_of source tokens) source t).sort

-- numbers up to `MAX_INDEX` are seen as they are, greater ones as greater ones, and two numbers alike exactly where they are equal
pub record TellsNumbersApart (source : List ℕ) (tokens : List Token) : Type 0 where
  pub small : (t : Token) → IsDigits source t → value source t ≤ MAX_INDEX → seen source tokens t ≡ sorts.Digits (value source t)
  pub great : (t : Token) → IsDigits source t → MAX_INDEX < value source t → (n : ℕ) × ((MAX_INDEX < n) × (seen source tokens t ≡ sorts.Digits n))
  pub apart : (i j : ℕ) (s t : Token) → slice_get tokens i ≡ Some s → slice_get tokens j ≡ Some t → IsDigits source s → IsDigits source t
      → (seen source tokens s ≡ seen source tokens t) ↔ (value source s ≡ value source t)
