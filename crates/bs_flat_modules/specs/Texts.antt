-- What is read from the lexemes of a text: numbers that take three bytes, and no more connections than lexemes.
use Rattle.std.specs.Prelude.{◌≡◌, ◌<◌, ◌≤◌, ◌+◌, ℕ, Bool, true, List, length, All, Option, Some, None, Ok}
use Rattle.std.specs.List.{Contains, sum_by}
use Rattle.bs_lex.specs.declared.limits.TheConstants.{MAX_BYTES}
use Rattle.bs_lex.specs.declared.token.Token.{Token}
use Rattle.bs_lex.specs.Tokens.{tokens_of}
use Rattle.bs_lex.specs.declared.lexeme.Name.{Name}
use Rattle.bs_lex.specs.Lexemes.{lexemes_of}
use Rattle.bs_verilog_syntax.specs.declared.tree.Component.{Component}
use Rattle.bs_verilog_syntax.specs.declared.tree.Connection.{Connection}
use Rattle.bs_verilog_syntax.specs.declared.tree.Connection.TheVariants.{Empty, Place, Pin}
use Rattle.bs_verilog_syntax.specs.declared.tree.Module.{Module}
use Rattle.bs_verilog_syntax.specs.declared.tree.Term.{Term}
use Rattle.bs_verilog_syntax.specs.declared.tree.Term.TheVariants.{Constant, Named}
use Rattle.bs_verilog_syntax.specs.Reading.{Rest}
use Rattle.bs_verilog_syntax.specs.Parts as parts
use Rattle.bs_verilog_syntax.specs.Modules.{syntax_of}
use Rattle.bs_flat_meaning.specs.declared.statements.Written.{Written}
use Rattle.bs_flat_meaning.specs.Instancing.{instancing}
use Rattle.bs_flat_meaning.specs.Pieces.{Piece, modules_of, own_text, statements_of}
use Rattle.bs_flat_modules.specs.Alone.{own_alone}
use Rattle.bs_flat_modules.specs.Copying.{is_numbered}
use Rattle.bs_flat_modules.specs.declared.dealing.ModuleSpan.{ModuleSpan}

-- ---- texts

-- a text of at most `MAX_BYTES`, and its tokens
pub record IsText (source : List ℕ) (tokens : List Token) : Type 0 where
  pub short : length source ≤ MAX_BYTES
  pub are : tokens_of source ≡ Ok tokens

-- lexemes of a text, in any order and number: own texts are put together from them
abbrev pub StandIn : List ℕ → List Token → Rest → Type 0
StandIn source tokens ts = All (Contains (lexemes_of source tokens)) ts

-- a text has a byte for each lexeme but its end
abbrev pub TextsHaveFewLexemes : Type 0
TextsHaveFewLexemes = (source : List ℕ) (tokens : List Token) → IsText source tokens → length (lexemes_of source tokens) ≤ MAX_BYTES + 1

-- ---- numbers

-- the place and the number of a name take three bytes
abbrev pub IsThreeByteName : Name → Type 0
IsThreeByteName n = (n.at < MAX_BYTES) × (n.id < MAX_BYTES)

abbrev pub IsThreeByteIndex : Option ℕ → Type 0
IsThreeByteIndex None = Unit {0}
IsThreeByteIndex (Some i) = i < MAX_BYTES

abbrev pub IsThreeByteTerm : Term → Type 0
IsThreeByteTerm (Constant place bit) = place < MAX_BYTES
IsThreeByteTerm (Named n index) = IsThreeByteName n × IsThreeByteIndex index

abbrev pub IsThreeByteGiven : Option Term → Type 0
IsThreeByteGiven None = Unit {0}
IsThreeByteGiven (Some t) = IsThreeByteTerm t

-- the places, numbers and indices of a connection take three bytes
abbrev pub IsThreeBytes : Connection → Type 0
IsThreeBytes Empty = Unit {0}
IsThreeBytes (Place t) = IsThreeByteTerm t
IsThreeBytes (Pin n given) = IsThreeByteName n × IsThreeByteGiven given

-- what each production of a connection reads from these lexemes, if it reads one
pub record ReadsThreeBytes (ts : Rest) : Type 0 where
  pub by_place : (c : Connection) (after : Rest) → parts.by_place ts ≡ Ok (c, after) → IsThreeBytes c
  pub place : (c : Connection) (after : Rest) → parts.place ts ≡ Ok (c, after) → IsThreeBytes c
  pub pin : (c : Connection) (after : Rest) → parts.pin ts ≡ Ok (c, after) → IsThreeBytes c
  pub assignment : (p : Component) (after : Rest) → parts.assignment ts ≡ Ok (p, after) → All IsThreeBytes p.connections

abbrev pub NumbersTakeThreeBytes : Type 0
NumbersTakeThreeBytes = (source : List ℕ) (tokens : List Token) (ts : Rest) → IsText source tokens → StandIn source tokens ts → ReadsThreeBytes ts

-- each lexeme of a text has a number that its copy may have
abbrev pub LexemesAreCopied : Type 0
LexemesAreCopied =
    (source : List ℕ) (tokens : List Token) → IsText source tokens →
    All (λ t. (is_numbered t.sort t.name ≡ true) × (t.at ≤ MAX_BYTES)) (lexemes_of source tokens)

-- ---- connections

-- the connections of all parts together, the parts, and the names of a module are no more than the lexemes from which it is read
pub record HasFewParts (ts : Rest) (m : Module) : Type 0 where
  pub connections : sum_by (λ p. length p.connections) m.parts ≤ length ts
  pub parts : length m.parts ≤ length ts
  pub header : length m.header ≤ length ts
  pub declared : length m.declared ≤ length ts

-- a module, and the instances of a statement
pub record ReadsShort (ts : Rest) : Type 0 where
  pub whole : (m : Module) → syntax_of ts ≡ Ok m → HasFewParts ts m
  pub instances : (ws : List Written) (after : Rest) → instancing ts ≡ Ok (ws, after) →
      (length ws ≤ length ts) × (sum_by (λ w. length w.connections) ws ≤ length ts)

abbrev pub ReadingIsShort : Type 0
ReadingIsShort = (ts : Rest) → ReadsShort ts

-- ---- own texts

-- the own text of a module and its instance statements stand in the text
pub record IsOfText (ts : Rest) (p : Piece) : Type 0 where
  pub own : All (Contains ts) (own_text ts p)
  pub shorter : length (own_text ts p) ≤ length ts
  pub statements : All (λ s. All (Contains ts) s × (length s ≤ length ts)) (statements_of (modules_of ts) p)

abbrev pub OwnTextsAreOfTheText : Type 0
OwnTextsAreOfTheText = (ts : Rest) → All (IsOfText ts) (modules_of ts)

-- the own text of a module without what stands outside the modules, by which it may be read, whatever span is taken for its own
abbrev pub AloneTextsAreOfTheText : Type 0
AloneTextsAreOfTheText = (marks : ℕ → Bool) (ts : Rest) (p : ModuleSpan) → All (Contains ts) (own_alone marks ts p)
