-- Which lines have a text, and that reading and writing are each other's inverse.
use Rattle.std.specs.Prelude.{◌≡◌, ◌≢◌, ℕ, ◌<◌, ◌≤◌, ◌^◌, List, length, Option, Some, None}
use Rattle.std.specs.List.{AllByRecursion}
use Rattle.bs_clause.specs.Literal.{Literal, IsVariable}
use Rattle.bs_log.specs.declared.line.Line.{Line}
use Rattle.bs_log.specs.declared.line.Line.TheVariants.{Solve, Lemma, Block, Finish, Retire, Delete}
use Rattle.bs_log.specs.LineText.{line_text}
use Rattle.bs_log.specs.LineReading.{line_in}

-- ids are 1 to 2 ^ 64 - 1
abbrev pub IsId : ℕ → Type 0
IsId id = (1 ≤ id) × (id < 2 ^ 64)

abbrev pub HasVariable : Literal → Type 0
HasVariable l = IsVariable l.variable

-- ids and variables are in their ranges, hints and deleted ids are one or more, and so are a block's literals
abbrev pub HasText : Line → Type 0
HasText Solve = Unit {0}
HasText (Lemma id lits hints) = IsId id × AllByRecursion HasVariable lits × AllByRecursion IsId hints × (0 < length hints)
HasText (Block id lits) = IsId id × AllByRecursion HasVariable lits × (0 < length lits)
HasText (Finish id) = IsId id
HasText (Retire id) = IsId id
HasText (Delete ids) = AllByRecursion IsId ids × (0 < length ids)

-- the line has the text; and where there is no line, none has it
abbrev pub IsLineOf : List ℕ → Option Line → Type 0
IsLineOf text (Some line) = HasText line × (line_text line ≡ text)
IsLineOf text None = (line : Line) → HasText line → line_text line ≢ text

-- A line that has a text is read back from it,
abbrev pub LinesReadBack : Type 0
LinesReadBack = (line : Line) → HasText line → line_in (line_text line) ≡ Some line

-- and a text is read as the line that has it, if there is one.
abbrev pub TextsAreLines : Type 0
TextsAreLines = (text : List ℕ) → IsLineOf text (line_in text)
