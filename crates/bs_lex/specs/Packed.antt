-- How a lexeme is packed, and what it is seen as.
use Rattle.std.specs.Prelude.{ℕ, ◌+◌, ◌*◌, ◌/◌, true, false, Some, None}
use Rattle.bs_net.specs.declared.gate.Kind.TheVariants as kinds
use Rattle.bs_lex.specs.declared.number_limits.TheConstants.{GREAT}
use Rattle.bs_lex.specs.declared.lexeme.Sort.{Sort}
use Rattle.bs_lex.specs.declared.lexeme.Sort.TheVariants as sorts
use Rattle.bs_lex.specs.declared.lexeme.Word.TheVariants as words
use Rattle.bs_lex.specs.declared.lexeme.Cell.TheVariants.{Dff, Dffs, Dffe, Dffr}
use Rattle.bs_lex.specs.declared.tag.Tag.{Tag}
use Rattle.bs_lex.specs.declared.tag.Tag.TheVariants as tags

-- A token as the grammar sees it: what it is, where it begins, and the number of its name among the names of the text, 0
-- where it has none.
pub record Lexeme : Type 0 where
  pub sort : Sort
  pub at : ℕ
  pub name : ℕ

-- what a lexeme with this tag, this high byte and this number is
abbrev pub sort_in : Tag → ℕ → ℕ → Sort
sort_in tags.Module high number = sorts.Word words.Module
sort_in tags.Endmodule high number = sorts.Word words.Endmodule
sort_in tags.Input high number = sorts.Word words.Input
sort_in tags.Output high number = sorts.Word words.Output
sort_in tags.Inout high number = sorts.Word words.Inout
sort_in tags.Wire high number = sorts.Word words.Wire
sort_in tags.Supply0 high number = sorts.Word words.Supply0
sort_in tags.Supply1 high number = sorts.Word words.Supply1
sort_in tags.Assign high number = sorts.Word words.Assign
sort_in tags.And high number = sorts.Word (words.Gate kinds.And)
sort_in tags.Nand high number = sorts.Word (words.Gate kinds.Nand)
sort_in tags.Or high number = sorts.Word (words.Gate kinds.Or)
sort_in tags.Nor high number = sorts.Word (words.Gate kinds.Nor)
sort_in tags.Xor high number = sorts.Word (words.Gate kinds.Xor)
sort_in tags.Xnor high number = sorts.Word (words.Gate kinds.Xnor)
sort_in tags.Buf high number = sorts.Word (words.Gate kinds.Buf)
sort_in tags.Not high number = sorts.Word (words.Gate kinds.Not)
sort_in tags.Reg high number = sorts.Word words.Reg
sort_in tags.Behaviour high number = sorts.Word words.Behaviour
sort_in tags.Parameter high number = sorts.Word words.Parameter
sort_in tags.NetType high number = sorts.Word words.NetType
sort_in tags.Switch high number = sorts.Word words.Switch
sort_in tags.Primitive high number = sorts.Word words.Primitive
sort_in tags.Strength high number = sorts.Word words.Strength
sort_in tags.Name high number = sorts.Name None
sort_in tags.Dff high number = sorts.Name (Some Dff)
sort_in tags.Dffs high number = sorts.Name (Some Dffs)
sort_in tags.Dffe high number = sorts.Name (Some Dffe)
sort_in tags.Dffr high number = sorts.Name (Some Dffr)
sort_in tags.Zero high number = sorts.Bit false
sort_in tags.One high number = sorts.Bit true
sort_in tags.Small high number = sorts.Digits number
sort_in tags.Great high number = sorts.Digits (GREAT + number)
sort_in tags.Number high number = sorts.Number
sort_in tags.Symbol high number = sorts.Symbol high
sort_in tags.AttrOpen high number = sorts.AttrOpen
sort_in tags.AttrClose high number = sorts.AttrClose
sort_in tags.Text high number = sorts.Text
sort_in tags.System high number = sorts.System
sort_in tags.Directive high number = sorts.Directive
sort_in tags.End high number = sorts.End

-- the number among the names
abbrev pub name_in : Tag → ℕ → ℕ
name_in tags.Name number = number
name_in tags.Dff number = number
name_in tags.Dffs number = number
name_in tags.Dffe number = number
name_in tags.Dffr number = number
name_in tags.Great number = number
name_in _ number = 0

-- the lexeme of a tag and these parts of a number
abbrev pub unpacked : Tag → ℕ → ℕ → ℕ → Lexeme
unpacked tag at high low = record { sort = sort_in tag high (65536 * high + low); at = at; name = name_in tag (65536 * high + low) }

-- the lexeme of a tag that takes a number
abbrev pub numbered : Tag → ℕ → ℕ → Lexeme
numbered tag at number = record { sort = sort_in tag (number / 65536) number; at = at; name = name_in tag number }
