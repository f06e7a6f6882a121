-- Which lexemes are unsupported where they cannot go on, by what is due there (docs/FORMATS.md, "What is left out").
use Rattle.std.specs.Prelude.{ℕ, if◌then◌else◌, Option, Some, None}
use Prim.Native.String.{String}
use Rattle.bs_lex.specs.Bytes.{◌∈◌}
use Rattle.bs_lex.specs.declared.lexeme.Sort.{Sort}
use Rattle.bs_lex.specs.declared.lexeme.Sort.TheVariants as sorts
use Rattle.bs_lex.specs.declared.lexeme.Word.TheVariants as words
use Rattle.bs_verilog_syntax.specs.declared.reading.Due.{Due}
use Rattle.bs_verilog_syntax.specs.declared.reading.Due.TheVariants.{Nothing, Term, AfterTerm, AfterIndex, AfterDeclared, AfterInstance, AfterModule}
use Rattle.bs_verilog_syntax.specs.declared.reading.Due.TheVariants.{AfterDirection, Port, Item, Module}
use Rattle.bs_verilog_syntax.specs.declared.fault.What as code
use Rattle.bs_verilog_syntax.specs.declared.fault.What.TheVariants as what

-- the symbol that a lexeme is, or 0
abbrev pub symbol : Sort → ℕ
symbol (sorts.Symbol c) = c
symbol _ = 0

-- one of these symbols is left out so
abbrev pub left_out : String → code.What → Sort → Option code.What
left_out s w sort = if symbol sort ∈ s then Some w else None

-- where a term must begin
abbrev pub in_term : Sort → Option code.What
in_term (sorts.Digits n) = Some what.Constant
in_term sorts.Number = Some what.Constant
in_term sort = left_out "{(+-*/%&|^~!<>?=" what.Expression sort

-- directly after a direction
abbrev pub after_direction : Sort → Option code.What
after_direction (sorts.Word words.NetType) = Some what.NetType
after_direction (sorts.Word words.Reg) = Some what.NetType
after_direction _ = None

-- where a port of a header may begin
abbrev pub in_port : Sort → Option code.What
in_port (sorts.Word words.Inout) = Some what.Direction
in_port _ = None

-- where an item may begin
abbrev pub in_item : Sort → Option code.What
in_item (sorts.Word words.Behaviour) = Some what.Behaviour
in_item (sorts.Word words.Reg) = Some what.Behaviour
in_item (sorts.Word words.Parameter) = Some what.Parameter
in_item (sorts.Word words.NetType) = Some what.NetType
in_item (sorts.Word words.Switch) = Some what.Primitive
in_item (sorts.Word words.Inout) = Some what.Direction
in_item (sorts.Name None) = Some what.Hierarchy
in_item _ = None

-- where a module may begin
abbrev pub in_module : Sort → Option code.What
in_module (sorts.Word words.Primitive) = Some what.Primitive
in_module _ = None

-- the table: what a lexeme shows where this is due
abbrev pub unsupported : Due → Sort → Option code.What
unsupported Nothing sort = None
unsupported Term sort = in_term sort
unsupported AfterTerm sort = left_out "+-*/%&|^~!<>?=" what.Expression sort
unsupported AfterIndex sort = left_out ":" what.Width sort
unsupported AfterDeclared sort = left_out "=" what.Expression sort
unsupported AfterInstance sort = left_out "[" what.Array sort
unsupported AfterModule sort = left_out "#" what.Parameter sort
unsupported AfterDirection sort = after_direction sort
unsupported Port sort = in_port sort
unsupported Item sort = in_item sort
unsupported Module sort = in_module sort
