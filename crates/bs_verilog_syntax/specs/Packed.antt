-- How a connection is packed, and what it is seen as.
use Rattle.std.specs.Prelude.{ℕ, ◌+◌, ◌*◌, true, false, Some, None}
use Rattle.bs_lex.specs.declared.lexeme.Name.{Name}
use Rattle.bs_verilog_syntax.specs.declared.packed.Tag.{Tag}
use Rattle.bs_verilog_syntax.specs.declared.packed.Tag.TheVariants as tags
use Rattle.bs_verilog_syntax.specs.declared.tree.Connection as seen
use Rattle.bs_verilog_syntax.specs.declared.tree.Connection.TheVariants.{Place, Pin}
use Rattle.bs_verilog_syntax.specs.declared.tree.Connection.TheVariants as connections
use Rattle.bs_verilog_syntax.specs.declared.tree.Term.TheVariants.{Constant, Named}

-- the number of three bytes
abbrev pub joined : ℕ → ℕ → ℕ → ℕ
joined high middle low = 65536 * high + 256 * middle + low

-- the name at a place, with its number
abbrev pub name_in : ℕ → ℕ → Name
name_in at id = record { at = at; id = id }

-- the connection of a tag, a pin's name, a term's name or place, and an index
abbrev pub connection_in : Tag → Name → Name → ℕ → seen.Connection
connection_in tags.Empty pin name index = connections.Empty
connection_in tags.Zero pin name index = Place (Constant name.at false)
connection_in tags.One pin name index = Place (Constant name.at true)
connection_in tags.Named pin name index = Place (Named name None)
connection_in tags.Indexed pin name index = Place (Named name (Some index))
connection_in tags.Open pin name index = Pin pin None
connection_in tags.PinZero pin name index = Pin pin (Some (Constant name.at false))
connection_in tags.PinOne pin name index = Pin pin (Some (Constant name.at true))
connection_in tags.PinNamed pin name index = Pin pin (Some (Named name None))
connection_in tags.PinIndexed pin name index = Pin pin (Some (Named name (Some index)))
