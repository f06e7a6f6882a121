-- What the reader's syntax value says as it is written: its names by the table of names, its great numbers as the numbers that they stand for.
use Rattle.std.specs.Prelude.{ℕ, ◌-◌, nat_lt, if◌then◌else◌, List, [], map, option_map, slice_index_or}
use Rattle.bs_lex.specs.declared.number_limits.TheConstants.{MAX_INDEX, GREAT}
use Rattle.bs_lex.specs.declared.lexeme.Name.{Name}
use Rattle.bs_lex.specs.Lexemes.{decimal_from}
use Rattle.bs_verilog_syntax.specs.declared.tree.Range as code_range
use Rattle.bs_verilog_syntax.specs.declared.tree.Says as code_says
use Rattle.bs_verilog_syntax.specs.declared.tree.Declared as code_declared
use Rattle.bs_verilog_syntax.specs.declared.tree.Term as code_term
use Rattle.bs_verilog_syntax.specs.declared.tree.Term.TheVariants as terms
use Rattle.bs_verilog_syntax.specs.declared.tree.Connection as code_connection
use Rattle.bs_verilog_syntax.specs.declared.tree.Connection.TheVariants as connections
use Rattle.bs_verilog_syntax.specs.declared.tree.Component as code_component
use Rattle.bs_verilog_syntax.specs.declared.tree.HeaderPort as code_port
use Rattle.bs_verilog_syntax.specs.declared.tree.Ports as code_ports
use Rattle.bs_verilog_syntax.specs.declared.tree.Adds as code_adds
use Rattle.bs_verilog_syntax.specs.declared.tree.Module as code_module
use Rattle.bs_verilog.specs.Written.{Range, Says, Declared, Term, constant, named, Connection, empty, place, pin, Component, HeaderPort, Ports, Adds, Module}

-- the number that a seen number stands for: one from `GREAT` on stands for the digits with this number in the table
abbrev pub number_view : List (List ℕ) → ℕ → ℕ
number_view table n = if nat_lt MAX_INDEX n then decimal_from 0 (slice_index_or table (n - GREAT) []) else n

-- the text of a name
abbrev pub name_view : List (List ℕ) → Name → List ℕ
name_view table n = slice_index_or table n.id []

abbrev pub range_view : List (List ℕ) → code_range.Range → Range
range_view table r = record { left = number_view table r.left; right = number_view table r.right }

abbrev pub says_view : List (List ℕ) → code_says.Says → Says
says_view table s = record { direction = s.direction; net = s.net; range = option_map (range_view table) s.range }

abbrev pub declared_view : List (List ℕ) → code_declared.Declared → Declared
declared_view table d = record { says = says_view table d.says; name = name_view table d.name }

abbrev pub term_view : List (List ℕ) → code_term.Term → Term
term_view table (terms.Constant at b) = constant b
term_view table (terms.Named n index) = named (name_view table n) (option_map (number_view table) index)

abbrev pub connection_view : List (List ℕ) → code_connection.Connection → Connection
connection_view table connections.Empty = empty
connection_view table (connections.Place t) = place (term_view table t)
connection_view table (connections.Pin n t) = pin (name_view table n) (option_map (term_view table) t)

abbrev pub component_view : List (List ℕ) → code_component.Component → Component
component_view table p = record { shape = p.shape; connections = map (connection_view table) p.connections }

abbrev pub port_view : List (List ℕ) → code_port.HeaderPort → HeaderPort
port_view table p = record { says = option_map (says_view table) p.says; name = name_view table p.name }

abbrev pub ports_view : List (List ℕ) → code_ports.Ports → Ports
ports_view table p = record { header = map (name_view table) p.header; declared = map (declared_view table) p.declared }

abbrev pub adds_view : List (List ℕ) → code_adds.Adds → Adds
adds_view table a = record { declared = map (declared_view table) a.declared; parts = map (component_view table) a.parts }

-- the top module as it is written
abbrev pub module_view : List (List ℕ) → code_module.Module → Module
module_view table m =
    record { header = map (name_view table) m.header; declared = map (declared_view table) m.declared; parts = map (component_view table) m.parts }
