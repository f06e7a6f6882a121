-- The netlist of a text: its value, or the first fault of the earliest pass.
use Rattle.std.specs.Prelude.{ℕ, Bool, true, false, List, [], ◌∷◌, map, if◌then◌else◌, Option, Some, None, Result, Ok, Err}
use Rattle.std.specs.List.{flat_map}
use Rattle.bs_net.specs.declared.net.NetId.{NetId}
use Rattle.bs_net.specs.declared.net.Const.{Const}
use Rattle.bs_net.specs.Parts.{Parts}
use Rattle.bs_lex.specs.declared.token.Token.{Token}
use Rattle.bs_lex.specs.Tokens.{tokens_of}
use Rattle.bs_lex.specs.declared.lexeme.Name.{Name}
use Rattle.bs_verilog_syntax.specs.declared.tree.Says.{Says}
use Rattle.bs_verilog_syntax.specs.declared.tree.Module.{Module}
use Rattle.bs_verilog_syntax.specs.declared.tree.Component.{Component}
use Rattle.bs_verilog_syntax.specs.declared.tree.Declared.{Declared}
use Rattle.bs_verilog_syntax.specs.declared.tree.Direction.TheVariants as directions
use Rattle.bs_verilog_syntax.specs.declared.tree.Direction as code
use Rattle.bs_verilog_syntax.specs.declared.tree.Net as code_net
use Rattle.bs_verilog_syntax.specs.declared.tree.Net.TheVariants.{Supply0, Supply1}
use Rattle.bs_verilog_scope.specs.declared.numbering.Known.{Known}
use Rattle.bs_verilog.specs.declared.building.Built.{Built}
use Rattle.bs_verilog_syntax.specs.declared.fault.VerilogFault.{VerilogFault}
use Rattle.bs_verilog_syntax.specs.declared.fault.VerilogFault.TheVariants.{Syntax}
use Rattle.bs_lex.specs.Packed.{Lexeme}
use Rattle.bs_lex.specs.Lexemes.{lexemes_of, names_of}
use Rattle.bs_bits.specs.Reading.{◌>>=◌}
use Rattle.bs_verilog_syntax.specs.Modules.{syntax_of}
use Rattle.bs_verilog_scope.specs.Keys.{keys, text}
use Rattle.bs_verilog_scope.specs.Declaring.{said, direction_of, declaring_fault, known, known_nets, keys_of}
use Rattle.bs_verilog_scope.specs.Nets.{numbered, nets_of}
use Rattle.bs_verilog.specs.Building.{with_parts}

-- the direction is this one
abbrev pub is_towards : code.Direction → Option code.Direction → Bool
is_towards directions.Input (Some directions.Input) = true
is_towards directions.Output (Some directions.Output) = true
is_towards _ _ = false

-- the bits of a port, where it has this direction
unfoldable pub port_bits : code.Direction → List (List ℕ) → (ℕ → Option Says) → List (List ℕ) → Name → List NetId
port_bits direction table scope names n =
    if is_towards direction (direction_of (scope n.id)) then nets_of names (keys_of table (known scope n)) else []

-- the port bits of one direction, in header order
abbrev pub port_nets : code.Direction → List (List ℕ) → (ℕ → Option Says) → List (List ℕ) → List Name → List NetId
port_nets direction table scope names header = flat_map (port_bits direction table scope names) header

-- the bit that a supply shows
abbrev pub supplied : Option code_net.Net → Option Bool
supplied (Some Supply0) = Some false
supplied (Some Supply1) = Some true
supplied _ = None

abbrev pub consts_of : Bool → List NetId → List Const
consts_of b nets = map (λ net. record { net = net; value = b }) nets

-- the constants that a declared name is, if it is a supply
unfoldable pub supply_consts : List (List ℕ) → List (List ℕ) → Declared → List Const
supply_consts table names d =
    elim (supplied d.says.net) [
      | Some b ↦ consts_of b (nets_of names (keys (text table d.name) d.says.range))
      | None ↦ []
    ]

-- the parts of what is built, with the port bits
abbrev pub parts_with : Built → List NetId → List NetId → Parts
parts_with b inputs outputs =
    record { names = b.made.names; inputs = inputs; outputs = outputs; consts = b.made.consts; gates = b.gates; flops = b.flops }

-- what stands before the first part: the declared nets and the supplies
abbrev pub start_of : List (List ℕ) → Module → Built
start_of table m =
    let names = numbered table (known_nets m) in
    record { made = record { names = names; consts = flat_map (supply_consts table names) m.declared }; gates = []; flops = [] }

-- what parts build in file order after what stands before them, with the ports by the names that stand before
abbrev pub finished_of : List (List ℕ) → (ℕ → Option Says) → List Name → List Component → Built → Result Parts VerilogFault
finished_of table scope header parts start =
    with_parts table scope start parts >>= λ b.
    Ok (parts_with b (port_nets directions.Input table scope start.made.names header) (port_nets directions.Output table scope start.made.names header))

-- what a module builds whose declarations are in order
unfoldable pub built_of : List (List ℕ) → Module → Result Parts VerilogFault
built_of table m = finished_of table (said m.declared) m.header m.parts (start_of table m)

-- the third pass, and the fourth
unfoldable pub meaning_of : List (List ℕ) → Module → Result Parts VerilogFault
meaning_of table m = elim (declaring_fault table m) [ Some fault ↦ Err fault | None ↦ built_of table m ]

-- the lexer's fault is a fault of syntax
abbrev pub tokenised : List ℕ → Result (List Token) VerilogFault
tokenised source = elim (tokens_of source) [ Ok tokens ↦ Ok tokens | Err at ↦ Err (Syntax at) ]

-- the lexemes of a text and its names
abbrev pub lexed_text : List ℕ → Result (List Lexeme × List (List ℕ)) VerilogFault
lexed_text source = tokenised source >>= λ tokens. Ok (lexemes_of source tokens, names_of source tokens)

-- the module of a text as written, and the text's names
abbrev pub module_text : List ℕ → Result (Module × List (List ℕ)) VerilogFault
module_text source = lexed_text source >>= λ x. syntax_of x.0 >>= λ m. Ok (m, x.1)

-- the netlist that a text is
unfoldable pub netlist_text : List ℕ → Result Parts VerilogFault
netlist_text source = do
  tokens ← tokenised source
  m ← syntax_of (lexemes_of source tokens)
  meaning_of (names_of source tokens) m
