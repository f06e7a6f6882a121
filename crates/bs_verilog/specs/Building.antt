-- The fourth pass: the nets of terms, and what is built.
use Rattle.std.specs.Prelude.{ℕ, ◌-◌, Bool, true, false, not, ◌&&◌, ◌==◌, nat_le, if◌then◌else◌, List, [], ◌∷◌, ◌++◌, length, map, take, drop, Option}
use Rattle.std.specs.Prelude.{Some, None, is_some, unwrap_or, Result, Ok, Err, slice_index_or}
use Rattle.bs_net.specs.declared.limits.TheConstants.{MAX_NETS}
use Rattle.bs_net.specs.declared.net.NetId.{NetId}
use Rattle.bs_net.specs.declared.net.Gate.{Gate}
use Rattle.bs_net.specs.declared.net.Flop.{Flop}
use Rattle.bs_net.specs.declared.net.Mode.{Mode}
use Rattle.bs_net.specs.declared.net.Mode.TheVariants as modes
use Rattle.bs_net.specs.declared.gate.Kind.{Kind}
use Rattle.bs_net.specs.declared.gate.Kind.TheVariants.{Buf}
use Rattle.bs_net.specs.Names.{with_key, number_of}
use Rattle.bs_lex.specs.declared.lexeme.Cell.{Cell}
use Rattle.bs_lex.specs.declared.lexeme.Name.{Name}
use Rattle.bs_verilog_syntax.specs.declared.tree.Range.{Range}
use Rattle.bs_verilog_syntax.specs.declared.tree.Says.{Says}
use Rattle.bs_verilog_syntax.specs.declared.tree.Term.{Term}
use Rattle.bs_verilog_syntax.specs.declared.tree.Term.TheVariants.{Constant, Named}
use Rattle.bs_verilog_syntax.specs.declared.tree.Connection.{Connection}
use Rattle.bs_verilog_syntax.specs.declared.tree.Component.{Component}
use Rattle.bs_verilog_syntax.specs.declared.tree.Shape.TheVariants as shapes
use Rattle.bs_verilog.specs.declared.pins.Control.{Control}
use Rattle.bs_verilog.specs.declared.pins.Control.TheVariants as controls
use Rattle.bs_verilog.specs.declared.pins.Pins.{Pins}
use Rattle.bs_verilog.specs.declared.placing.NetTable.{NetTable}
use Rattle.bs_verilog.specs.declared.building.Built.{Built}
use Rattle.bs_verilog_syntax.specs.declared.fault.What.TheVariants as what
use Rattle.bs_verilog_syntax.specs.declared.fault.VerilogFault.{VerilogFault}
use Rattle.bs_verilog_syntax.specs.declared.fault.VerilogFault.TheVariants.{TooManyNets, Terminals, Index, Unsupported}
use Rattle.bs_bits.specs.Reading.{◌>>=◌}
use Rattle.bs_verilog_scope.specs.Keys.{text, scalar_key, bit_key, constant_key, has_index}
use Rattle.bs_verilog_scope.specs.Nets.{net_of}
use Rattle.bs_verilog.specs.Cells.{starts_as_one}
use Rattle.bs_verilog.specs.Terminals.{term_of, is_single, is_gate, is_assignment, cell_pins}

-- one after another, up to the first fault
unfoldable pub each : {A B : Type 0} → (B → A → Result B VerilogFault) → B → List A → Result B VerilogFault
each step b [] = Ok b
each step b (x ∷ xs) = step b x >>= λ more. each step more xs

-- The nets of terms.

abbrev pub has_key : List (List ℕ) → List ℕ → Bool
has_key names key = is_some (number_of names key)

-- a key that is new would be one net too many
abbrev pub is_full : List (List ℕ) → List ℕ → Bool
is_full names key = not (has_key names key) && nat_le MAX_NETS (length names)

-- the net of a term, and what is made with it
abbrev pub Placed : Type 0
Placed = Result (NetId × NetTable) VerilogFault

-- a name that nothing declares is a wire of one bit, which takes the next number at its first use
unfoldable pub implicit_net : List ℕ → Name → Option ℕ → NetTable → Placed
implicit_net key n index made =
    if is_full made.names key then Err (TooManyNets n.at)
    else if is_some index then Err (Index n.at)
    else (let names = with_key made.names key in Ok (net_of names key, record { names = names; consts = made.consts }))

-- the key of the bit of a declared name for which a term stands
unfoldable pub declared_key : List ℕ → Option Range → Name → Option ℕ → Result (List ℕ) VerilogFault
declared_key name None n None = Ok (scalar_key name)
declared_key name None n (Some i) = Err (Index n.at)
declared_key name (Some r) n (Some i) = if has_index r i then Ok (bit_key name i) else Err (Index n.at)
declared_key name (Some r) n None = if r.left == r.right then Ok (bit_key name r.left) else Err (Unsupported n.at what.Width)

-- a constant takes the next number at its first use
unfoldable pub constant_net : ℕ → Bool → NetTable → Placed
constant_net at b made =
    let key = constant_key b in
    if is_full made.names key then Err (TooManyNets at)
    else if has_key made.names key then Ok (net_of made.names key, made)
    else (
    let names = with_key made.names key in
    let net = net_of names key in
    Ok (net, record { names = names; consts = made.consts ++ record { net = net; value = b } ∷ [] }))

-- the net of a name with this text, of which the scope may say something
unfoldable pub named_net : List ℕ → Option Says → Name → Option ℕ → NetTable → Placed
named_net name (Some s) n index made = declared_key name s.range n index >>= λ key. Ok (net_of made.names key, made)
named_net name None n index made = implicit_net (scalar_key name) n index made

unfoldable pub term_net : List (List ℕ) → (ℕ → Option Says) → Term → NetTable → Placed
term_net table scope (Constant at b) made = constant_net at b made
term_net table scope (Named n index) made = named_net (text table n) (scope n.id) n index made

-- the nets so far, and the net of one connection more, where it has a term
unfoldable pub with_connection : List (List ℕ) → (ℕ → Option Says) → List NetId × NetTable → Connection → Result (List NetId × NetTable) VerilogFault
with_connection table scope before c =
    elim (term_of c) [
      | Some t ↦ term_net table scope t before.1 >>= λ placed. Ok (before.0 ++ placed.0 ∷ [], placed.1)
      | None ↦ Ok before
    ]

-- the nets of connections, from left to right
abbrev pub connection_nets : List (List ℕ) → (ℕ → Option Says) → List Connection → NetTable → Result (List NetId × NetTable) VerilogFault
connection_nets table scope cs made = each (with_connection table scope) ([], made) cs

-- What is built.

abbrev pub no_net : NetId
no_net = record { 0 = 0 }

abbrev pub net_at : List NetId → ℕ → NetId
net_at nets i = slice_index_or nets i no_net

-- the gates of a gate's nets: one per output where the kind has one input
unfoldable pub gates_of : Kind → List NetId → List Gate
gates_of kind nets =
    if is_single kind
    then map (λ out. record { kind = kind; out = out; ins = net_at nets (length nets - 1) ∷ [] }) (take (length nets - 1) nets)
    else record { kind = kind; out = net_at nets 0; ins = drop 1 nets } ∷ []

-- what the flip-flop of a cell with these nets loads
abbrev pub mode_of : Control → List NetId → Mode
mode_of controls.Plain nets = modes.Plain
mode_of (controls.Enable place) nets = modes.Enable (net_at nets place)
mode_of (controls.Clear place) nets = modes.Clear (net_at nets place)

abbrev pub flop_of : Cell → Pins → List NetId → Flop
flop_of cell pins nets =
    record {
      q = net_at nets pins.output;
      d = net_at nets pins.input;
      ck = net_at nets pins.clock;
      reset = starts_as_one cell;
      mode = mode_of pins.control nets;
    }

abbrev pub with_gates : List (List ℕ) → (ℕ → Option Says) → Kind → Built → List Connection → Result Built VerilogFault
with_gates table scope kind b cs =
    connection_nets table scope cs b.made >>= λ placed.
    Ok (record { made = placed.1; gates = b.gates ++ gates_of kind placed.0; flops = b.flops })

abbrev pub with_flop : List (List ℕ) → (ℕ → Option Says) → Cell → Pins → Built → List Connection → Result Built VerilogFault
with_flop table scope cell pins b cs =
    connection_nets table scope cs b.made >>= λ placed.
    Ok (record { made = placed.1; gates = b.gates; flops = b.flops ++ flop_of cell pins placed.0 ∷ [] })

-- one part more, or its fault: terminals first, then its terms from left to right
unfoldable pub with_part : List (List ℕ) → (ℕ → Option Says) → Built → Component → Result Built VerilogFault
with_part table scope b p =
    elim p.shape [
      | shapes.Gate kind ↦ if is_gate kind p.connections then with_gates table scope kind b p.connections else Err (Terminals p.at)
      | shapes.Cell cell ↦
          elim (cell_pins table cell p.connections) [
            | Some pins ↦ with_flop table scope cell pins b p.connections
            | None ↦ Err (Terminals p.at)
          ]
      | shapes.Assign ↦ if is_assignment p.connections then with_gates table scope Buf b p.connections else Err (Terminals p.at)
    ]

-- the parts in file order
abbrev pub with_parts : List (List ℕ) → (ℕ → Option Says) → Built → List Component → Result Built VerilogFault
with_parts table scope b parts = each (with_part table scope) b parts
