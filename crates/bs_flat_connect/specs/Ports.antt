-- The ports of a module, as code has them.
use Rattle.std.specs.Prelude.{◌≡◌, ℕ, ◌+◌, List, [], ◌∷◌, map, Option}
use Rattle.bs_lex.specs.declared.lexeme.Name.{Name}
use Rattle.bs_verilog_syntax.specs.declared.tree.Says.{Says}
use Rattle.bs_verilog_syntax.specs.declared.tree.Direction.TheVariants as directions
use Rattle.bs_verilog_scope.specs.Declaring.{direction_of, known}
use Rattle.bs_verilog.specs.Netlist.{is_towards}
use Rattle.bs_flat_meaning.specs.declared.statements.Written.{Written}
use Rattle.bs_flat_meaning.specs.Connecting.{ReadModule, scope_of, ports_of}
use Rattle.bs_flat_meaning.specs.Connecting as flat
use Rattle.bs_flat_modules.specs.declared.owns.Own.{Own}
use Rattle.bs_flat_connect.specs.declared.ports.Port.{Port}
use Rattle.bs_flat_connect.specs.declared.ports.Ports.{Ports}
use Rattle.bs_flat_connect.specs.Wiring.{bit_count, read_of}

-- a port with its direction
abbrev pub port_in : ReadModule → flat.Port → Port
port_in m p =
    record { first = p.first; width = p.width; is_output = is_towards directions.Output (direction_of (scope_of m p.name.id)) }

-- the ports of a module, and the numbers of their names, whatever its instances are
pub record ArePortsOf (own : Own) (p : Ports) : Type 0 where
  pub ids : (table : List (List ℕ)) (ws : List Written) → p.ids.keys ≡ map (λ q. q.name.id) (ports_of table (read_of own ws))
  pub ports : (table : List (List ℕ)) (ws : List Written) → p.ports ≡ map (port_in (read_of own ws)) (ports_of table (read_of own ws))

-- the port of a name, whose bits begin here
abbrev pub port_from : (ℕ → Option Says) → ℕ → Name → Port
port_from scope first n =
    record {
      first = first;
      width = bit_count (known scope n).range;
      is_output = is_towards directions.Output (direction_of (scope n.id));
    }

-- the ports of a header, each with its bits behind those before it
unfoldable pub ports_in : (ℕ → Option Says) → ℕ → List Name → List Port
ports_in scope first [] = []
ports_in scope first (n ∷ ns) = port_from scope first n ∷ ports_in scope (first + bit_count (known scope n).range) ns
