-- The connections of an instance, each with its port as code has it.
use Rattle.std.specs.Prelude.{◌≡◌, ℕ, ◌+◌, Bool, true, false, not, ◌||◌, ◌==◌, if◌then◌else◌, List, [], ◌∷◌, ◌++◌, map}
use Rattle.std.specs.Prelude.{Option, Some, None, is_some, option_map, option_and_then, position, slice_get}
use Rattle.bs_lex.specs.declared.lexeme.Name.{Name}
use Rattle.bs_verilog_syntax.specs.declared.tree.Term.{Term}
use Rattle.bs_verilog_syntax.specs.declared.tree.Connection.{Connection}
use Rattle.bs_verilog_syntax.specs.declared.tree.Connection.TheVariants.{Empty, Place, Pin}
use Rattle.bs_flat_meaning.specs.Connecting as flat
use Rattle.bs_flat_connect.specs.Ports.{port_in}
use Rattle.bs_flat_connect.specs.declared.ports.Port.{Port}
use Rattle.bs_flat_connect.specs.declared.ports.Ports.{Ports}
use Rattle.bs_flat_connect.specs.declared.matching.Matched.{Matched}

-- the place of a pin that has no port, or stands before
abbrev pub refused_pin : Name → Bool → Bool → Option ℕ
refused_pin n has_port is_second = if not has_port || is_second then Some n.at else None

abbrev pub refused : Option Name → Bool → Bool → Option ℕ
refused (Some n) has_port is_second = refused_pin n has_port is_second
refused None has_port is_second = None

-- a connection with its port as code has it
abbrev pub matched_of : flat.ReadModule → flat.Connected → Matched
matched_of below c =
    record { refused = refused c.pin (is_some c.port) c.is_second; term = c.term; port = option_map (port_in below) c.port }

-- ---- by place

abbrev pub term_by_place : Connection → Option Term
term_by_place c = flat.term_by_place c

abbrev pub by_place : Option Port → Connection → Matched
by_place port c = record { refused = None; term = flat.term_by_place c; port = port }

-- connections by place, from the port at a place on
unfoldable pub places_from : List Port → ℕ → List Connection → List Matched
places_from ports k [] = []
places_from ports k (c ∷ cs) = by_place (slice_get ports k) c ∷ places_from ports (k + 1) cs

-- ---- by pin

-- the port with a name
abbrev pub port_with : List ℕ → List Port → ℕ → Option Port
port_with ids ports id = option_and_then (slice_get ports) (position (λ k. k == id) ids)

abbrev pub by_pin : List ℕ → List Port → Bool → Name → Option Term → Matched
by_pin ids ports is_second n t =
    record { refused = refused_pin n (is_some (port_with ids ports n.id)) is_second; term = t; port = port_with ids ports n.id }

-- a name is that of a pin, or of one before
abbrev pub with_pin : ℕ → (ℕ → Bool) → ℕ → Bool
with_pin pin given id = pin == id || given id

-- what a connection adds to those by pin
abbrev pub pin_of : List ℕ → List Port → (ℕ → Bool) → Connection → List Matched
pin_of ids ports given (Pin n t) = by_pin ids ports (given n.id) n t ∷ []
pin_of ids ports given Empty = []
pin_of ids ports given (Place t) = []

-- the names of pins after one connection more
abbrev pub given_with : (ℕ → Bool) → Connection → ℕ → Bool
given_with given (Pin n t) = with_pin n.id given
given_with given Empty = given
given_with given (Place t) = given

-- connections by pin, behind pins with these names
unfoldable pub pins_from : List ℕ → List Port → (ℕ → Bool) → List Connection → List Matched
pins_from ids ports given [] = []
pins_from ids ports given (c ∷ cs) = pin_of ids ports given c ++ pins_from ids ports (given_with given c) cs

-- ---- all

abbrev pub is_pin : Connection → Bool
is_pin (Pin n t) = true
is_pin Empty = false
is_pin (Place t) = false

abbrev pub has_pins : List Connection → Bool
has_pins cs = flat.has_pins cs

-- the ports are those of a module
pub record ArePortsIn (table : List (List ℕ)) (below : flat.ReadModule) (p : Ports) : Type 0 where
  pub ids : p.ids.keys ≡ map (λ q. q.name.id) (flat.ports_of table below)
  pub ports : p.ports ≡ map (port_in below) (flat.ports_of table below)

-- the connections of an instance of a module with these ports, each with its port
pub record AreMatched (p : Ports) (cs : List Connection) (all : List Matched) : Type 0 where
  pub is : (table : List (List ℕ)) (below : flat.ReadModule) → ArePortsIn table below p →
      all ≡ map (matched_of below) (flat.connected (flat.ports_of table below) cs)
