-- Ports and connections: the joined bits of an instance, or the first connection that does not go with its port.
use Rattle.std.specs.Prelude.{ℕ, ◌+◌, Bool, true, false, not, ◌&&◌, ◌||◌, ◌==◌, if◌then◌else◌, List, [], ◌∷◌, ◌++◌, length, find, Option, Some, None}
use Rattle.std.specs.Prelude.{is_some, unwrap_or}
use Rattle.std.specs.List.{flat_map, list_any}
use Rattle.bs_net.specs.Parts.{Parts}
use Rattle.bs_net.specs.Names.{with_key}
use Rattle.bs_lex.specs.declared.lexeme.Name.{Name}
use Rattle.bs_verilog_syntax.specs.declared.tree.Says.{Says}
use Rattle.bs_verilog_syntax.specs.declared.tree.Range.{Range}
use Rattle.bs_verilog_syntax.specs.declared.tree.Module as code
use Rattle.bs_verilog_syntax.specs.declared.tree.Term.{Term}
use Rattle.bs_verilog_syntax.specs.declared.tree.Term.TheVariants.{Constant, Named}
use Rattle.bs_verilog_syntax.specs.declared.tree.Connection.{Connection}
use Rattle.bs_verilog_syntax.specs.declared.tree.Connection.TheVariants.{Empty, Place, Pin}
use Rattle.bs_verilog_syntax.specs.declared.tree.Direction.TheVariants as directions
use Rattle.bs_verilog_scope.specs.Keys.{text, scalar_key, bit_key, constant_key, has_index, keys}
use Rattle.bs_verilog_scope.specs.Declaring.{said, direction_of, known, keys_of}
use Rattle.bs_verilog_scope.specs.Nets.{net_of}
use Rattle.bs_verilog.specs.Building.{has_key}
use Rattle.bs_verilog.specs.Netlist.{is_towards}
use Rattle.bs_flat_meaning.specs.Design.{Join}
use Rattle.bs_flat_meaning.specs.declared.statements.Written.{Written}

-- a module as it was read: what it says, its own parts, and its instances as they are written
pub record ReadModule : Type 0 where
  pub says : code.Module
  pub own : Parts
  pub written : List Written

-- ---- the nets of a term

-- the key of a vector's bit, if it has that bit
abbrev pub indexed_keys : List ℕ → Option Range → ℕ → Option (List (List ℕ))
indexed_keys name None i = None
indexed_keys name (Some r) i = if has_index r i then Some (bit_key name i ∷ []) else None

-- the keys of a declared name: whole, or of one bit
abbrev pub declared_keys : List ℕ → Option Range → Option ℕ → Option (List (List ℕ))
declared_keys name range None = Some (keys name range)
declared_keys name range (Some i) = indexed_keys name range i

-- the key of a name that is not declared, which has one bit and no index
abbrev pub undeclared_keys : List ℕ → Option ℕ → Option (List (List ℕ))
undeclared_keys name None = Some (scalar_key name ∷ [])
undeclared_keys name (Some i) = None

-- the keys of the bits for which a term stands, from left to right; none where its index names no bit
unfoldable pub term_keys : List (List ℕ) → (ℕ → Option Says) → Term → Option (List (List ℕ))
term_keys table scope (Constant place b) = Some (constant_key b ∷ [])
term_keys table scope (Named n index) =
    elim (scope n.id) as (λ _. Option (List (List ℕ))) [
      | None ↦ undeclared_keys (text table n) index
      | Some s ↦ declared_keys (text table n) s.range index
    ]

-- where a term begins
abbrev pub term_place : Term → ℕ
term_place (Constant place b) = place
term_place (Named n index) = n.at

-- whether a term is a constant
abbrev pub is_constant_term : Term → Bool
is_constant_term (Constant place b) = true
is_constant_term _ = false

-- ---- ports

abbrev pub scope_of : ReadModule → ℕ → Option Says
scope_of m = said m.says.declared

-- a port of a module: its name, and its bits, which are the first nets of the module
pub record Port : Type 0 where
  pub name : Name
  pub first : ℕ
  pub width : ℕ

abbrev pub width_of : List (List ℕ) → ReadModule → Name → ℕ
width_of table m n = length (keys_of table (known (scope_of m) n))

-- the ports of a header in order, each with its bits behind those before it
unfoldable pub ports_from : (Name → ℕ) → ℕ → List Name → List Port
ports_from width first [] = []
ports_from width first (n ∷ ns) = record { name = n; first = first; width = width n } ∷ ports_from width (first + width n) ns

abbrev pub ports_of : List (List ℕ) → ReadModule → List Port
ports_of table m = ports_from (width_of table m) 0 m.says.header

-- ---- the connections of an instance, each with its port

-- a connection: its pin, if it has one, whether that stands before, its term, if it has one, and its port, if there is one
pub record Connected : Type 0 where
  pub pin : Option Name
  pub is_second : Bool
  pub term : Option Term
  pub port : Option Port

abbrev pub term_by_place : Connection → Option Term
term_by_place (Place t) = Some t
term_by_place _ = None

-- the connections with the ports in order
unfoldable pub by_places : List Port → List Connection → List Connected
by_places ports [] = []
by_places [] (c ∷ cs) = record { pin = None; is_second = false; term = term_by_place c; port = None } ∷ by_places [] cs
by_places (p ∷ ps) (c ∷ cs) = record { pin = None; is_second = false; term = term_by_place c; port = Some p } ∷ by_places ps cs

abbrev pub is_id : ℕ → Name → Bool
is_id id n = n.id == id

-- the connections by pin; `given` are the pins before
unfoldable pub by_pins : List Port → List Name → List Connection → List Connected
by_pins ports given [] = []
by_pins ports given (Pin n t ∷ cs) =
    record { pin = Some n; is_second = list_any (is_id n.id) given; term = t; port = find (λ p. is_id n.id p.name) ports }
    ∷ by_pins ports (n ∷ given) cs
by_pins ports given (Empty ∷ cs) = by_pins ports given cs
by_pins ports given (Place t ∷ cs) = by_pins ports given cs

abbrev pub has_pins : List Connection → Bool
has_pins (Pin n t ∷ cs) = true
has_pins _ = false

abbrev pub connected : List Port → List Connection → List Connected
connected ports cs = if has_pins cs then by_pins ports [] cs else by_places ports cs

-- ---- refusals

-- a term goes with its port: its bits are there, as many as the port has, and it is no constant on an output
unfoldable pub goes : List (List ℕ) → ReadModule → ReadModule → Port → Term → Bool
goes table m below port t =
    elim (term_keys table (scope_of m) t) as (λ _. Bool) [
      | None ↦ false
      | Some ks ↦ length ks == port.width && not (is_constant_term t && is_towards directions.Output (direction_of (scope_of below port.name.id)))
    ]

-- the place of a term that does not go with its port
abbrev pub term_fault : List (List ℕ) → ReadModule → ReadModule → Option Port → Option Term → Option ℕ
term_fault table m below port None = None
term_fault table m below None (Some t) = Some (term_place t)
term_fault table m below (Some p) (Some t) = if goes table m below p t then None else Some (term_place t)

-- the place of a connection that does not go with its port
abbrev pub pin_fault : List (List ℕ) → ReadModule → ReadModule → Connected → Option Name → Option ℕ
pin_fault table m below c (Some n) =
    if not (is_some c.port) || c.is_second then Some n.at else term_fault table m below c.port c.term
pin_fault table m below c None = term_fault table m below c.port c.term

abbrev pub connected_fault : List (List ℕ) → ReadModule → ReadModule → Connected → Option ℕ
connected_fault table m below c = pin_fault table m below c c.pin

-- ---- what instances add to the nets of their module

-- one key more; a constant that is new is added to the constants
abbrev pub with_net : Parts → List ℕ → Parts
with_net parts key = record parts { names = with_key parts.names key }

unfoldable pub with_term : List (List ℕ) → (ℕ → Option Says) → Parts → Term → Parts
with_term table scope parts (Constant place b) =
    if has_key parts.names (constant_key b) then parts
    else record parts {
      names = with_key parts.names (constant_key b);
      consts =
          parts.consts ++ record { net = record { 0 = length parts.names }; value = b } ∷ [];
    }
with_term table scope parts (Named n index) = elim (scope n.id) as (λ _. Parts) [ Some s ↦ parts | None ↦ with_net parts (scalar_key (text table n)) ]

unfoldable pub with_terms : List (List ℕ) → (ℕ → Option Says) → Parts → List Term → Parts
with_terms table scope parts [] = parts
with_terms table scope parts (t ∷ ts) = with_terms table scope (with_term table scope parts t) ts

abbrev pub terms_of : List Connection → List Term
terms_of cs = flat_map (λ c. elim c as (λ _. List Term) [
  | Empty ↦ []
  | Place t ↦ t ∷ []
  | Pin n t ↦ elim t as
      (λ _. List Term) [ Some u ↦ u ∷ [] | None ↦ [] ]
]) cs

-- a module's own parts with the nets of its connections behind the others
unfoldable pub whole_parts : List (List ℕ) → ReadModule → Parts
whole_parts table m = with_terms table (scope_of m) m.own (flat_map (λ w. terms_of w.connections) m.written)

-- ---- the joined bits

-- nets of a module with the nets of a port from its first bit on
unfoldable pub joins_from : List (List ℕ) → ℕ → List (List ℕ) → List Join
joins_from names first [] = []
joins_from names first (k ∷ ks) = record { outer = net_of names k; inner = record { 0 = first } } ∷ joins_from names (first + 1) ks

-- the keys of the bits of a term that may be missing
abbrev pub keys_for : List (List ℕ) → ReadModule → Option Term → List (List ℕ)
keys_for table m None = []
keys_for table m (Some t) = unwrap_or (term_keys table (scope_of m) t) []

abbrev pub joins_with : List (List ℕ) → Option Port → List (List ℕ) → List Join
joins_with names (Some p) ks = joins_from names p.first ks
joins_with names None ks = []

-- the bits that a connection joins, from left to right
abbrev pub joins_of : List (List ℕ) → ReadModule → Connected → List Join
joins_of table m c = joins_with (whole_parts table m).names c.port (keys_for table m c.term)
