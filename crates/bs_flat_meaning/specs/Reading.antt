-- The flat parts of a text, or its first refusal.
use Rattle.std.specs.Prelude.{◌≡◌, ℕ, ◌+◌, ◌-◌, Bool, true, false, nat_lt, if◌then◌else◌, List, [], ◌∷◌, length, map, sum, zip, All}
use Rattle.std.specs.Prelude.{◌<◌, ◌≤◌}
use Rattle.std.specs.Prelude.{◌==◌, unwrap_or, slice_index_or, Option, Some, None, Result, Ok, Err}
use Rattle.std.specs.List.{flat_map, list_any, sum_by, position_or_len}
use Rattle.std.specs.Str.{bytes_eq}
use Rattle.std.specs.Bool.{nat_eq}
use Rattle.bs_net.specs.Parts.{Parts}
use Rattle.bs_lex.specs.declared.token.Token.{Token}
use Rattle.bs_lex.specs.declared.lexeme.Name.{Name}
use Rattle.bs_verilog_syntax.specs.declared.tree.Module as code
use Rattle.bs_verilog_syntax.specs.declared.fault.VerilogFault.{VerilogFault}
use Rattle.bs_lex.specs.Lexemes.{lexemes_of, names_of}
use Rattle.bs_verilog_syntax.specs.Reading.{Rest, at}
use Rattle.bs_verilog_syntax.specs.Modules.{syntax_of}
use Rattle.bs_verilog.specs.Netlist.{meaning_of, netlist_text, tokenised}
use Rattle.bs_flat_meaning.specs.declared.fault.FlatFault.{FlatFault}
use Rattle.bs_flat_meaning.specs.declared.fault.FlatFault.TheVariants.{Verilog, Twice, OwnNets, Recursion, Tops, Connect, FlatDepth, FlatParts, FlatNets, FlatKeys, NameClash, FlatTerminals}
use Rattle.bs_net.specs.declared.limits.TheConstants.{MAX_NETS}
use Rattle.bs_flat_meaning.specs.declared.limits.TheConstants.{MAX_DEPTH, MAX_OWN_NETS, MAX_PARTS, MAX_TERMINALS, MAX_KEY_BYTES}
use Rattle.bs_flat_meaning.specs.Design.{Design, Module, Instance, own, paths_from, paths, constants, gates, flops}
use Rattle.bs_verilog_scope.specs.Keys.{text}
use Rattle.bs_verilog_syntax.specs.declared.tree.Says.{Says}
use Rattle.bs_flat_meaning.specs.Flat.{flat_parts, HasNets, IsDesign}
use Rattle.bs_flat_meaning.specs.Pieces.{Piece, modules_of, name_id, own_text, statements_of}
use Rattle.bs_flat_meaning.specs.declared.statements.Written.{Written}
use Rattle.bs_flat_meaning.specs.Instancing.{instancing}
use Rattle.bs_flat_meaning.specs.Rings as rings
use Rattle.bs_flat_meaning.specs.Connecting.{ReadModule, Connected, connected, ports_of, scope_of, connected_fault, joins_of, whole_parts}

-- go on with the value; a fault stays
infixl 10 ◌then◌
abbrev pub ◌then◌ : {A B : Type 0} → Result A FlatFault → (A → Result B FlatFault) → Result B FlatFault
(Ok x) then f = f x
(Err e) then f = Err e

abbrev pub as_verilog : {A : Type 0} → Result A VerilogFault → Result A FlatFault
as_verilog (Ok x) = Ok x
as_verilog (Err e) = Err (Verilog e)

-- one after another, up to the first fault
unfoldable pub all_of : {A B : Type 0} → (A → Result B FlatFault) → List A → Result (List B) FlatFault
all_of f [] = Ok []
all_of f (x ∷ xs) = f x then (λ y. all_of f xs then (λ ys. Ok (y ∷ ys)))

-- with more nets than there is room for, the module at this place is refused
abbrev pub fitting : {A : Type 0} → Bool → ℕ → Result A FlatFault → Result A FlatFault
fitting true place later = Err (OwnNets place)
fitting false place later = later

-- own texts one after another, up to the first fault, or the first by which the nets of all pass the room
unfoldable pub owns_within : {A : Type 0} → (A → ℕ) → (A → Result (code.Module × Parts) FlatFault) → ℕ → List A →
    Result (List (code.Module × Parts)) FlatFault
owns_within place f room [] = Ok []
owns_within place f room (x ∷ xs) =
    f x then (λ own.
    fitting (nat_lt room (length own.1.names)) (place x) (owns_within place f (room - length own.1.names) xs then (λ owns. Ok (own ∷ owns))))

-- ---- module by module

abbrev pub is_id : ℕ → Option ℕ → Bool
is_id id (Some n) = n == id
is_id id None = false

-- the `module` of the first module that has an earlier one's name
unfoldable pub second_module : List (Option ℕ) → List Piece → Option ℕ
second_module before [] = None
second_module before (p ∷ ps) =
    elim (name_id p) as (λ _. Option ℕ) [
      | Some id ↦ if list_any (is_id id) before then Some (at p.body) else second_module (Some id ∷ before) ps
      | None ↦ second_module before ps
    ]

abbrev pub no_fault : (ℕ → FlatFault) → Option ℕ → Result (List ℕ) FlatFault
no_fault f (Some place) = Err (f place)
no_fault f None = Ok []

-- what a module's own text says, and the parts that it builds
abbrev pub read_own : List (List ℕ) → Rest → Piece → Result (code.Module × Parts) FlatFault
read_own table ts p =
    as_verilog (syntax_of (own_text ts p)) then (λ m. as_verilog (meaning_of table m) then (λ parts. Ok (m, parts)))

-- the instances of a module as they are written
abbrev pub read_written : List Piece → Piece → Result (List Written) FlatFault
read_written ms p = all_of (λ s. as_verilog (instancing s)) (statements_of ms p) then (λ all. Ok (flat_map (λ r. r.0) all))

-- the first second instance name of a module
unfoldable pub second_instance : List ℕ → List Written → Option ℕ
second_instance before [] = None
second_instance before (w ∷ ws) = if list_any (nat_eq w.name.id) before then Some w.name.at else second_instance (w.name.id ∷ before) ws

-- the first that is there
unfoldable pub first_of : List (Option ℕ) → Option ℕ
first_of [] = None
first_of (o ∷ os) = elim o as (λ _. Option ℕ) [ Some n ↦ Some n | None ↦ first_of os ]

-- a module with its own parts and its instances
abbrev pub gathered : (code.Module × Parts) × List Written → ReadModule
gathered k = record { says = k.0.0; own = k.0.1; written = k.1 }

-- the modules of a text, read one by one; the refusals up to the second instance name
unfoldable pub read_modules : List (List ℕ) → Rest → Result (List ReadModule) FlatFault
read_modules table ts =
    let ms = modules_of ts in
    no_fault Twice (second_module [] ms) then (λ _.
    owns_within (λ p. at p.body) (read_own table ts) MAX_OWN_NETS ms then (λ owns.
    all_of (read_written ms) ms then (λ written.
    no_fault Twice (first_of (map (second_instance []) written)) then (λ _.
    Ok (map gathered (zip owns written))))))

-- ---- the design

-- the place of a module among all, by the number of its name
abbrev pub place_in : List Piece → ℕ → ℕ
place_in ms id = position_or_len (λ p. is_id id (name_id p)) ms

abbrev pub no_read_module : ReadModule
no_read_module =
    record {
      says = record { header = []; declared = []; parts = [] };
      own = record { names = []; inputs = []; outputs = []; consts = []; gates = []; flops = [] };
      written = [];
    }

abbrev pub read_at : List Piece → List ReadModule → Name → ReadModule
read_at ms ks of = slice_index_or ks (place_in ms of.id) no_read_module

-- the connections of an instance with their ports
abbrev pub connections_of : List (List ℕ) → List Piece → List ReadModule → Written → List Connected
connections_of table ms ks w = connected (ports_of table (read_at ms ks w.of)) w.connections

abbrev pub instance_of : List (List ℕ) → List Piece → List ReadModule → ReadModule → Written → Instance
instance_of table ms ks m w =
    record {
      name = text table w.name;
      of = place_in ms w.of.id;
      joins = flat_map (joins_of table m) (connections_of table ms ks w);
    }

abbrev pub module_from : List (List ℕ) → List Piece → List ReadModule → ReadModule → Module
module_from table ms ks m = record { own = whole_parts table m; instances = map (instance_of table ms ks m) m.written }

-- the modules that each module instances, by their places
abbrev pub instanced : List Piece → ReadModule → List ℕ
instanced ms m = map (λ w. place_in ms w.of.id) m.written

abbrev pub below_of : List Piece → List ReadModule → List (List ℕ)
below_of ms ks = map (instanced ms) ks

-- the modules that none instances
unfoldable pub tops : List Piece → List ReadModule → List ℕ
tops ms ks = rings.tops (below_of ms ks)

abbrev pub first_top : List ℕ → ℕ
first_top [] = 0
first_top (n ∷ ns) = n

unfoldable pub design_of : List (List ℕ) → List Piece → List ReadModule → Design
design_of table ms ks = record { modules = map (module_from table ms ks) ks; top = first_top (tops ms ks) }

-- ---- refusals of the design

-- modules that instance each other in a ring
abbrev pub IsRing : List Piece → List ReadModule → List ℕ → Type 0
IsRing ms ks ring = rings.IsRing (below_of ms ks) ring

unfoldable pub has_ring : List Piece → List ReadModule → Bool
has_ring ms ks = rings.has_ring (below_of ms ks)

-- the first connection of the text that does not go with its port
unfoldable pub connect_fault : List (List ℕ) → List Piece → List ReadModule → Option ℕ
connect_fault table ms ks =
    first_of (flat_map (λ m. flat_map (λ w. map (connected_fault table m (read_at ms ks w.of)) (connections_of table ms ks w)) m.written) ks)

-- a path of more than `MAX_DEPTH` instance names: one of one more is there
abbrev pub is_deep : Design → Bool
is_deep d = list_any (λ p. nat_lt MAX_DEPTH (length p)) (paths_from (MAX_DEPTH + 2) d [])

abbrev pub part_count : Design → ℕ
part_count d = length (gates d) + (length (flops d) + (length (paths d) - 1))

-- how many inputs of gates, constants and ports of the top there are together
abbrev pub terminal_count : Design → ℕ
terminal_count d =
    sum_by (λ g. length g.it.ins) (gates d) + (length (constants d) + (length (own d []).inputs + length (own d []).outputs))

-- the lowest net that shares its key
unfoldable pub clash_in : List (List ℕ) → Option (List ℕ)
clash_in [] = None
clash_in (k ∷ ks) = if list_any (bytes_eq k) ks then Some k else clash_in ks

abbrev pub limited : Bool → FlatFault → Result Parts FlatFault → Result Parts FlatFault
limited true fault later = Err fault
limited false fault later = later

abbrev pub clashing : Option (List ℕ) → Result Parts FlatFault → Result Parts FlatFault
clashing (Some key) later = Err (NameClash key)
clashing None later = later

-- the modules of a design, whose connections go with their ports; or the first that does not
unfoldable pub connected_modules : List (List ℕ) → List Piece → List ReadModule → Result (List Module) FlatFault
connected_modules table ms ks =
    elim (connect_fault table ms ks) as (λ _. Result (List Module) FlatFault) [
      | Some place ↦ Err (Connect place)
      | None ↦ Ok (map (module_from table ms ks) ks)
    ]

-- the flat parts of a design, or the first limit that it passes
unfoldable pub elaborated : Design → Result Parts FlatFault
elaborated d =
    let parts = flat_parts d in
    limited (is_deep d) FlatDepth
    (limited (nat_lt MAX_PARTS (part_count d)) FlatParts
    (limited (nat_lt MAX_NETS (length parts.names)) FlatNets
    (limited (nat_lt MAX_KEY_BYTES (sum (map length parts.names))) FlatKeys
    (clashing (clash_in parts.names)
    (limited (nat_lt MAX_TERMINALS (terminal_count d)) FlatTerminals (Ok parts))))))

-- the flat parts of modules without a ring, or the first refusal
unfoldable pub flattened : List (List ℕ) → List Piece → List ReadModule → Result Parts FlatFault
flattened table ms ks =
    limited (nat_lt 1 (length (tops ms ks))) (Tops (length (tops ms ks)))
    (connected_modules table ms ks then (λ modules. elaborated (record { modules = modules; top = first_top (tops ms ks) })))

-- ---- the whole text

-- the text of a module's name
abbrev pub name_at : List (List ℕ) → List Piece → ℕ → List ℕ
name_at table ms n = slice_index_or table (unwrap_or (name_id (slice_index_or ms n (record { attributes = []; body = [] }))) 0) []

-- the answer for modules that were read: a ring of their names, or what the design gives
pub data Answer (table : List (List ℕ)) (ms : List Piece) (ks : List ReadModule) : Result Parts FlatFault → Type 0 where
  ringed : (ring : List ℕ) → IsRing ms ks ring → Answer table ms ks (Err (Recursion (map (name_at table ms) ring)))
  plain : has_ring ms ks ≡ false → Answer table ms ks (flattened table ms ks)

abbrev pub AnswerFor : List (List ℕ) → Rest → Result Parts FlatFault → Type 0
AnswerFor table ts result =
    elim (read_modules table ts) as (λ _. Type 0) [ Ok ks ↦ Answer table (modules_of ts) ks result | Err fault ↦ (result ≡ Err fault) ]

-- what a text with these tokens is answered with; the flag says that it has fewer than two modules other than cells
abbrev pub TokensAnswer : Bool → List ℕ → List Token → Result Parts FlatFault → Type 0
TokensAnswer true source tokens result = result ≡ as_verilog (netlist_text source)
TokensAnswer false source tokens result = AnswerFor (names_of source tokens) (lexemes_of source tokens) result

-- what a text is answered with: fewer than two modules other than cells, or no tokens, as a text of one module
abbrev pub IsAnswer : List ℕ → Result Parts FlatFault → Type 0
IsAnswer source result =
    elim (tokenised source) as (λ _. Type 0) [
      | Err fault ↦ (result ≡ as_verilog (netlist_text source))
      | Ok tokens ↦ TokensAnswer (nat_lt (length (modules_of (lexemes_of source tokens))) 2) source tokens result
    ]

-- What a module keeps that was read: its own parts have names for their nets, its ports stand first among the nets, and a name
-- that is declared has nets
pub record IsRead (table : List (List ℕ)) (m : ReadModule) : Type 0 where
  pub nets : HasNets m.own
  pub room : All (λ p. p.first + p.width ≤ length m.own.names) (ports_of table m)
  pub named : (id : ℕ) (s : Says) → scope_of m id ≡ Some s → 0 < length m.own.names

-- the design of modules that were read, and whose connections go with their ports, keeps what the law of flattening asks for
abbrev pub DesignsAreWhole : Type 0
DesignsAreWhole =
    (table : List (List ℕ)) (ms : List Piece) (ks : List ReadModule) → All (IsRead table) ks → connect_fault table ms ks ≡ None →
    IsDesign (design_of table ms ks)
