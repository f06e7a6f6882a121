-- The ports of a header, one after the other.
use Rattle.std.proofs.Common.{◌≡◌, ℕ, ◌+◌, ◌<◌, ◌≤◌, List, [], ◌∷◌, ◌++◌, length, map, take, drop, get_or, append_assoc, Option, Some, None, refl, sym, ap, ◌∙◌}
use Rattle.std.proofs.lemmas.List.FromFn.{length-map-range_with_len}
use Rattle.std.proofs.lemmas.List.{drop_more, drop_all, take_more, append-nil, map-append}
use Rattle.bs_lex.specs.declared.lexeme.Name.{Name}
use Rattle.bs_verilog_syntax.specs.declared.tree.Range.{Range}
use Rattle.bs_verilog_syntax.specs.declared.tree.Says.{Says}
use Rattle.bs_verilog_syntax.specs.declared.tree.Direction.TheVariants as directions
use Rattle.bs_verilog_scope.specs.Keys.{keys, width}
use Rattle.bs_verilog_scope.specs.Declaring.{said, known, direction_of}
use Rattle.bs_verilog.specs.Netlist.{is_towards}
use Rattle.bs_flat_meaning.specs.Connecting.{ports_from, ports_of, width_of, scope_of}
use Rattle.bs_flat_meaning.specs.Connecting as flat
use Rattle.bs_flat_modules.specs.declared.owns.Own.{Own}
use Rattle.bs_flat_connect.specs.Wiring.{bit_count}
use Rattle.bs_flat_connect.specs.declared.ports.Port.{Port}
use Rattle.bs_flat_connect.specs.declared.ports.Ports.{Ports}
use Rattle.bs_flat_connect.specs.Wiring.{read_of}
use Rattle.bs_flat_connect.specs.Ports.{port_from, ports_in, ArePortsOf}

pub length_keys : (name : List ℕ) (range : Option Range) → length (keys name range) ≡ bit_count range
unfolding keys
length_keys name None = refl
length_keys name (Some r) = length-map-range_with_len _ 0 (width r)

-- ---- as a loop goes on

pub ports_more : (scope : ℕ → Option Says) (front after total : List Port) (header : List Name) (i first next : ℕ) (d : Name) (p : Port) → i < length header
    → p ≡ port_from scope first (get_or header i d) → after ≡ front ++ p ∷ [] → next ≡ p.first + p.width
    → front ++ ports_in scope first (drop i header) ≡ total → after ++ ports_in scope next (drop (i + 1) header) ≡ total
unfolding ports_in
ports_more scope front after total header i first next d p h is made on so_far =
    let n = get_or header i d in
    let later : next ≡ first + bit_count (known scope n).range = on ∙ ap (λ (q : Port). q.first + q.width) is in
    let here : front ++ port_from scope first n ∷ ports_in scope (first + bit_count (known scope n).range) (drop (i + 1) header) ≡ total =
    rw (drop_more header i d h) at so_far in
    rw (made, later, is)
    (append_assoc front (port_from scope first n ∷ []) (ports_in scope (first + bit_count (known scope n).range) (drop (i + 1) header)) ∙ here)

pub ids_more : (ids after : List ℕ) (header : List Name) (i : ℕ) (d : Name) → i < length header → after ≡ ids ++ (get_or header i d).id ∷ []
    → ids ≡ map (λ n. n.id) (take i header) → after ≡ map (λ n. n.id) (take (i + 1) header)
ids_more ids after header i d h made so_far =
    made ∙ ap (λ l. l ++ (get_or header i d).id ∷ []) so_far
    ∙ sym (ap (map (λ (n : Name). n.id)) (take_more header i d h) ∙ map-append (λ (n : Name). n.id) (take i header) (get_or header i d ∷ []))

pub ports_all : (scope : ℕ → Option Says) (front total : List Port) (header : List Name) (i first : ℕ) → length header ≤ i
    → front ++ ports_in scope first (drop i header) ≡ total → front ≡ total
unfolding ports_in
ports_all scope front total header i first h so_far =
    let here : front ++ [] ≡ total = rw (drop_all i header h) at so_far in
    sym (append-nil front) ∙ here

-- ---- as the definitions have them

ids_are : (size : Name → ℕ) (first : ℕ) (ns : List Name) → map (λ n. n.id) ns ≡ map (λ q. q.name.id) (ports_from size first ns)
unfolding ports_from
ids_are size first [] = refl
ids_are size first (n ∷ ns) = ap (λ l. n.id ∷ l) (ids_are size (first + size n) ns)

abbrev with_width : (ℕ → Option Says) → ℕ → Name → ℕ → Port
with_width scope first n w = record { first = first; width = w; is_output = is_towards directions.Output (direction_of (scope n.id)) }

ports_are : (scope : ℕ → Option Says) (size : Name → ℕ) (first : ℕ) (ns : List Name) → ((n : Name) → size n ≡ bit_count (known scope n).range)
    → ports_in scope first ns
    ≡ map (λ (p : flat.Port). record { first = p.first; width = p.width; is_output = is_towards directions.Output (direction_of (scope p.name.id)) })
    (ports_from size first ns)
unfolding ports_from ports_in
ports_are scope size first [] same = refl
ports_are scope size first (n ∷ ns) same =
    let f : flat.Port → Port = λ (p : flat.Port).
    record { first = p.first; width = p.width; is_output = is_towards directions.Output (direction_of (scope p.name.id)) } in
    ap (λ (w : ℕ). with_width scope first n w ∷ ports_in scope (first + w) ns) (sym (same n))
    ∙ ap (λ (l : List Port). f (record { name = n; first = first; width = size n }) ∷ l) (ports_are scope size (first + size n) ns same)

pub are_ports_of : (own : Own) (scope : ℕ → Option Says) (p : Ports) → scope ≡ said own.says.declared → p.ids.keys ≡ map (λ n. n.id) own.says.header
    → p.ports ≡ ports_in scope 0 own.says.header → ArePortsOf own p
are_ports_of own scope p e ids ports =
    record {
      ids = λ table ws. ids ∙ ids_are (width_of table (read_of own ws)) 0 own.says.header;
      ports = λ table ws. ports
          ∙ (ap (λ s. ports_in s 0 own.says.header) e
          ∙ ports_are (said own.says.declared) (width_of table (read_of own ws)) 0 own.says.header
          (λ n. length_keys _ (known (said own.says.declared) n).range));
    }
