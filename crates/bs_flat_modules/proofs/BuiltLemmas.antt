-- What parts add to what is built: a constant only with a new name, and gates and flip-flops no more than the lexemes of the part.
use Rattle.std.proofs.Common.{◌≡◌, ℕ, zero, suc, ◌≤◌, ◌+◌, ◌-◌, Bool, true, false, List, [], ◌∷◌, ◌++◌, map, length, take, drop, refl, arith, ap, Option, Some, None, Result, Ok, Err}
use Rattle.std.specs.Prelude.{not, ◌&&◌, nat_le, is_some, if◌then◌else◌}
use Rattle.std.specs.List.{flat_map}
use Rattle.std.proofs.lemmas.Bool.{leb-false}
use Rattle.std.proofs.lemmas.List.{length-append, length-map}
use Rattle.bs_net.specs.declared.limits.TheConstants.{MAX_NETS}
use Rattle.bs_net.specs.declared.net.NetId.{NetId}
use Rattle.bs_net.specs.declared.net.Gate.{Gate}
use Rattle.bs_net.specs.declared.gate.Kind.{Kind}
use Rattle.bs_net.specs.declared.gate.Kind.TheVariants.{Buf}
use Rattle.bs_net.specs.Names.{with_key, number_of}
use Rattle.bs_net.proofs.NamesLemmas.{with_key-grows, with_key-one_more, kept, appended}
use Rattle.bs_lex.specs.declared.lexeme.Cell.{Cell}
use Rattle.bs_lex.specs.declared.lexeme.Name.{Name}
use Rattle.bs_verilog_syntax.specs.declared.tree.Says.{Says}
use Rattle.bs_verilog_syntax.specs.declared.tree.Term.{Term}
use Rattle.bs_verilog_syntax.specs.declared.tree.Term.TheVariants.{Constant, Named}
use Rattle.bs_verilog_syntax.specs.declared.tree.Connection.{Connection}
use Rattle.bs_verilog_syntax.specs.declared.tree.Component.{Component}
use Rattle.bs_verilog_syntax.specs.declared.tree.Shape.{Shape}
use Rattle.bs_verilog_syntax.specs.declared.tree.Shape.TheVariants as shapes
use Rattle.bs_verilog_syntax.specs.declared.fault.VerilogFault.{VerilogFault}
use Rattle.bs_verilog_syntax.specs.declared.fault.VerilogFault.TheVariants.{TooManyNets, Terminals, Index}
use Rattle.bs_bits.specs.Reading.{◌>>=◌}
use Rattle.bs_verilog_scope.specs.declared.numbering.Known.{Known}
use Rattle.bs_verilog_scope.specs.Keys.{text, scalar_key, constant_key}
use Rattle.bs_verilog_scope.specs.Nets.{net_of, with_keys}
use Rattle.bs_verilog_scope.specs.Declaring.{keys_of, first_over}
use Rattle.bs_verilog_scope.proofs.NumberLemmas.{with_keys-room, with_keys-append, few_step}
use Rattle.bs_verilog.specs.declared.placing.NetTable.{NetTable}
use Rattle.bs_verilog.specs.declared.building.Built.{Built}
use Rattle.bs_verilog.specs.declared.pins.Pins.{Pins}
use Rattle.bs_verilog.specs.Terminals.{term_of, is_single, is_gate, is_assignment, cell_pins}
use Rattle.bs_verilog.specs.Building.{each, has_key, is_full, implicit_net, declared_key, constant_net, named_net, term_net, with_connection}
use Rattle.bs_verilog.specs.Building.{connection_nets, gates_of, net_at, flop_of, with_gates, with_flop, with_part, with_parts}
use Rattle.bs_flat_meaning.proofs.GivenLemmas.{Gives, gives_ok, gives_err, gives_on, gives_if, gives_any}
use Rattle.bs_flat_modules.proofs.ShortLemmas.{Any, one_each, total, total_ones, weight}

-- ---- steps

-- steps that each relate what was before to what is after relate the first to the last
each_counts : {A B : Type 0} (R : ℕ → B → B → Type 0) (count : A → ℕ) (step : B → A → Result B VerilogFault) → ((b : B) → R 0 b b)
    → ((n m : ℕ) (a b c : B) → R n a b → R m b c → R (n + m) a c) → ((b : B) (x : A) → Gives (R (count x) b) (step b x))
    → (b : B) (xs : List A) → Gives (R (total count xs) b) (each step b xs)
unfolding each
each_counts R count step same on g b [] = gives_ok (R 0 b) b (same b)
each_counts R count step same on g b (x ∷ xs) =
    gives_on (R (count x) b) (R (total count (x ∷ xs)) b) (step b x) _ (g b x)
    (λ more m.
    record { is = λ y e. on (count x) (total count xs) b more y m ((each_counts R count step same on g more xs).is y e) })

-- ---- names

-- names stay, and are at most `MAX_NETS`; a constant comes only with a new name
record Adds (before after : NetTable) : Type 0 where
  grows : length before.names ≤ length after.names
  few : length before.names ≤ MAX_NETS → length after.names ≤ MAX_NETS
  consts : length after.consts + length before.names ≤ length before.consts + length after.names

adds_none : (made : NetTable) → Adds made made
adds_none made = record { grows = omega arith; few = λ h. h; consts = omega arith }

adds_on : (a b c : NetTable) → Adds a b → Adds b c → Adds a c
adds_on a b c x y =
    let gx = x.grows in
    let gy = y.grows in
    let cx = x.consts in
    let cy = y.consts in
    record { grows = omega (arith, gx, gy); few = λ h. y.few (x.few h); consts = omega (arith, cx, cy) }

key_few : (names : List (List ℕ)) (key : List ℕ) → is_full names key ≡ false → length names ≤ MAX_NETS → length (with_key names key) ≤ MAX_NETS
key_few names key e few = by (number_of names key) refl e
  where
    by : (o : Option ℕ) → number_of names key ≡ o → (not (is_some o) && nat_le MAX_NETS (length names)) ≡ false → length (with_key names key) ≤ MAX_NETS
    by (Some i) found f = let same = ap length (kept names key i found) in omega (arith, same, few)
    by None found f = let less = leb-false MAX_NETS (length names) f in omega (arith, less, with_key-one_more names key)

key_new : (names : List (List ℕ)) (key : List ℕ) → has_key names key ≡ false → length (with_key names key) ≡ length names + 1
key_new names key e = by (number_of names key) refl e
  where
    by : (o : Option ℕ) → number_of names key ≡ o → is_some o ≡ false → length (with_key names key) ≡ length names + 1
    by (Some i) found f = absurd cc
    by None found f = let same = ap length (appended names key found) in omega (arith, same, length-append names (key ∷ []))

-- the net of a term, with what is made
abbrev Places : NetTable → NetId × NetTable → Type 0
Places made x = Adds made x.1

implicit_adds : (key : List ℕ) (n : Name) (index : Option ℕ) (made : NetTable) → Gives (Places made) (implicit_net key n index made)
unfolding implicit_net
implicit_adds key n index made =
    gives_if (Places made) (is_full made.names key) _ _ (λ _. gives_err (Places made) (TooManyNets n.at))
    (λ full.
    gives_if (Places made) (is_some index) _ _ (λ _. gives_err (Places made) (Index n.at))
    (λ _.
    let grows = with_key-grows made.names key in
    gives_ok (Places made) (net_of (with_key made.names key) key, record { names = with_key made.names key; consts = made.consts })
    (record { grows = grows; few = key_few made.names key full; consts = omega (arith, grows) })))

constant_adds : (at : ℕ) (b : Bool) (made : NetTable) → Gives (Places made) (constant_net at b made)
unfolding constant_net
constant_adds at b made =
    let key = constant_key b in
    let names = with_key made.names key in
    let net = net_of names key in
    gives_if (Places made) (is_full made.names key) _ _ (λ _. gives_err (Places made) (TooManyNets at))
    (λ full.
    gives_if (Places made) (has_key made.names key) _ _ (λ _. gives_ok (Places made) (net_of made.names key, made) (adds_none made))
    (λ other.
    let more = key_new made.names key other in
    let one = length-append made.consts (record { net = net; value = b } ∷ []) in
    gives_ok (Places made) (net, record { names = names; consts = made.consts ++ record { net = net; value = b } ∷ [] })
    (record { grows = omega (arith, more); few = key_few made.names key full; consts = omega (arith, more, one) })))

term_adds : (table : List (List ℕ)) (scope : ℕ → Option Says) (t : Term) (made : NetTable) → Gives (Places made) (term_net table scope t made)
unfolding term_net named_net
term_adds table scope (Constant at b) made = constant_adds at b made
term_adds table scope (Named n index) made = by (scope n.id)
  where
    by : (o : Option Says) → Gives (Places made) (named_net (text table n) o n index made)
    by (Some s) =
        gives_on Any (Places made) (declared_key (text table n) s.range n index) _ (gives_any (declared_key (text table n) s.range n index))
        (λ key _. gives_ok (Places made) (net_of made.names key, made) (adds_none made))
    by None = implicit_adds (scalar_key (text table n)) n index made

-- the nets of so many connections more
record AddsNets (n : ℕ) (before after : List NetId × NetTable) : Type 0 where
  made : Adds before.1 after.1
  nets : length after.0 ≤ length before.0 + n

connection_adds : (table : List (List ℕ)) (scope : ℕ → Option Says) (before : List NetId × NetTable) (c : Connection)
    → Gives (AddsNets 1 before) (with_connection table scope before c)
unfolding with_connection
connection_adds table scope before c = by (term_of c)
  where
    by : (o : Option Term)
        → Gives (AddsNets 1 before)
        (elim o as (λ _. Result (List NetId × NetTable) VerilogFault) [
          | Some t ↦ term_net table scope t before.1 >>= λ placed. Ok (before.0 ++ placed.0 ∷ [], placed.1)
          | None ↦ Ok before
        ])
    by (Some t) =
        gives_on (Places before.1) (AddsNets 1 before) (term_net table scope t before.1) _ (term_adds table scope t before.1)
        (λ placed p.
        gives_ok (AddsNets 1 before) (before.0 ++ placed.0 ∷ [], placed.1)
        (record { made = p; nets = omega (arith, length-append before.0 (placed.0 ∷ [])) }))
    by None = gives_ok (AddsNets 1 before) before (record { made = adds_none before.1; nets = omega arith })

nets_on : (n m : ℕ) (a b c : List NetId × NetTable) → AddsNets n a b → AddsNets m b c → AddsNets (n + m) a c
nets_on n m a b c x y =
    let nx = x.nets in
    let ny = y.nets in
    record { made = adds_on a.1 b.1 c.1 x.made y.made; nets = omega (arith, nx, ny) }

connections_add : (table : List (List ℕ)) (scope : ℕ → Option Says) (cs : List Connection) (made : NetTable)
    → Gives (AddsNets (total one_each cs) ([], made)) (connection_nets table scope cs made)
connections_add table scope cs made =
    each_counts AddsNets one_each (with_connection table scope) (λ b. record { made = adds_none b.1; nets = omega arith }) nets_on
    (λ b c. connection_adds table scope b c) ([], made) cs

-- ---- parts

-- what parts of so many lexemes add
pub record Builds (n : ℕ) (before after : Built) : Type 0 where
  pub grows : length before.made.names ≤ length after.made.names
  pub few : length before.made.names ≤ MAX_NETS → length after.made.names ≤ MAX_NETS
  pub consts : length after.made.consts + length before.made.names ≤ length before.made.consts + length after.made.names
  pub gates : length after.gates ≤ length before.gates + n
  pub flops : length after.flops ≤ length before.flops + n

builds_none : (b : Built) → Builds 0 b b
builds_none b = record { grows = omega arith; few = λ h. h; consts = omega arith; gates = omega arith; flops = omega arith }

builds_on : (n m : ℕ) (a b c : Built) → Builds n a b → Builds m b c → Builds (n + m) a c
builds_on n m a b c x y =
    let wx = x.grows in
    let wy = y.grows in
    let cx = x.consts in
    let cy = y.consts in
    let gx = x.gates in
    let gy = y.gates in
    let fx = x.flops in
    let fy = y.flops in
    record {
      grows = omega (arith, wx, wy);
      few = λ h. y.few (x.few h);
      consts = omega (arith, cx, cy);
      gates = omega (arith, gx, gy);
      flops = omega (arith, fx, fy);
    }

taken_length : {X : Type 0} (n : ℕ) (xs : List X) → length (take n xs) ≤ length xs
taken_length zero xs = omega arith
taken_length (suc n) [] = omega arith
taken_length (suc n) (x ∷ xs) = let t = taken_length n xs in omega (arith, t)

gates_count : (kind : Kind) (nets : List NetId) → length (gates_of kind nets) ≤ suc (length nets)
unfolding gates_of
gates_count kind nets = by (is_single kind)
  where
    single : NetId → Gate
    single out = record { kind = kind; out = out; ins = net_at nets (length nets - 1) ∷ [] }

    by : (b : Bool)
        → length (if b then map single (take (length nets - 1) nets) else record { kind = kind; out = net_at nets 0; ins = drop 1 nets } ∷ [])
        ≤ suc (length nets)
    by true = omega (arith, length-map (take (length nets - 1) nets) single, taken_length (length nets - 1) nets)
    by false = omega arith

gates_add : (table : List (List ℕ)) (scope : ℕ → Option Says) (kind : Kind) (b : Built) (cs : List Connection)
    → Gives (Builds (suc (length cs)) b) (with_gates table scope kind b cs)
gates_add table scope kind b cs =
    gives_on (AddsNets (total one_each cs) ([], b.made)) (Builds (suc (length cs)) b) (connection_nets table scope cs b.made) _
    (connections_add table scope cs b.made)
    (λ placed p.
    let m = p.made in
    let nets = p.nets in
    let ones = total_ones cs in
    let count = gates_count kind placed.0 in
    let more = length-append b.gates (gates_of kind placed.0) in
    gives_ok (Builds (suc (length cs)) b) (record { made = placed.1; gates = b.gates ++ gates_of kind placed.0; flops = b.flops })
    (record { grows = m.grows; few = m.few; consts = m.consts; gates = omega (arith, nets, ones, count, more); flops = omega arith }))

flop_adds : (table : List (List ℕ)) (scope : ℕ → Option Says) (cell : Cell) (pins : Pins) (b : Built) (cs : List Connection)
    → Gives (Builds (suc (length cs)) b) (with_flop table scope cell pins b cs)
flop_adds table scope cell pins b cs =
    gives_on (AddsNets (total one_each cs) ([], b.made)) (Builds (suc (length cs)) b) (connection_nets table scope cs b.made) _
    (connections_add table scope cs b.made)
    (λ placed p.
    let m = p.made in
    let more = length-append b.flops (flop_of cell pins placed.0 ∷ []) in
    gives_ok (Builds (suc (length cs)) b) (record { made = placed.1; gates = b.gates; flops = b.flops ++ flop_of cell pins placed.0 ∷ [] })
    (record { grows = m.grows; few = m.few; consts = m.consts; gates = omega arith; flops = omega (arith, more) }))

part_adds : (table : List (List ℕ)) (scope : ℕ → Option Says) (b : Built) (p : Component) → Gives (Builds (weight p) b) (with_part table scope b p)
unfolding with_part
part_adds table scope b p = by p.shape
  where
    cell_by : (c : Cell) (o : Option Pins)
        → Gives (Builds (weight p) b)
        (elim o as (λ _. Result Built VerilogFault) [ Some pins ↦ with_flop table scope c pins b p.connections | None ↦ Err (Terminals p.at) ])
    cell_by c (Some pins) = flop_adds table scope c pins b p.connections
    cell_by c None = gives_err (Builds (weight p) b) (Terminals p.at)

    by : (s : Shape)
        → Gives (Builds (weight p) b)
        (elim s as (λ _. Result Built VerilogFault) [
          | shapes.Gate kind ↦ if is_gate kind p.connections then with_gates table scope kind b p.connections else Err (Terminals p.at)
          | shapes.Cell cell ↦
              elim (cell_pins table cell p.connections) [
                | Some pins ↦ with_flop table scope cell pins b p.connections
                | None ↦ Err (Terminals p.at)
              ]
          | shapes.Assign ↦ if is_assignment p.connections then with_gates table scope Buf b p.connections else Err (Terminals p.at)
        ])
    by (shapes.Gate kind) =
        gives_if (Builds (weight p) b) (is_gate kind p.connections) _ _ (λ _. gates_add table scope kind b p.connections)
        (λ _. gives_err (Builds (weight p) b) (Terminals p.at))
    by (shapes.Cell cell) = cell_by cell (cell_pins table cell p.connections)
    by shapes.Assign =
        gives_if (Builds (weight p) b) (is_assignment p.connections) _ _ (λ _. gates_add table scope Buf b p.connections)
        (λ _. gives_err (Builds (weight p) b) (Terminals p.at))

pub parts_add : (table : List (List ℕ)) (scope : ℕ → Option Says) (b : Built) (ps : List Component)
    → Gives (Builds (total weight ps) b) (with_parts table scope b ps)
parts_add table scope b ps =
    each_counts Builds weight (with_part table scope) builds_none builds_on (λ a p. part_adds table scope a p) b ps

-- ---- the names that stand before

pub numbered_few : (table : List (List ℕ)) (nets : List Known) (count : ℕ) (names : List (List ℕ)) → length names ≤ count → count ≤ MAX_NETS
    → first_over table count nets ≡ None → length (with_keys names (flat_map (keys_of table) nets)) ≤ MAX_NETS
unfolding with_keys
numbered_few table [] count names within few under = omega (arith, within, few)
numbered_few table (k ∷ ks) count names within few under =
    let next = few_step table (length names) k ks (record { count = count; within = within; few = few; none = under }) in
    let added = with_keys-room names (keys_of table k) in
    rw (with_keys-append names (keys_of table k) (flat_map (keys_of table) ks))
    (numbered_few table ks (count + length (keys_of table k)) (with_keys names (keys_of table k)) (omega (arith, within, added)) next.0 next.1)
