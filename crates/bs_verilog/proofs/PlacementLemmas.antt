-- Every net of what is built has a name. Where limits `L` hold, of nets and of the connections of a part, it keeps those of a netlist as well.
use Rattle.std.proofs.Common.{◌≡◌, ℕ, zero, suc, ◌+◌, ◌-◌, ◌<◌, ◌≤◌, Bool, true, false, cond, List, [], ◌∷◌, ◌++◌, map, length, get_or, take, drop}
use Rattle.std.proofs.Common.{Option, Some, None, Ok, Err, Result, refl, ap, ◌∙◌, inl, inr, ◌⊎◌, arith}
use Rattle.std.specs.Prelude.{IsTrue, not, ◌&&◌, nat_le, is_some, unwrap_or, ◌==◌}
use Rattle.std.specs.List.{All, list_any, list_all, flat_map, filter}
use Rattle.std.specs.Str.{bytes_eq}
use Rattle.std.proofs.lemmas.Bool.{leb-false, leb-true, lt-ltb, eqb-true}
use Rattle.std.proofs.lemmas.List.{length-append, length-map, take_all}
use Rattle.std.proofs.lemmas.List.Folds.{list_any_at}
use Rattle.std.proofs.lemmas.List.Quantifiers.{position-Some}
use Rattle.std.proofs.lemmas.List.Elements.{All-more, All-append, All-map, All-weaker, All-take, All-from_recursion}
use Rattle.bs_net.specs.declared.net.NetId.{NetId}
use Rattle.bs_net.specs.declared.net.Gate.{Gate}
use Rattle.bs_net.specs.declared.net.Flop.{Flop}
use Rattle.bs_net.specs.declared.net.Mode.{Mode}
use Rattle.bs_net.specs.declared.net.Mode.TheVariants as modes
use Rattle.bs_net.specs.declared.net.Const.{Const}
use Rattle.bs_net.specs.declared.gate.Kind.{Kind}
use Rattle.bs_net.specs.declared.gate.Kind.TheVariants.{And, Nand, Or, Nor, Xor, Xnor, Buf, Not}
use Rattle.bs_net.specs.Names.{with_key, number_of}
use Rattle.bs_net.specs.Parts.{IsFlopPlaced, IsModePlaced}
use Rattle.bs_net.specs.Gate.{takes}
use Rattle.bs_net.proofs.CallerLemmas.{with_key-grows}
use Rattle.bs_verilog_syntax.specs.declared.fault.VerilogFault.{VerilogFault}
use Rattle.bs_verilog_syntax.specs.declared.fault.VerilogFault.TheVariants.{TooManyNets, Index, Terminals}
use Rattle.bs_verilog_syntax.specs.declared.tree.Says.{Says}
use Rattle.bs_lex.specs.declared.lexeme.Name.{Name}
use Rattle.bs_verilog_syntax.specs.declared.tree.Term.{Term}
use Rattle.bs_verilog_syntax.specs.declared.tree.Term.TheVariants.{Constant, Named}
use Rattle.bs_verilog_syntax.specs.declared.tree.Connection.{Connection}
use Rattle.bs_verilog_syntax.specs.declared.tree.Connection.TheVariants.{Empty}
use Rattle.bs_verilog_syntax.specs.declared.tree.Component.{Component}
use Rattle.bs_verilog_syntax.specs.declared.tree.Shape.{Shape}
use Rattle.bs_verilog_syntax.specs.declared.tree.Shape.TheVariants as shapes
use Rattle.bs_lex.specs.declared.lexeme.Cell.{Cell}
use Rattle.bs_lex.specs.declared.lexeme.Cell.TheVariants.{Dff, Dffs, Dffe, Dffr}
use Rattle.bs_verilog.specs.declared.pins.Control.{Control}
use Rattle.bs_verilog.specs.declared.pins.Control.TheVariants as controls
use Rattle.bs_verilog.specs.declared.pins.Pins.{Pins}
use Rattle.bs_verilog.specs.declared.placing.NetTable.{NetTable}
use Rattle.bs_verilog.specs.declared.building.Built.{Built}
use Rattle.bs_bits.specs.Reading.{◌>>=◌}
use Rattle.bs_verilog_scope.specs.Keys.{text, scalar_key, constant_key, keys}
use Rattle.bs_verilog.specs.Cells.{pin_list}
use Rattle.bs_verilog.specs.Terminals.{term_of, has_term, is_single, is_gate, is_assignment, cell_pins, pins_of, is_constant, output_count}
use Rattle.bs_verilog.specs.Building.{each, has_key, is_full, implicit_net, declared_key, constant_net, named_net, term_net, with_connection}
use Rattle.bs_verilog.specs.Building.{connection_nets, gates_of, net_at, no_net, mode_of, flop_of, with_gates, with_flop, with_part, with_parts}
use Rattle.bs_verilog_scope.specs.Nets.{net_of, with_keys, numbered, nets_of}
use Rattle.bs_verilog.specs.Placement.{AreWithin, ConstsWithin, GateWithin, IsBuiltWithin, AreShort, IsFinished, WillFinish}
use Rattle.bs_verilog_syntax.specs.declared.tree.Range.{Range}
use Rattle.bs_verilog_syntax.specs.declared.tree.Module.{Module}
use Rattle.bs_verilog_syntax.specs.declared.tree.Declared.{Declared}
use Rattle.bs_verilog_syntax.specs.declared.tree.Direction as code
use Rattle.bs_verilog_syntax.specs.declared.tree.Direction.TheVariants as directions
use Rattle.bs_verilog_scope.specs.declared.numbering.Known.{Known}
use Rattle.bs_verilog_scope.specs.Declaring.{said, is_in, known, known_nets, keys_of, first_over, direction_of}
use Rattle.bs_verilog.specs.Netlist.{is_towards, port_bits, port_nets, supplied, consts_of, supply_consts, start_of, parts_with, finished_of, built_of}
use Rattle.bs_verilog_scope.proofs.NumberLemmas.{with_key-room, with_keys-room, with_keys-append, few_step, keys-length, one_bit}

-- Names and their numbers.

some_names : (names : List (List ℕ)) (key : List ℕ) → has_key names key ≡ true → 0 < length names
some_names [] key e = absurd cc
some_names (n ∷ ns) key e = omega arith

pub net_within : (names : List (List ℕ)) (key : List ℕ) → 0 < length names → (net_of names key).0 < length names
net_within names key h = by (number_of names key) refl
  where
    by : (o : Option ℕ) → number_of names key ≡ o → unwrap_or o 0 < length names
    by (Some i) e = (position-Some (bytes_eq key) names i [] e).0
    by None e = h

with_key-some : (names : List (List ℕ)) (key : List ℕ) → 0 < length (with_key names key)
with_key-some [] key = omega arith
with_key-some (n ∷ ns) key = let grows = with_key-grows (n ∷ ns) key in omega (arith, grows)

with_key-few : (names : List (List ℕ)) (key : List ℕ) → is_full names key ≡ false → length names ≤ 100000 → length (with_key names key) ≤ 100000
with_key-few names key e few = by (number_of names key) refl e
  where
    kept : (b : Bool) → b ≡ true → length (cond b names (names ++ key ∷ [])) ≤ 100000
    kept true t = few
    kept false t = absurd cc

    by : (o : Option ℕ) → number_of names key ≡ o → (not (is_some o) && nat_le 100000 (length names)) ≡ false → length (with_key names key) ≤ 100000
    by (Some i) at f =
        let found = position-Some (bytes_eq key) names i [] at in kept (list_any (bytes_eq key) names) (list_any_at (bytes_eq key) names i [] found.0 found.1)
    by None at f = let less : length names < 100000 = leb-false 100000 (length names) f in omega (arith, less, with_key-room names key)

-- The nets of terms.

-- what is made so far, where the scope says nothing unless a net is declared
pub record IsPlacing (scope : ℕ → Option Says) (made : NetTable) : Type 0 where
  pub consts_within : ConstsWithin (length made.names) made.consts
  pub declared : (id : ℕ) (s : Says) → scope id ≡ Some s → 0 < length made.names

pub record Goes (scope : ℕ → Option Says) (before after : NetTable) : Type 0 where
  pub grows : length before.names ≤ length after.names
  pub few : length before.names ≤ 100000 → length after.names ≤ 100000
  pub placing : IsPlacing scope after

consts_more : (n m : ℕ) (cs : List Const) → n ≤ m → ConstsWithin n cs → ConstsWithin m cs
consts_more n m cs le all = All-weaker (λ (k : Const). k.net.0 < n) (λ (k : Const). k.net.0 < m) (λ k lt. omega (arith, lt, le)) cs all

nets_more : (n m : ℕ) (nets : List NetId) → n ≤ m → AreWithin n nets → AreWithin m nets
nets_more n m nets le all = All-weaker (λ (k : NetId). k.0 < n) (λ (k : NetId). k.0 < m) (λ k lt. omega (arith, lt, le)) nets all

same : (scope : ℕ → Option Says) (made : NetTable) → IsPlacing scope made → Goes scope made made
same scope made p = record { grows = omega arith; few = λ h. h; placing = p }

named_more : (scope : ℕ → Option Says) (made : NetTable) (key : List ℕ) → IsPlacing scope made → is_full made.names key ≡ false
    → Goes scope made (record { names = with_key made.names key; consts = made.consts })
named_more scope made key p full =
    record {
      grows = with_key-grows made.names key;
      few = with_key-few made.names key full;
      placing =
          record {
            consts_within = consts_more (length made.names) (length (with_key made.names key)) made.consts (with_key-grows made.names key) p.consts_within;
            declared = λ id s e. with_key-some made.names key;
          };
    }

constant_more : (scope : ℕ → Option Says) (made : NetTable) (key : List ℕ) (b : Bool) → IsPlacing scope made → is_full made.names key ≡ false
    → Goes scope made (record {
      names = with_key made.names key;
      consts = made.consts ++ record { net = net_of (with_key made.names key) key; value = b } ∷ [];
    })
constant_more scope made key b p full =
    let after : List (List ℕ) = with_key made.names key in
    let here : Const = record { net = net_of after key; value = b } in
    record {
      grows = with_key-grows made.names key;
      few = with_key-few made.names key full;
      placing =
          record {
            consts_within =
                All-append (λ (k : Const). k.net.0 < length after) made.consts (here ∷ [])
                (consts_more (length made.names) (length after) made.consts (with_key-grows made.names key) p.consts_within)
                (All-from_recursion (λ (k : Const). k.net.0 < length after) (here ∷ []) (net_within after key (with_key-some made.names key), tt));
            declared = λ id s e. with_key-some made.names key;
          };
    }

-- a net and what was made with it
pub record IsPlacedNet (scope : ℕ → Option Says) (before : NetTable) (placed : NetId × NetTable) : Type 0 where
  pub goes : Goes scope before placed.1
  pub within : placed.0.0 < length placed.1.names

placed_as : (scope : ℕ → Option Says) (before : NetTable) (x y : NetId × NetTable) → ◌≡◌ {A = Result (NetId × NetTable) VerilogFault} (Ok x) (Ok y)
    → IsPlacedNet scope before x → IsPlacedNet scope before y
placed_as scope before x y e p = let same : x ≡ y = cc in rw (← same) p

constant_placed : (scope : ℕ → Option Says) (at : ℕ) (b : Bool) (made : NetTable) (placed : NetId × NetTable) → IsPlacing scope made
    → constant_net at b made ≡ Ok placed
    → IsPlacedNet scope made placed
unfolding constant_net
constant_placed scope at b made placed p e = by (is_full made.names key) (has_key made.names key) refl refl e
  where
    key : List ℕ
    key = constant_key b

    new : NetId × NetTable
    new = (
      net_of (with_key made.names key) key,
      record {
        names = with_key made.names key;
        consts = made.consts ++ record {
          net = net_of
              (with_key made.names key) key;
          value = b;
        } ∷ [];
      },
    )

    by : (full there : Bool) → is_full made.names key ≡ full → has_key made.names key ≡ there
        → cond full (Err (TooManyNets at)) (cond there (Ok (net_of made.names key, made)) (Ok new)) ≡ Ok placed → IsPlacedNet scope made placed
    by true there f h x = absurd cc
    by false true f h x =
        placed_as scope made (net_of made.names key, made) placed x
        (record { goes = same scope made p; within = net_within made.names key (some_names made.names key h) })
    by false false f h x =
        placed_as scope made new placed x (record {
          goes = constant_more scope made key b p f;
          within = net_within (with_key made.names key) key
              (with_key-some made.names key);
        })

implicit_placed : (scope : ℕ → Option Says) (key : List ℕ) (n : Name) (index : Option ℕ) (made : NetTable) (placed : NetId × NetTable) → IsPlacing scope made
    → implicit_net key n index made ≡ Ok placed → IsPlacedNet scope made placed
unfolding implicit_net
implicit_placed scope key n index made placed p e = by (is_full made.names key) (is_some index) refl e
  where
    new : NetId × NetTable
    new = (net_of (with_key made.names key) key, record { names = with_key made.names key; consts = made.consts })

    by : (full indexed : Bool) → is_full made.names key ≡ full → cond full (Err (TooManyNets n.at)) (cond indexed (Err (Index n.at)) (Ok new)) ≡ Ok placed
        → IsPlacedNet scope made placed
    by true indexed f x = absurd cc
    by false true f x = absurd cc
    by false false f x =
        placed_as scope made new placed x (record {
          goes = named_more scope made key p f;
          within = net_within (with_key made.names key) key
              (with_key-some made.names key);
        })

declared_placed : (scope : ℕ → Option Says) (made : NetTable) (placed : NetId × NetTable) (r : Result (List ℕ) VerilogFault) → IsPlacing scope made
    → 0 < length made.names
    → (r >>= λ key. Ok (net_of made.names key, made)) ≡ Ok placed → IsPlacedNet scope made placed
declared_placed scope made placed (Ok key) p some e =
    placed_as scope made (net_of made.names key, made) placed e (record { goes = same scope made p; within = net_within made.names key some })
declared_placed scope made placed (Err fault) p some e = absurd cc

named_placed : (scope : ℕ → Option Says) (name : List ℕ) (n : Name) (index : Option ℕ) (made : NetTable) (placed : NetId × NetTable) (o : Option Says)
    → IsPlacing scope made → scope n.id ≡ o
    → named_net name o n index made ≡ Ok placed → IsPlacedNet scope made placed
unfolding named_net
named_placed scope name n index made placed (Some s) p is e = declared_placed scope made placed (declared_key name s.range n index) p (p.declared n.id s is) e
named_placed scope name n index made placed None p is e = implicit_placed scope (scalar_key name) n index made placed p e

term_placed : (table : List (List ℕ)) (scope : ℕ → Option Says) (t : Term) (made : NetTable) (placed : NetId × NetTable) → IsPlacing scope made
    → term_net table scope t made ≡ Ok placed
    → IsPlacedNet scope made placed
unfolding term_net
term_placed table scope (Constant at b) made placed p e = constant_placed scope at b made placed p e
term_placed table scope (Named n index) made placed p e = named_placed scope (text table n) n index made placed (scope n.id) p refl e

-- The nets of connections.

-- the nets of so many more connections
pub record ArePlacedNets (scope : ℕ → Option Says) (before after : List NetId × NetTable) (most least : ℕ) : Type 0 where
  pub goes : Goes scope before.1 after.1
  pub within : AreWithin (length after.1.names) after.0
  pub few : length after.0 ≤ length before.0 + most
  pub enough : length before.0 + least ≤ length after.0

-- how many of these have a term
abbrev pub term_count : List Connection → ℕ
term_count [] = 0
term_count (c ∷ cs) = cond (has_term c) 1 0 + term_count cs

connection_placed : (table : List (List ℕ)) (scope : ℕ → Option Says) (c : Connection) (before after : List NetId × NetTable) → IsPlacing scope before.1
    → AreWithin (length before.1.names) before.0 → with_connection table scope before c ≡ Ok after → ArePlacedNets scope before after 1 (cond (has_term c) 1 0)
unfolding with_connection
connection_placed table scope c before after p w e = by (term_of c) e
  where
    seen_as : (x : List NetId × NetTable) (least : ℕ) → ◌≡◌ {A = Result (List NetId × NetTable) VerilogFault} (Ok x) (Ok after) → ArePlacedNets scope before x 1 least
        → ArePlacedNets scope before after 1 least
    seen_as x least s a = let eq : x ≡ after = cc in rw (← eq) a

    on : (t : Term) (r : Result (NetId × NetTable) VerilogFault) → term_net table scope t before.1 ≡ r
        → (r >>= λ placed. Ok (before.0 ++ placed.0 ∷ [], placed.1)) ≡ Ok after
        → ArePlacedNets scope before after 1 1
    on t (Err fault) is x = absurd cc
    on t (Ok placed) is x =
        let one = term_placed table scope t before.1 placed p is in
        seen_as (before.0 ++ placed.0 ∷ [], placed.1) 1 x
        (record {
          goes = one.goes;
          within =
              All-append (λ (n : NetId). n.0 < length placed.1.names) before.0 (placed.0 ∷ [])
              (nets_more (length before.1.names) (length placed.1.names) before.0 one.goes.grows w)
              (All-from_recursion (λ (n : NetId). n.0 < length placed.1.names) (placed.0 ∷ []) (one.within, tt));
          few = omega (arith, length-append before.0 (placed.0 ∷ []));
          enough = omega (arith, length-append before.0 (placed.0 ∷ []));
        })

    by : (o : Option Term)
        → ◌≡◌ {A = Result (List NetId × NetTable) VerilogFault} (elim o [
          | Some t ↦ term_net table scope t before.1 >>= λ placed. Ok
              (before.0 ++ placed.0 ∷ [], placed.1)
          | None ↦ Ok before
        ]) (Ok after)
        → ArePlacedNets scope before after 1 (cond (is_some o) 1 0)
    by (Some t) x = on t (term_net table scope t before.1) refl x
    by None x = seen_as before 0 x (record { goes = same scope before.1 p; within = w; few = omega arith; enough = omega arith })

goes_on : (scope : ℕ → Option Says) (a b c : NetTable) → Goes scope a b → Goes scope b c → Goes scope a c
goes_on scope a b c x y = record { grows = omega (arith, x.grows, y.grows); few = λ h. y.few (x.few h); placing = y.placing }

connections_placed : (table : List (List ℕ)) (scope : ℕ → Option Says) (cs : List Connection) (before after : List NetId × NetTable) → IsPlacing scope before.1
    → AreWithin (length before.1.names) before.0 → each (with_connection table scope) before cs ≡ Ok after
    → ArePlacedNets scope before after (length cs) (term_count cs)
unfolding each
connections_placed table scope [] before after p w e =
    let eq : before ≡ after = cc in
    rw (← eq) (record { goes = same scope before.1 p; within = w; few = omega arith; enough = omega arith })
connections_placed table scope (c ∷ cs) before after p w e =
    by (λ mid placing within x. connections_placed table scope cs mid after placing within x) (with_connection table scope before c) refl e
  where
    by : ((mid : List NetId × NetTable) → IsPlacing scope mid.1 → AreWithin (length mid.1.names) mid.0 → each (with_connection table scope) mid cs ≡ Ok after
        → ArePlacedNets scope mid after (length cs) (term_count cs))
        → (r : Result (List NetId × NetTable) VerilogFault) → with_connection table scope before c ≡ r
        → (r >>= λ more. each (with_connection table scope) more cs) ≡ Ok after
        → ArePlacedNets scope before after (suc (length cs)) (cond (has_term c) 1 0 + term_count cs)
    by rest (Err fault) is x = absurd cc
    by rest (Ok mid) is x =
        let one = connection_placed table scope c before mid p w is in
        let others = rest mid one.goes.placing one.within x in
        record {
          goes = goes_on scope before.1 mid.1 after.1 one.goes others.goes;
          within = others.within;
          few = omega (arith, one.few, others.few);
          enough = omega (arith, one.enough, others.enough);
        }

all_terms : (cs : List Connection) → list_all has_term cs ≡ true → term_count cs ≡ length cs
all_terms [] e = refl
all_terms (c ∷ cs) e = by (all_terms cs) (has_term c) e
  where
    by : (list_all has_term cs ≡ true → term_count cs ≡ length cs) → (b : Bool) → (b && list_all has_term cs) ≡ true
        → cond b 1 0 + term_count cs ≡ suc (length cs)
    by rest true x = let same : term_count cs ≡ length cs = rest x in omega (arith, same)
    by rest false x = absurd cc

-- Gates and flip-flops.

-- a read within the nets, or the net 0
net_at-within : (count : ℕ) (nets : List NetId) (i : ℕ) → 0 < count → AreWithin count nets → (net_at nets i).0 < count
net_at-within count nets i some w = by nets i w
  where
    past : (n : ℕ) → (net_at [] n).0 < count
    past zero = some
    past (suc n) = some

    tail : (x : NetId) (xs : List NetId) → AreWithin count (x ∷ xs) → AreWithin count xs
    tail x xs all k d lt = all (suc k) d (omega (arith, lt))

    by : (xs : List NetId) (n : ℕ) → AreWithin count xs → (net_at xs n).0 < count
    by [] n all = past n
    by (x ∷ xs) zero all = all 0 x (omega arith)
    by (x ∷ xs) (suc n) all = by xs n (tail x xs all)

rest_within : (count : ℕ) (nets : List NetId) → AreWithin count nets → AreWithin count (drop 1 nets)
rest_within count [] all = all
rest_within count (x ∷ xs) all = λ k d lt. all (suc k) d (omega (arith, lt))

rest_length : (nets : List NetId) (n : ℕ) → length nets < n → length (drop 1 nets) < n
rest_length [] n h = h
rest_length (x ∷ xs) n h = omega (arith, h)

rest_some : (nets : List NetId) → 2 ≤ length nets → 0 < length (drop 1 nets)
rest_some [] h = omega (arith, h)
rest_some (x ∷ xs) h = omega (arith, h)

some_count : (count : ℕ) (nets : List NetId) → 0 < length nets → AreWithin count nets → 0 < count
some_count count nets h w = let first = w 0 no_net h in omega (arith, first)

-- a gate whose nets have names, with inputs that its kind takes where the limits hold
abbrev pub GateUnder : Type 0 → ℕ → Gate → Type 0
GateUnder L count g = (g.out.0 < count) × AreWithin count g.ins × (L → (length g.ins < 4294967296) × IsTrue (takes g.kind (length g.ins)))

single_gates : (L : Type 0) (kind : Kind) (count : ℕ) (nets : List NetId) → IsTrue (takes kind 1) → AreWithin count nets
    → All (GateUnder L count) (map (λ out. record { kind = kind; out = out; ins = net_at nets (length nets - 1) ∷ [] }) (take (length nets - 1) nets))
single_gates L kind count [] one w = All-from_recursion (GateUnder L count) [] tt
single_gates L kind count (x ∷ xs) one w =
    let nets : List NetId = x ∷ xs in
    let last : NetId = net_at nets (length nets - 1) in
    let some : 0 < count = some_count count nets (omega arith) w in
    let ins : AreWithin count (last ∷ []) =
    All-from_recursion (λ (n : NetId). n.0 < count) (last ∷ []) (net_at-within count nets (length nets - 1) some w, tt) in
    All-map (GateUnder L count) (λ out. record { kind = kind; out = out; ins = last ∷ [] }) (take (length nets - 1) nets)
    (All-weaker (λ (n : NetId). n.0 < count) (λ (n : NetId). GateUnder L count (record { kind = kind; out = n; ins = last ∷ [] })) (λ n lt. (lt, ins, λ l. (omega arith, one)))
    (take (length nets - 1) nets)
    (All-take (λ (n : NetId). n.0 < count) (length nets - 1) nets w))

plain_gate : (L : Type 0) (kind : Kind) (count : ℕ) (nets : List NetId) → IsTrue (takes kind (length (drop 1 nets))) → 2 ≤ length nets → AreWithin count nets
    → (L → length nets < 4294967296)
    → All (GateUnder L count) (record { kind = kind; out = net_at nets 0; ins = drop 1 nets } ∷ [])
plain_gate L kind count nets takes_them two w short =
    let some : 0 < count = some_count count nets (omega (arith, two)) w in
    All-from_recursion (GateUnder L count) (record { kind = kind; out = net_at nets 0; ins = drop 1 nets } ∷ [])
    ((net_at-within count nets 0 some w, rest_within count nets w, λ l. (rest_length nets 4294967296 (short l), takes_them)), tt)

gates_within : (L : Type 0) (kind : Kind) (count : ℕ) (nets : List NetId) → AreWithin count nets → (L → length nets < 4294967296) → (2 ≤ length nets) ⊎ (is_single kind ≡ true)
    → All (GateUnder L count) (gates_of kind nets)
unfolding gates_of
gates_within L Buf count nets w short two = single_gates L Buf count nets refl w
gates_within L Not count nets w short two = single_gates L Not count nets refl w
gates_within L And count nets w short (inl two) = plain_gate L And count nets (lt-ltb 0 (length (drop 1 nets)) (rest_some nets two)) two w short
gates_within L Nand count nets w short (inl two) = plain_gate L Nand count nets (lt-ltb 0 (length (drop 1 nets)) (rest_some nets two)) two w short
gates_within L Or count nets w short (inl two) = plain_gate L Or count nets (lt-ltb 0 (length (drop 1 nets)) (rest_some nets two)) two w short
gates_within L Nor count nets w short (inl two) = plain_gate L Nor count nets (lt-ltb 0 (length (drop 1 nets)) (rest_some nets two)) two w short
gates_within L Xor count nets w short (inl two) = plain_gate L Xor count nets (lt-ltb 0 (length (drop 1 nets)) (rest_some nets two)) two w short
gates_within L Xnor count nets w short (inl two) = plain_gate L Xnor count nets (lt-ltb 0 (length (drop 1 nets)) (rest_some nets two)) two w short
gates_within L And count nets w short (inr single) = absurd cc
gates_within L Nand count nets w short (inr single) = absurd cc
gates_within L Or count nets w short (inr single) = absurd cc
gates_within L Nor count nets w short (inr single) = absurd cc
gates_within L Xor count nets w short (inr single) = absurd cc
gates_within L Xnor count nets w short (inr single) = absurd cc

one_within : (count : ℕ) (n : NetId) → n.0 < count → AreWithin count (n ∷ [])
one_within count n h = All-from_recursion (λ (k : NetId). k.0 < count) (n ∷ []) (h, tt)

mode_within : (control : Control) (count : ℕ) (nets : List NetId) → 0 < count → AreWithin count nets → IsModePlaced count (mode_of control nets)
mode_within controls.Plain count nets some w = All-from_recursion (λ (k : NetId). k.0 < count) [] tt
mode_within (controls.Enable place) count nets some w = one_within count (net_at nets place) (net_at-within count nets place some w)
mode_within (controls.Clear place) count nets some w = one_within count (net_at nets place) (net_at-within count nets place some w)

flop_within : (cell : Cell) (pins : Pins) (count : ℕ) (nets : List NetId) → 0 < length nets → AreWithin count nets → IsFlopPlaced count (flop_of cell pins nets)
flop_within cell pins count nets h w =
    let some : 0 < count = some_count count nets h w in (
      net_at-within count nets pins.output some w,
      net_at-within count nets pins.input some w,
      net_at-within count nets pins.clock some w,
      mode_within pins.control count nets some w,
    )

-- What is built.

-- what is built so far, where `L` are the limits
pub record IsBuilding (L : Type 0) (scope : ℕ → Option Says) (b : Built) : Type 0 where
  pub placing : IsPlacing scope b.made
  pub few : L → length b.made.names ≤ 100000
  pub gates_within : All (GateUnder L (length b.made.names)) b.gates
  pub flops_within : All (IsFlopPlaced (length b.made.names)) b.flops

-- what a part, or parts, make of it
pub record Builds (L : Type 0) (scope : ℕ → Option Says) (before after : Built) : Type 0 where
  pub grows : length before.made.names ≤ length after.made.names
  pub building : IsBuilding L scope after

gates_more : (L : Type 0) (n m : ℕ) (gs : List Gate) → n ≤ m → All (GateUnder L n) gs → All (GateUnder L m) gs
gates_more L n m gs le all =
    All-weaker (GateUnder L n) (GateUnder L m) (λ g w. (omega (arith, w.0, le), nets_more n m g.ins le w.1, w.2)) gs all

mode_more : (n m : ℕ) (mode : Mode) → n ≤ m → IsModePlaced n mode → IsModePlaced m mode
mode_more n m modes.Plain le w = All-from_recursion (λ (k : NetId). k.0 < m) [] tt
mode_more n m (modes.Enable e) le w = nets_more n m (e ∷ []) le w
mode_more n m (modes.Clear r) le w = nets_more n m (r ∷ []) le w

flops_more : (n m : ℕ) (fs : List Flop) → n ≤ m → All (IsFlopPlaced n) fs → All (IsFlopPlaced m) fs
flops_more n m fs le all =
    All-weaker (IsFlopPlaced n) (IsFlopPlaced m) (λ f w. (
      omega (arith, w.0, le),
      omega (arith, w.1, le),
      omega
          (arith, w.2, le),
      mode_more n m f.mode le w.3,
    )) fs
    all

abbrev no_nets : NetTable → List NetId × NetTable
no_nets made = ([], made)

with_gates_built : (L : Type 0) (table : List (List ℕ)) (scope : ℕ → Option Says) (kind : Kind) (b after : Built) (cs : List Connection) → IsBuilding L scope b
    → (L → length cs < 4294967296)
    → ((2 ≤ length cs) × (list_all has_term cs ≡ true)) ⊎ (is_single kind ≡ true) → with_gates table scope kind b cs ≡ Ok after → Builds L scope b after
with_gates_built L table scope kind b after cs p short shape e = by (connection_nets table scope cs b.made) refl e
  where
    enough : (n : ℕ) → 0 + term_count cs ≤ n → ((2 ≤ length cs) × (list_all has_term cs ≡ true)) ⊎ (is_single kind ≡ true) → (2 ≤ n) ⊎ (is_single kind ≡ true)
    enough n h (inl two) = let all : term_count cs ≡ length cs = all_terms cs two.1 in inl (omega (arith, h, all, two.0))
    enough n h (inr single) = inr single

    by : (r : Result (List NetId × NetTable) VerilogFault) → connection_nets table scope cs b.made ≡ r
        → (r >>= λ placed. Ok (record { made = placed.1; gates = b.gates ++ gates_of kind placed.0; flops = b.flops })) ≡ Ok after → Builds L scope b after
    by (Err fault) is x = absurd cc
    by (Ok placed) is x =
        let nets = connections_placed table scope cs (no_nets b.made) placed p.placing
        (All-from_recursion (λ (n : NetId). n.0 < length b.made.names) [] tt) is in
        let new : Built = record { made = placed.1; gates = b.gates ++ gates_of kind placed.0; flops = b.flops } in
        let eq : new ≡ after = cc in
        let shorter : L → length placed.0 < 4294967296 = λ l. let less = short l in omega (arith, nets.few, less) in
        rw (← eq)
        (record {
          grows = nets.goes.grows;
          building = record {
            placing = nets.goes.placing;
            few = λ l. nets.goes.few (p.few l);
            gates_within =
                All-append (GateUnder L (length placed.1.names)) b.gates (gates_of kind placed.0)
                (gates_more L (length b.made.names) (length placed.1.names) b.gates nets.goes.grows p.gates_within)
                (gates_within L kind (length placed.1.names) placed.0 nets.within shorter (enough (length placed.0) nets.enough shape));
            flops_within = flops_more (length b.made.names) (length placed.1.names) b.flops nets.goes.grows p.flops_within;
          };
        })

with_flop_built : (L : Type 0) (table : List (List ℕ)) (scope : ℕ → Option Says) (cell : Cell) (pins : Pins) (b after : Built) (cs : List Connection) → IsBuilding L scope b
    → 0 < length cs → list_all has_term cs ≡ true → with_flop table scope cell pins b cs ≡ Ok after → Builds L scope b after
with_flop_built L table scope cell pins b after cs p some full e = by (connection_nets table scope cs b.made) refl e
  where
    by : (r : Result (List NetId × NetTable) VerilogFault) → connection_nets table scope cs b.made ≡ r
        → (r >>= λ placed. Ok (record { made = placed.1; gates = b.gates; flops = b.flops ++ flop_of cell pins placed.0 ∷ [] })) ≡ Ok after
        → Builds L scope b after
    by (Err fault) is x = absurd cc
    by (Ok placed) is x =
        let nets = connections_placed table scope cs (no_nets b.made) placed p.placing
        (All-from_recursion (λ (n : NetId). n.0 < length b.made.names) [] tt) is in
        let new : Built = record { made = placed.1; gates = b.gates; flops = b.flops ++ flop_of cell pins placed.0 ∷ [] } in
        let eq : new ≡ after = cc in
        let all : term_count cs ≡ length cs = all_terms cs full in
        let here : 0 < length placed.0 = omega (arith, nets.enough, all, some) in
        rw (← eq)
        (record {
          grows = nets.goes.grows;
          building = record {
            placing = nets.goes.placing;
            few = λ l. nets.goes.few (p.few l);
            gates_within = gates_more L (length b.made.names) (length placed.1.names) b.gates nets.goes.grows p.gates_within;
            flops_within =
                All-append (IsFlopPlaced (length placed.1.names)) b.flops (flop_of cell pins placed.0 ∷ [])
                (flops_more (length b.made.names) (length placed.1.names) b.flops nets.goes.grows p.flops_within)
                (All-from_recursion (IsFlopPlaced (length placed.1.names)) (flop_of cell pins placed.0 ∷ [])
                (flop_within cell pins (length placed.1.names) placed.0 here nets.within, tt));
          };
        })

and_left : (a b : Bool) → (a && b) ≡ true → a ≡ true
and_left true b e = refl
and_left false b e = absurd cc

and_right : (a b : Bool) → (a && b) ≡ true → b ≡ true
and_right true b e = e
and_right false b e = absurd cc

gate_shape : (kind : Kind) (cs : List Connection) → is_gate kind cs ≡ true → (2 ≤ length cs) × (list_all has_term cs ≡ true)
unfolding is_gate
gate_shape kind cs e =
    let outputs : Bool = not (list_any is_constant (take (output_count kind (length cs)) cs)) in
    let two : Bool = nat_le 2 (length cs) in
    by two (list_all has_term cs) outputs refl refl e
  where
    by : (a b c : Bool) → nat_le 2 (length cs) ≡ a → list_all has_term cs ≡ b → (a && b && c) ≡ true → (2 ≤ length cs) × (list_all has_term cs ≡ true)
    by true true c f g x = (leb-true 2 (length cs) f, g)
    by true false c f g x = absurd cc
    by false b c f g x = absurd cc

has_pins : (cell : Cell) → 0 < length (pin_list cell)
has_pins Dff = omega arith
has_pins Dffs = omega arith
has_pins Dffe = omega arith
has_pins Dffr = omega arith

cell_shape : (table : List (List ℕ)) (cell : Cell) (cs : List Connection) (pins : Pins) → cell_pins table cell cs ≡ Some pins
    → (0 < length cs) × (list_all has_term cs ≡ true)
unfolding cell_pins
cell_shape table cell cs pins e = by (length cs == length (pin_list cell)) (list_all has_term cs) refl refl e
  where
    inner : Option Pins
    inner = elim (pins_of table cell cs) [ Some found ↦ cond (is_constant (get_or cs found.output Empty)) None (Some found) | None ↦ None ]

    by : (a b : Bool) → (length cs == length (pin_list cell)) ≡ a → list_all has_term cs ≡ b → cond (a && b) inner None ≡ Some pins
        → (0 < length cs) × (list_all has_term cs ≡ true)
    by true true f g x =
        let each : length cs ≡ length (pin_list cell) = eqb-true (length cs) (length (pin_list cell)) f in
        (omega (arith, each, has_pins cell), g)
    by true false f g x = absurd cc
    by false b f g x = absurd cc

with_part_built : (L : Type 0) (table : List (List ℕ)) (scope : ℕ → Option Says) (b after : Built) (p : Component) → IsBuilding L scope b → (L → length p.connections < 4294967296)
    → with_part table scope b p ≡ Ok after → Builds L scope b after
unfolding with_part
with_part_built L table scope b after p built short e = by p.shape e
  where
    cs : List Connection
    cs = p.connections

    gate : (kind : Kind) (t : Bool) → is_gate kind cs ≡ t → cond t (with_gates table scope kind b cs) (Err (Terminals p.at)) ≡ Ok after → Builds L scope b after
    gate kind true is x = with_gates_built L table scope kind b after cs built short (inl (gate_shape kind cs is)) x
    gate kind false is x = absurd cc

    assign : (t : Bool) → cond t (with_gates table scope Buf b cs) (Err (Terminals p.at)) ≡ Ok after → Builds L scope b after
    assign true x = with_gates_built L table scope Buf b after cs built short (inr refl) x
    assign false x = absurd cc

    cell : (c : Cell) (o : Option Pins) → cell_pins table c cs ≡ o
        → ◌≡◌ {A = Result Built VerilogFault} (elim o [ Some pins ↦ with_flop table scope c pins b cs | None ↦ Err (Terminals p.at) ]) (Ok after)
        → Builds L scope b after
    cell c (Some pins) is x = let shape = cell_shape table c cs pins is in with_flop_built L table scope c pins b after cs built shape.0 shape.1 x
    cell c None is x = absurd cc

    by : (s : Shape)
        → ◌≡◌ {A = Result Built VerilogFault}
        (elim s [
          | shapes.Gate kind ↦ cond (is_gate kind cs) (with_gates table scope kind b cs) (Err (Terminals p.at))
          | shapes.Cell c ↦ (elim (cell_pins table c cs) [ Some pins ↦ with_flop table scope c pins b cs | None ↦ Err (Terminals p.at) ])
          | shapes.Assign ↦ cond (is_assignment cs) (with_gates table scope Buf b cs) (Err (Terminals p.at))
        ])
        (Ok after)
        → Builds L scope b after
    by (shapes.Gate kind) x = gate kind (is_gate kind cs) refl x
    by (shapes.Cell c) x = cell c (cell_pins table c cs) refl x
    by shapes.Assign x = assign (is_assignment cs) x

pub with_parts_built : (L : Type 0) (table : List (List ℕ)) (scope : ℕ → Option Says) (b after : Built) (parts : List Component) → IsBuilding L scope b → (L → AreShort parts)
    → with_parts table scope b parts ≡ Ok after → Builds L scope b after
unfolding each
with_parts_built L table scope b after [] p short e = let eq : b ≡ after = cc in rw (← eq) (record { grows = omega arith; building = p })
with_parts_built L table scope b after (part ∷ parts) p short e = by (λ mid building x. with_parts_built L table scope mid after parts building others x)
    (with_part table scope b part) refl e
  where
    others : L → AreShort parts
    others l = λ k d lt. short l (suc k) d (omega (arith, lt))

    by : ((mid : Built) → IsBuilding L scope mid → with_parts table scope mid parts ≡ Ok after → Builds L scope mid after) → (r : Result Built VerilogFault)
        → with_part table scope b part ≡ r → (r >>= λ more. with_parts table scope more parts) ≡ Ok after → Builds L scope b after
    by rest (Err fault) is x = absurd cc
    by rest (Ok mid) is x =
        let one = with_part_built L table scope b mid part p (λ l. short l 0 part (omega arith)) is in
        let more = rest mid one.building x in
        record { grows = omega (arith, one.grows, more.grows); building = more.building }

built_within : (scope : ℕ → Option Says) (b : Built) → IsBuilding (Unit {0}) scope b → IsBuiltWithin b
built_within scope b p =
    let count : ℕ = length b.made.names in
    let gates : All (GateWithin count) b.gates =
    All-weaker (GateUnder (Unit {0}) count) (GateWithin count) (λ g w. let ins = w.2 tt in (w.0, (ins.0, w.1), ins.1)) b.gates p.gates_within in
    (p.few tt, p.placing.consts_within, gates, p.flops_within)

-- What a module begins with.

with_keys-grows : (names keys : List (List ℕ)) → length names ≤ length (with_keys names keys)
unfolding with_keys
with_keys-grows names [] = omega arith
with_keys-grows names (key ∷ keys) =
    let later = with_keys-grows (with_key names key) keys in
    omega (arith, with_key-grows names key, later)

with_keys-some : (keys : List (List ℕ)) → 0 < length keys → 0 < length (with_keys [] keys)
unfolding with_keys
with_keys-some [] h = absurd (omega (arith, h))
with_keys-some (key ∷ keys) h =
    let first = with_key-some [] key in
    omega (arith, first, with_keys-grows (with_key [] key) keys)

numbered_few : (table : List (List ℕ)) (nets : List Known) (count : ℕ) (names : List (List ℕ)) → length names ≤ count → count ≤ 100000
    → first_over table count nets ≡ None
    → length (with_keys names (flat_map (keys_of table) nets)) ≤ 100000
unfolding with_keys
numbered_few table [] count names within few none = omega (arith, within, few)
numbered_few table (k ∷ ks) count names within few none =
    let next = few_step table (length names) k ks (record { count = count; within = within; few = few; none = none }) in
    let added = with_keys-room names (keys_of table k) in
    rw (with_keys-append names (keys_of table k) (flat_map (keys_of table) ks))
    (numbered_few table ks (count + length (keys_of table k)) (with_keys names (keys_of table k)) (omega (arith, within, added)) next.0 next.1)

some_keys : (table : List (List ℕ)) (k : Known) → 0 < length (keys_of table k)
some_keys table k = by (text table k.name) k.range
  where
    by : (name : List ℕ) (r : Option Range) → 0 < length (keys name r)
    by name None = omega (arith, one_bit name)
    by name (Some r) = omega (arith, keys-length name r)

some_numbered : (table : List (List ℕ)) (nets : List Known) → 0 < length nets → 0 < length (numbered table nets)
some_numbered table [] h = absurd (omega (arith, h))
some_numbered table (k ∷ ks) h =
    with_keys-some (keys_of table k ++ flat_map (keys_of table) ks)
    (omega (arith, length-append (keys_of table k) (flat_map (keys_of table) ks), some_keys table k))

some_ports : (m : Module) → 0 < length m.header → 0 < length (known_nets m)
unfolding known_nets
some_ports m h =
    omega (arith, h, length-append (map (known (said m.declared)) m.header) (others m), length-map m.header (known (said m.declared)))
  where
    others : Module → List Known
    others m = map (λ d. known (said m.declared) d.name) (filter (λ d. not (is_in m.header d.name.id)) m.declared)

some_declared : (m : Module) → 0 < length m.declared → 0 < length (known_nets m)
unfolding known_nets
some_declared m h = by m.header m.declared h
  where
    net : Declared → Known
    net d = known (said m.declared) d.name

    by : (header : List Name) (declared : List Declared) → 0 < length declared
        → 0 < length (map (known (said m.declared)) header ++ map net (filter (λ d. not (is_in header d.name.id)) declared))
    by [] [] h = absurd (omega (arith, h))
    by [] (d ∷ ds) h = omega arith
    by (n ∷ ns) declared h = omega arith

said_some : (ds : List Declared) (id : ℕ) (s : Says) → said ds id ≡ Some s → 0 < length ds
unfolding said
said_some [] id s e = absurd cc
said_some (d ∷ ds) id s e = omega arith

nets_of-within : (names keys : List (List ℕ)) → 0 < length names → AreWithin (length names) (nets_of names keys)
nets_of-within names [] some = All-from_recursion (λ (n : NetId). n.0 < length names) [] tt
nets_of-within names (key ∷ keys) some =
    All-append (λ (n : NetId). n.0 < length names) (net_of names key ∷ []) (nets_of names keys)
    (All-from_recursion (λ (n : NetId). n.0 < length names) (net_of names key ∷ []) (net_within names key some, tt)) (nets_of-within names keys some)

consts_of-within : (names keys : List (List ℕ)) (b : Bool) → 0 < length names → ConstsWithin (length names) (consts_of b (nets_of names keys))
consts_of-within names [] b some = All-from_recursion (λ (k : Const). k.net.0 < length names) [] tt
consts_of-within names (key ∷ keys) b some =
    let here : Const = record { net = net_of names key; value = b } in
    All-append (λ (k : Const). k.net.0 < length names) (here ∷ []) (consts_of b (nets_of names keys))
    (All-from_recursion (λ (k : Const). k.net.0 < length names) (here ∷ []) (net_within names key some, tt)) (consts_of-within names keys b some)

supplies_within : (table names : List (List ℕ)) (ds : List Declared) → (0 < length ds → 0 < length names)
    → ConstsWithin (length names) (flat_map (supply_consts table names) ds)
unfolding supply_consts
supplies_within table names [] some = All-from_recursion (λ (k : Const). k.net.0 < length names) [] tt
supplies_within table names (d ∷ ds) some =
    All-append (λ (k : Const). k.net.0 < length names) (supply_consts table names d) (flat_map (supply_consts table names) ds) (here (supplied d.says.net))
    (supplies_within table names ds (λ h. some (omega arith)))
  where
    here : (o : Option Bool) → ConstsWithin (length names) (elim o [ Some b ↦ consts_of b (nets_of names (keys (text table d.name) d.says.range)) | None ↦ [] ])
    here (Some b) = consts_of-within names (keys (text table d.name) d.says.range) b (some (omega arith))
    here None = All-from_recursion (λ (k : Const). k.net.0 < length names) [] tt

ports_within : (direction : code.Direction) (table : List (List ℕ)) (scope : ℕ → Option Says) (names : List (List ℕ)) (header : List Name)
    → (0 < length header → 0 < length names)
    → AreWithin (length names) (port_nets direction table scope names header)
unfolding port_bits
ports_within direction table scope names [] some = All-from_recursion (λ (n : NetId). n.0 < length names) [] tt
ports_within direction table scope names (n ∷ ns) some =
    All-append (λ (k : NetId). k.0 < length names) (port_bits direction table scope names n) (port_nets direction table scope names ns)
    (here (is_towards direction (direction_of (scope n.id)))) (ports_within direction table scope names ns (λ h. some (omega arith)))
  where
    here : (b : Bool) → AreWithin (length names) (cond b (nets_of names (keys_of table (known scope n))) [])
    here true = nets_of-within names (keys_of table (known scope n)) (some (omega arith))
    here false = All-from_recursion (λ (k : NetId). k.0 < length names) [] tt

-- a declared name has nets
pub declared_has_nets : (table : List (List ℕ)) (m : Module) (id : ℕ) (s : Says) → said m.declared id ≡ Some s
    → 0 < length (numbered table (known_nets m))
declared_has_nets table m id s e = some_numbered table (known_nets m) (some_declared m (said_some m.declared id s e))

start_building : (L : Type 0) (table : List (List ℕ)) (m : Module) → (L → first_over table 0 (known_nets m) ≡ None)
    → IsBuilding L (said m.declared) (start_of table m)
start_building L table m none =
    let names : List (List ℕ) = numbered table (known_nets m) in
    record {
      placing =
          record {
            consts_within = supplies_within table names m.declared (λ h. some_numbered table (known_nets m) (some_declared m h));
            declared = declared_has_nets table m;
          };
      few = λ l. numbered_few table (known_nets m) 0 [] (omega arith) (omega arith) (none l);
      gates_within = All-from_recursion (GateUnder L (length names)) [] tt;
      flops_within = All-from_recursion (IsFlopPlaced (length names)) [] tt;
    }

-- what the parts of a module build, and its ports
pub record IsModuleBuilt (L : Type 0) (table : List (List ℕ)) (m : Module) (after : Built) : Type 0 where
  pub builds : Builds L (said m.declared) (start_of table m) after
  pub inputs_within :
      AreWithin (length after.made.names) (port_nets directions.Input table (said m.declared) (start_of table m).made.names m.header)
  pub outputs_within :
      AreWithin (length after.made.names) (port_nets directions.Output table (said m.declared) (start_of table m).made.names m.header)

pub module_built : (L : Type 0) (table : List (List ℕ)) (m : Module) (after : Built) → (L → first_over table 0 (known_nets m) ≡ None)
    → (L → AreShort m.parts)
    → with_parts table (said m.declared) (start_of table m) m.parts ≡ Ok after → IsModuleBuilt L table m after
module_built L table m after none short e =
    let names : List (List ℕ) = numbered table (known_nets m) in
    let builds = with_parts_built L table (said m.declared) (start_of table m) after m.parts (start_building L table m none) short e in
    let some : 0 < length m.header → 0 < length names = λ h. some_numbered table (known_nets m) (some_ports m h) in
    record {
      builds = builds;
      inputs_within =
          nets_more (length names) (length after.made.names) (port_nets directions.Input table (said m.declared) names m.header) builds.grows
          (ports_within directions.Input table (said m.declared) names m.header some);
      outputs_within =
          nets_more (length names) (length after.made.names) (port_nets directions.Output table (said m.declared) names m.header) builds.grows
          (ports_within directions.Output table (said m.declared) names m.header some);
    }

module_within : (table : List (List ℕ)) (m : Module) (after : Built) → first_over table 0 (known_nets m) ≡ None → AreShort m.parts
    → with_parts table (said m.declared) (start_of table m) m.parts ≡ Ok after
    → IsFinished after (port_nets directions.Input table (said m.declared) (start_of table m).made.names m.header)
    (port_nets directions.Output table (said m.declared) (start_of table m).made.names m.header)
module_within table m after none short e =
    let built = module_built (Unit {0}) table m after (λ l. none) (λ l. short) e in
    record {
      parts_within = built_within (said m.declared) after built.builds.building;
      inputs_within = built.inputs_within;
      outputs_within = built.outputs_within;
    }

pub will_finish : (table : List (List ℕ)) (m : Module) (scope : ℕ → Option Says) (header : List Name) (parts : List Component) (start : Built)
    → scope ≡ said m.declared
    → header ≡ m.header → parts ≡ m.parts → start ≡ start_of table m → first_over table 0 (known_nets m) ≡ None → AreShort parts
    → WillFinish table scope header parts start
will_finish table m scope header parts start hs hh hp hb none short =
    let all : AreShort m.parts = rw (← hp) short in
    rw (hs, hh, hp, hb) (record { is = λ after e. module_within table m after none all e })

pub finished_as : (table : List (List ℕ)) (m : Module) (scope : ℕ → Option Says) (header : List Name) (parts : List Component) (start : Built)
    → scope ≡ said m.declared
    → header ≡ m.header → parts ≡ m.parts → start ≡ start_of table m → finished_of table scope header parts start ≡ built_of table m
unfolding built_of
finished_as table m scope header parts start hs hh hp hb = rw (hs, hh, hp, hb) refl

pub finished_is : (table : List (List ℕ)) (scope : ℕ → Option Says) (header : List Name) (parts : List Component) (start after : Built) (ins outs : List NetId)
    → with_parts table scope start parts ≡ Ok after → port_nets directions.Input table scope start.made.names header ≡ ins
    → port_nets directions.Output table scope start.made.names header ≡ outs
    → finished_of table scope header parts start ≡ Ok (parts_with after ins outs)
finished_is table scope header parts start after ins outs e ei eo =
    let inputs : List NetId = port_nets directions.Input table scope start.made.names header in
    let outputs : List NetId = port_nets directions.Output table scope start.made.names header in
    ap (λ (r : Result Built VerilogFault). r >>= λ b. Ok (parts_with b inputs outputs)) e ∙ ap (λ i. Ok (parts_with after i outputs)) ei
    ∙ ap (λ o. Ok (parts_with after ins o)) eo

-- parts that are short, one after the other

pub short_more : (parts : List Component) (i n : ℕ) (item : Component) → i < length parts → item ≡ get_or parts i item → n ≡ length item.connections →
    n < 4294967296
    → AreShort (take i parts)
    → AreShort (take (i + 1) parts)
short_more parts i n item h is e less so_far =
    let here : length item.connections < 4294967296 = omega (arith, e, less) in
    All-more (λ (p : Component). length p.connections < 4294967296) parts i item h so_far (rw (← is) here)

pub short_all : (parts : List Component) (i : ℕ) → length parts ≤ i → AreShort (take i parts) → AreShort parts
short_all parts i h so_far = rw (take_all i parts h) at so_far
