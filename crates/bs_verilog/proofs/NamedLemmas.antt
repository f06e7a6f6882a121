-- The nets of what is read have names of one or more bytes 33 to 126.
use Rattle.std.proofs.Common.{◌≡◌, ℕ, zero, suc, ◌+◌, ◌<◌, ◌≤◌, ◌/◌, ◌%◌, Bool, true, false, cond, ◌==◌, List, [], ◌∷◌, ◌++◌, length}
use Rattle.std.proofs.Common.{Option, Some, None, Result, Ok, Err, ◌⊎◌, inl, inr, refl, arith}
use Rattle.std.specs.Prelude.{IfOk, is_some, nat_lt, codes, if◌then◌else◌}
use Rattle.std.specs.Fmt.{decimal, digits, digits_onto, digit_glyph}
use Rattle.std.specs.List.{All, flat_map, list_any, range_with_len}
use Rattle.std.specs.Str.{bytes_eq}
use Rattle.std.proofs.lemmas.Bool.{lt-ltb, ltb-false, and_parts, and_from, cond_both, cases_lt}
use Rattle.std.proofs.lemmas.List.{get_or_past}
use Rattle.std.proofs.lemmas.List.Elements.{All-nil, All-cons, All-append, All-map, All-push}
use Rattle.std.proofs.lemmas.Result.{IfOk-at_ok}
use Rattle.bs_bits.specs.Lines.{is_name, is_visible}
use Rattle.bs_bits.specs.Reading.{◌>>=◌}
use Rattle.bs_net.specs.declared.net.NetId.{NetId}
use Rattle.bs_net.specs.declared.gate.Kind.{Kind}
use Rattle.bs_net.specs.declared.gate.Kind.TheVariants.{Buf}
use Rattle.bs_net.specs.Names.{with_key}
use Rattle.bs_net.specs.Parts.{Parts}
use Rattle.bs_lex.specs.Bytes.{is_graphic}
use Rattle.bs_lex.specs.Tokens.{tokens_of}
use Rattle.bs_lex.specs.declared.token.Token.{Token}
use Rattle.bs_lex.specs.declared.lexeme.Cell.{Cell}
use Rattle.bs_lex.specs.declared.lexeme.Name.{Name}
use Rattle.bs_lex.specs.Lexemes.{lexemes_of, names_of}
use Rattle.bs_verilog_syntax.specs.declared.fault.VerilogFault.{VerilogFault}
use Rattle.bs_verilog_syntax.specs.declared.fault.VerilogFault.TheVariants.{Syntax, Terminals}
use Rattle.bs_verilog_syntax.specs.declared.tree.Component.{Component}
use Rattle.bs_verilog_syntax.specs.declared.tree.Connection.{Connection}
use Rattle.bs_verilog_syntax.specs.declared.tree.Module.{Module}
use Rattle.bs_verilog_syntax.specs.declared.tree.Range.{Range}
use Rattle.bs_verilog_syntax.specs.declared.tree.Says.{Says}
use Rattle.bs_verilog_syntax.specs.declared.tree.Shape.{Shape}
use Rattle.bs_verilog_syntax.specs.declared.tree.Shape.TheVariants as shapes
use Rattle.bs_verilog_syntax.specs.declared.tree.Term.{Term}
use Rattle.bs_verilog_syntax.specs.declared.tree.Term.TheVariants.{Constant, Named}
use Rattle.bs_verilog_syntax.specs.Modules.{syntax_of}
use Rattle.bs_verilog_scope.specs.declared.numbering.Known.{Known}
use Rattle.bs_verilog_scope.specs.Declaring.{declaring_fault, keys_of, known_nets, said}
use Rattle.bs_verilog_scope.specs.Keys.{bit_key, constant_key, index_at, is_plain, keys, scalar_key, text, width}
use Rattle.bs_verilog_scope.specs.Nets.{net_of, numbered, with_keys}
use Rattle.bs_verilog.specs.declared.building.Built.{Built}
use Rattle.bs_verilog.specs.declared.placing.NetTable.{NetTable}
use Rattle.bs_verilog.specs.declared.pins.Pins.{Pins}
use Rattle.bs_verilog.specs.Terminals.{cell_pins, is_assignment, is_gate, term_of}
use Rattle.bs_verilog.specs.Building.{connection_nets, constant_net, declared_key, each, has_key, implicit_net, is_full, named_net, term_net, with_connection}
use Rattle.bs_verilog.specs.Building.{flop_of, gates_of, with_flop, with_gates, with_part, with_parts}
use Rattle.bs_verilog.specs.Netlist.{built_of, finished_of, meaning_of, netlist_text, start_of}
use Rattle.bs_verilog.specs.Law.{AreNames, NetsAreNamed}
use Rattle.bs_verilog.proofs.SpellingLemmas.{IsVisible, IsVisibleToken, seen, table_is_visible, text_is_visible}

-- ---- texts

abbrev pub IsNamed : List ℕ → Type 0
IsNamed key = is_name key ≡ true

pub named : (c : ℕ) (rest : List ℕ) → IsVisible (c ∷ rest) → IsNamed (c ∷ rest)
named c rest v = and_from (nat_lt 0 (length (c ∷ rest))) (is_visible (c ∷ rest)) (lt-ltb 0 (length (c ∷ rest)) (omega arith)) v

pub visible_append : (front back : List ℕ) → IsVisible front → IsVisible back → IsVisible (front ++ back)
visible_append [] back f b = b
visible_append (c ∷ front) back f b =
    let p = and_parts (is_graphic c) (is_visible front) f in
    and_from (is_graphic c) (is_visible (front ++ back)) p.0 (visible_append front back p.1 b)

pub named_append : (front back : List ℕ) → IsVisible front → IsNamed back → IsNamed (front ++ back)
named_append [] back f b = b
named_append (c ∷ front) back f b = named c (front ++ back) (visible_append (c ∷ front) back f (and_parts (nat_lt 0 (length back)) (is_visible back) b).1)

glyph : (d : ℕ) → d < 10 → is_graphic (digit_glyph false d) ≡ true
glyph d h =
    cond_both (nat_lt d 10) (48 + d) (cond false (55 + d) (87 + d)) (λ g. is_graphic g ≡ true)
    (λ _. seen (48 + d) (omega arith) (omega (arith, h))) (λ (e : nat_lt d 10 ≡ false). absurd (omega (arith, h, ltb-false d 10 e)))

digits_are_visible : (k n : ℕ) (later : List ℕ) → IsVisible later → IsVisible (digits_onto k 10 false n later)
digits_are_visible zero n later v = v
digits_are_visible (suc k) n later v =
    let more : IsVisible (digit_glyph false (n % 10) ∷ later) = and_from _ (is_visible later) (glyph (n % 10) (omega arith)) v in
    cond_both (n / 10 == 0) _ _ IsVisible (λ _. more) (λ _. digits_are_visible k (n / 10) (digit_glyph false (n % 10) ∷ later) more)

decimal_is_visible : (n : ℕ) → IsVisible (decimal n)
unfolding digits
decimal_is_visible n = digits_are_visible 64 n [] refl

-- ---- keys

pub scalar_named : (name : List ℕ) → IsVisible name → IsNamed (scalar_key name)
unfolding scalar_key
scalar_named [] v = refl
scalar_named (c ∷ name) v =
    cond_both (is_plain (c ∷ name)) _ _ IsNamed (λ _. named c name v) (λ _. named 92 (c ∷ name) (and_from true (is_visible (c ∷ name)) refl v))

bit_named : (name : List ℕ) (i : ℕ) → IsVisible name → IsNamed (bit_key name i)
unfolding bit_key
bit_named name i v =
    let closed : IsVisible (decimal i ++ codes "]") = visible_append (decimal i) (codes "]") (decimal_is_visible i) refl in
    let index : IsVisible (codes "[" ++ decimal i ++ codes "]") = closed in
    let escaped : IsVisible (codes "[" ++ decimal i ++ codes "]" ++ codes "\\" ++ name) =
    visible_append (codes "[" ++ decimal i ++ codes "]" ++ codes "\\") name
    (visible_append (codes "[" ++ decimal i ++ codes "]") (codes "\\") index refl) v in
    cond_both (is_plain name) _ _ IsNamed (λ _. named_append name (codes "[" ++ decimal i ++ codes "]") v (named 91 (decimal i ++ codes "]") index))
    (λ _. named 91 (decimal i ++ codes "]" ++ codes "\\" ++ name) escaped)

pub constant_named : (b : Bool) → IsNamed (constant_key b)
constant_named true = refl
constant_named false = refl

pub text_visible : (table : List (List ℕ)) (n : Name) → All IsVisible table → IsVisible (text table n)
text_visible table n h = by (cases_lt n.id (length table))
  where
    by : (n.id < length table) ⊎ (length table ≤ n.id) → IsVisible (text table n)
    by (inl within) = h n.id [] within
    by (inr past) = rw (get_or_past table n.id [] past) refl

keys_named : (name : List ℕ) (range : Option Range) → IsVisible name → AreNames (keys name range)
unfolding keys
keys_named name None v = All-cons IsNamed (scalar_key name) [] (scalar_named name v) (All-nil IsNamed)
keys_named name (Some r) v =
    All-map IsNamed (λ k. bit_key name (index_at r k)) (range_with_len 0 (width r)) (λ i d lt. bit_named name _ v)

pub key_more : (names : List (List ℕ)) (key : List ℕ) → AreNames names → IsNamed key → AreNames (with_key names key)
key_more names key h k = cond_both (list_any (bytes_eq key) names) names (names ++ key ∷ []) AreNames (λ _. h) (λ _. All-push IsNamed names key h k)

keys_more : (names keys : List (List ℕ)) → AreNames names → AreNames keys → AreNames (with_keys names keys)
unfolding with_keys
keys_more names [] h k = h
keys_more names (key ∷ keys) h k =
    keys_more (with_key names key) keys (key_more names key h (k 0 [] (omega arith))) (λ i d lt. k (suc i) d (omega (arith, lt)))

nets_named : (table : List (List ℕ)) (nets : List Known) → All IsVisible table → AreNames (flat_map (keys_of table) nets)
nets_named table [] v = All-nil IsNamed
nets_named table (net ∷ nets) v =
    All-append IsNamed (keys_of table net) (flat_map (keys_of table) nets) (keys_named (text table net.name) net.range (text_visible table net.name v))
    (nets_named table nets v)

numbered_named : (table : List (List ℕ)) (nets : List Known) → All IsVisible table → AreNames (numbered table nets)
numbered_named table nets v = keys_more [] (flat_map (keys_of table) nets) (All-nil IsNamed) (nets_named table nets v)

-- ---- terms

-- what follows keeps a property
followed : {A B : Type 0} (P : A → Type 0) (Q : B → Type 0) (r : Result A VerilogFault) (f : A → Result B VerilogFault) → IfOk r P
    → ((x : A) → P x → IfOk (f x) Q) → IfOk (r >>= f) Q
followed P Q (Ok x) f h on = on x h
followed P Q (Err fault) f h on = tt

-- each step keeps a property
each_keeps : {A B : Type 0} (P : B → Type 0) (step : B → A → Result B VerilogFault) → ((b : B) (x : A) → P b → IfOk (step b x) P)
    → (b : B) (xs : List A) → P b → IfOk (each step b xs) P
unfolding each
each_keeps P step keeps b [] h = h
each_keeps P step keeps b (x ∷ xs) h = followed P P (step b x) (λ more. each step more xs) (keeps b x h) (λ more on. each_keeps P step keeps more xs on)

abbrev MadeNamed : NetTable → Type 0
MadeNamed made = AreNames made.names

abbrev NetNamed : NetId × NetTable → Type 0
NetNamed placed = MadeNamed placed.1

abbrev NetsNamed : List NetId × NetTable → Type 0
NetsNamed placed = MadeNamed placed.1

abbrev BuiltNamed : Built → Type 0
BuiltNamed b = MadeNamed b.made

abbrev pub PartsNamed : Parts → Type 0
PartsNamed raw = AreNames raw.names

abbrev NetHolds : Result (NetId × NetTable) VerilogFault → Type 0
NetHolds r = IfOk r NetNamed

abbrev BuiltHolds : Result Built VerilogFault → Type 0
BuiltHolds r = IfOk r BuiltNamed

implicit_named : (key : List ℕ) (n : Name) (index : Option ℕ) (made : NetTable) → IsNamed key → MadeNamed made → IfOk (implicit_net key n index made) NetNamed
unfolding implicit_net
implicit_named key n index made k h =
    cond_both (is_full made.names key) _ _ NetHolds (λ _. tt)
    (λ _. cond_both (is_some index) _ _ NetHolds (λ _. tt) (λ _. key_more made.names key h k))

constant_placed : (at : ℕ) (b : Bool) (made : NetTable) → MadeNamed made → IfOk (constant_net at b made) NetNamed
unfolding constant_net
constant_placed at b made h =
    cond_both (is_full made.names (constant_key b)) _ _ NetHolds (λ _. tt)
    (λ _. cond_both (has_key made.names (constant_key b)) _ _ NetHolds (λ _. h)
    (λ _. key_more made.names (constant_key b) h (constant_named b)))

declared_named : (made : NetTable) (r : Result (List ℕ) VerilogFault) → MadeNamed made → IfOk (r >>= λ key. Ok (net_of made.names key, made)) NetNamed
declared_named made (Ok key) h = h
declared_named made (Err fault) h = tt

name_named : (name : List ℕ) (says : Option Says) (n : Name) (index : Option ℕ) (made : NetTable) → IsVisible name → MadeNamed made
    → IfOk (named_net name says n index made) NetNamed
unfolding named_net
name_named name (Some s) n index made v h = declared_named made (declared_key name s.range n index) h
name_named name None n index made v h = implicit_named (scalar_key name) n index made (scalar_named name v) h

module _ (table : List (List ℕ)) (scope : ℕ → Option Says) (v : All IsVisible table) where
  term_named : (t : Term) (made : NetTable) → MadeNamed made → IfOk (term_net table scope t made) NetNamed
  unfolding term_net
  term_named (Constant at b) made h = constant_placed at b made h
  term_named (Named n index) made h = name_named (text table n) (scope n.id) n index made (text_visible table n v) h

  connection_named : (before : List NetId × NetTable) (c : Connection) → NetsNamed before → IfOk (with_connection table scope before c) NetsNamed
  unfolding with_connection
  connection_named before c h = by (term_of c)
    where
      by : (o : Option Term) → IfOk (elim o [
        | Some t ↦ term_net table scope t before.1 >>= λ placed. Ok (before.0 ++ placed.0 ∷ [], placed.1)
        | None ↦ Ok before
      ]) NetsNamed
      by (Some t) =
          followed NetNamed NetsNamed (term_net table scope t before.1) (λ placed. Ok (before.0 ++ placed.0 ∷ [], placed.1)) (term_named t before.1 h)
          (λ placed on. on)
      by None = h

  connections_named : (cs : List Connection) (made : NetTable) → MadeNamed made → IfOk (connection_nets table scope cs made) NetsNamed
  connections_named cs made h = each_keeps NetsNamed (with_connection table scope) connection_named ([], made) cs h

  gates_named : (kind : Kind) (b : Built) (cs : List Connection) → BuiltNamed b → IfOk (with_gates table scope kind b cs) BuiltNamed
  gates_named kind b cs h =
      followed NetsNamed BuiltNamed (connection_nets table scope cs b.made)
      (λ placed. Ok (record { made = placed.1; gates = b.gates ++ gates_of kind placed.0; flops = b.flops })) (connections_named cs b.made h)
      (λ placed on. on)

  flop_named : (cell : Cell) (pins : Pins) (b : Built) (cs : List Connection) → BuiltNamed b → IfOk (with_flop table scope cell pins b cs) BuiltNamed
  flop_named cell pins b cs h =
      followed NetsNamed BuiltNamed (connection_nets table scope cs b.made)
      (λ placed. Ok (record { made = placed.1; gates = b.gates; flops = b.flops ++ flop_of cell pins placed.0 ∷ [] })) (connections_named cs b.made h)
      (λ placed on. on)

  part_named : (b : Built) (p : Component) → BuiltNamed b → IfOk (with_part table scope b p) BuiltNamed
  unfolding with_part
  part_named b p h = by p.shape
    where
      by_pins : (cell : Cell) (o : Option Pins) → IfOk (elim o [
        | Some pins ↦ with_flop table scope cell pins b p.connections
        | None ↦ Err (Terminals p.at)
      ]) BuiltNamed
      by_pins cell (Some pins) = flop_named cell pins b p.connections h
      by_pins cell None = tt

      by : (shape : Shape) → IfOk (elim shape [
        | shapes.Gate kind ↦ if is_gate kind p.connections then with_gates table scope kind b p.connections else Err (Terminals p.at)
        | shapes.Cell cell ↦
            elim (cell_pins table cell p.connections) [
              | Some pins ↦ with_flop table scope cell pins b p.connections
              | None ↦ Err (Terminals p.at)
            ]
        | shapes.Assign ↦ if is_assignment p.connections then with_gates table scope Buf b p.connections else Err (Terminals p.at)
      ]) BuiltNamed
      by (shapes.Gate kind) =
          cond_both (is_gate kind p.connections) _ _ BuiltHolds (λ _. gates_named kind b p.connections h) (λ _. tt)
      by (shapes.Cell cell) = by_pins cell (cell_pins table cell p.connections)
      by shapes.Assign =
          cond_both (is_assignment p.connections) _ _ BuiltHolds (λ _. gates_named Buf b p.connections h) (λ _. tt)

  parts_named : (b : Built) (parts : List Component) → BuiltNamed b → IfOk (with_parts table scope b parts) BuiltNamed
  parts_named b parts h = each_keeps BuiltNamed (with_part table scope) part_named b parts h

-- ---- netlists

pub module_named : (table : List (List ℕ)) (m : Module) → All IsVisible table → IfOk (meaning_of table m) PartsNamed
unfolding meaning_of built_of
module_named table m v = by (declaring_fault table m)
  where
    built : IfOk (finished_of table (said m.declared) m.header m.parts (start_of table m)) PartsNamed
    built =
        followed BuiltNamed PartsNamed (with_parts table (said m.declared) (start_of table m) m.parts) _
        (parts_named table (said m.declared) v (start_of table m) m.parts (numbered_named table (known_nets m) v)) (λ b on. on)

    by : (o : Option VerilogFault) → IfOk (elim o [ Some fault ↦ Err fault | None ↦ built_of table m ]) PartsNamed
    by (Some fault) = tt
    by None = built

module _ (source : List ℕ) where
  by_syntax : (tokens : List Token) (r : Result Module VerilogFault) → All (IsVisibleToken source) tokens
      → IfOk (r >>= λ m. meaning_of (names_of source tokens) m) PartsNamed
  by_syntax tokens (Ok m) v = module_named (names_of source tokens) m (table_is_visible source tokens v)
  by_syntax tokens (Err fault) v = tt

  by_tokens : (r : Result (List Token) ℕ) → IfOk r (All (IsVisibleToken source))
      → IfOk ((elim r [ Ok tokens ↦ Ok tokens | Err at ↦ Err (Syntax at) ]) >>= λ (tokens : List Token). syntax_of
      (lexemes_of source tokens) >>= λ m. meaning_of (names_of source tokens) m) PartsNamed
  by_tokens (Ok tokens) v = by_syntax tokens (syntax_of (lexemes_of source tokens)) v
  by_tokens (Err at) v = tt

  text_named : IfOk (netlist_text source) PartsNamed
  unfolding netlist_text
  text_named = by_tokens (tokens_of source) (text_is_visible source)

pub nets_are_named : NetsAreNamed
nets_are_named source raw e = IfOk-at_ok PartsNamed e (text_named source)
