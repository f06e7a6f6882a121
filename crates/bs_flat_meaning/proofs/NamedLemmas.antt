-- What a text is answered with has names of one or more bytes 33 to 126.
use Rattle.std.proofs.Common.{◌≡◌, ℕ, ◌-◌, Bool, true, false, List, [], ◌∷◌, length, map, Option, Some, None, Result, Ok, Err, refl}
use Rattle.std.specs.Prelude.{IfOk, nat_lt, slice_index_or, sum, zip}
use Rattle.std.specs.List.{All}
use Rattle.std.proofs.lemmas.Bool.{cond_both}
use Rattle.std.proofs.lemmas.List.Elements.{All-nil, All-cons, All-head, All-tail, All-map}
use Rattle.bs_net.specs.declared.limits.TheConstants.{MAX_NETS}
use Rattle.bs_net.specs.Parts.{Parts}
use Rattle.bs_lex.specs.declared.token.Token.{Token}
use Rattle.bs_lex.specs.Tokens.{tokens_of}
use Rattle.bs_lex.specs.Lexemes.{lexemes_of, names_of}
use Rattle.bs_verilog_syntax.specs.declared.fault.VerilogFault.{VerilogFault}
use Rattle.bs_verilog_syntax.specs.declared.fault.VerilogFault.TheVariants.{Syntax}
use Rattle.bs_verilog_syntax.specs.declared.tree.Module as code
use Rattle.bs_verilog_syntax.specs.declared.tree.Says.{Says}
use Rattle.bs_verilog_syntax.specs.declared.tree.Term.{Term}
use Rattle.bs_verilog_syntax.specs.declared.tree.Term.TheVariants.{Constant, Named}
use Rattle.bs_verilog_syntax.specs.Modules.{syntax_of}
use Rattle.bs_verilog_syntax.specs.Reading.{Rest, at}
use Rattle.bs_verilog_scope.specs.Keys.{constant_key, scalar_key, text}
use Rattle.bs_verilog.specs.Building.{has_key}
use Rattle.bs_verilog.specs.Netlist.{meaning_of, netlist_text}
use Rattle.bs_verilog.proofs.NamedLemmas.{PartsNamed, constant_named, key_more, module_named, nets_are_named, scalar_named, text_visible}
use Rattle.bs_verilog.proofs.SpellingLemmas.{IsVisible, IsVisibleToken, table_is_visible, text_is_visible}
use Rattle.bs_flat_meaning.specs.declared.fault.FlatFault.{FlatFault}
use Rattle.bs_flat_meaning.specs.declared.fault.FlatFault.TheVariants.{Connect, FlatDepth, FlatKeys, FlatNets, FlatParts, FlatTerminals, Tops, Twice}
use Rattle.bs_flat_meaning.specs.declared.limits.TheConstants.{MAX_KEY_BYTES, MAX_OWN_NETS, MAX_PARTS, MAX_TERMINALS}
use Rattle.bs_flat_meaning.specs.declared.statements.Written.{Written}
use Rattle.bs_flat_meaning.specs.Connecting.{ReadModule, scope_of, whole_parts, with_term, with_terms}
use Rattle.bs_flat_meaning.specs.Design.{Design, Instance, Module}
use Rattle.bs_flat_meaning.specs.Flat.{flat_parts}
use Rattle.bs_flat_meaning.specs.Pieces.{Piece, modules_of, own_text}
use Rattle.bs_flat_meaning.specs.Reading.{◌then◌, Answer, ringed, plain, AnswerFor, IsAnswer, TokensAnswer, all_of, as_verilog, fitting, owns_within, clash_in, clashing, connect_fault, connected_modules}
use Rattle.bs_flat_meaning.specs.Reading.{elaborated, first_of, first_top, flattened, gathered, instance_of, is_deep, limited, module_from, no_fault, part_count, terminal_count}
use Rattle.bs_flat_meaning.specs.Reading.{read_modules, read_own, read_written, second_instance, second_module, tops}
use Rattle.bs_flat_meaning.specs.Names.{FlatNetsAreNamed}
use Rattle.bs_flat_meaning.proofs.FlatKeyLemmas.{IsNamedModule, design_named}

-- ---- steps

-- what goes on keeps a property
goes_on : {A B : Type 0} (P : A → Type 0) (Q : B → Type 0) (r : Result A FlatFault) (f : A → Result B FlatFault) → IfOk r P
    → ((x : A) → P x → IfOk (f x) Q) → IfOk (r then f) Q
goes_on P Q (Ok x) f h on = on x h
goes_on P Q (Err fault) f h on = tt

fits_keep : {A : Type 0} (P : A → Type 0) (b : Bool) (place : ℕ) (later : Result A FlatFault) → IfOk later P → IfOk (fitting b place later) P
fits_keep P true place later h = tt
fits_keep P false place later h = h

owns_keep : {A : Type 0} (P : code.Module × Parts → Type 0) (place : A → ℕ) (f : A → Result (code.Module × Parts) FlatFault) → ((x : A) → IfOk (f x) P) →
    (room : ℕ) (xs : List A) → IfOk (owns_within place f room xs) (All P)
unfolding owns_within
owns_keep P place f each room [] = All-nil P
owns_keep P place f each room (x ∷ xs) =
    goes_on P (All P) (f x) _ (each x)
    (λ y h.
    fits_keep (All P) (nat_lt room (length y.1.names)) (place x) _
    (goes_on (All P) (All P) (owns_within place f (room - length y.1.names) xs) (λ ys. Ok (y ∷ ys))
    (owns_keep P place f each (room - length y.1.names) xs) (λ ys later. All-cons P y ys h later)))

verilog_keeps : {A : Type 0} (P : A → Type 0) (r : Result A VerilogFault) → IfOk r P → IfOk (as_verilog r) P
verilog_keeps P (Ok x) h = h
verilog_keeps P (Err fault) h = tt

within_limit : (b : Bool) (fault : FlatFault) (later : Result Parts FlatFault) → IfOk later PartsNamed → IfOk (limited b fault later) PartsNamed
within_limit true fault later h = tt
within_limit false fault later h = h

abbrev any : {A : Type 0} → A → Type 0
any x = Unit {0}

anyway : {A : Type 0} (r : Result A FlatFault) → IfOk r any
anyway (Ok x) = tt
anyway (Err fault) = tt

-- ---- modules that are read

abbrev OwnNamed : ReadModule → Type 0
OwnNamed m = PartsNamed m.own

abbrev SaidNamed : code.Module × Parts → Type 0
SaidNamed o = PartsNamed o.1

gathered_named : (owns : List (code.Module × Parts)) (written : List (List Written)) → All SaidNamed owns → All OwnNamed (map gathered (zip owns written))
gathered_named [] written h = All-nil OwnNamed
gathered_named (o ∷ owns) [] h = All-nil OwnNamed
gathered_named (o ∷ owns) (w ∷ written) h =
    All-cons OwnNamed (gathered (o, w)) (map gathered (zip owns written)) (All-head SaidNamed o owns h)
    (gathered_named owns written (All-tail SaidNamed o owns h))

module _ (table : List (List ℕ)) (v : All IsVisible table) where
  own_named : (ts : Rest) (p : Piece) → IfOk (read_own table ts p) SaidNamed
  own_named ts p =
      goes_on any SaidNamed (as_verilog (syntax_of (own_text ts p))) (λ m. as_verilog (meaning_of table m) then (λ parts. Ok (m, parts)))
      (anyway (as_verilog (syntax_of (own_text ts p))))
      (λ m _.
      goes_on PartsNamed SaidNamed (as_verilog (meaning_of table m)) (λ parts. Ok (m, parts))
      (verilog_keeps PartsNamed (meaning_of table m) (module_named table m v)) (λ parts h. h))

  modules_named : (ts : Rest) → IfOk (read_modules table ts) (All OwnNamed)
  unfolding read_modules
  modules_named ts =
      let ms = modules_of ts in
      goes_on any (All OwnNamed) (no_fault Twice (second_module [] ms)) _ (anyway (no_fault Twice (second_module [] ms)))
      (λ _ _.
      goes_on (All SaidNamed) (All OwnNamed) (owns_within (λ p. at p.body) (read_own table ts) MAX_OWN_NETS ms) _
      (owns_keep SaidNamed (λ p. at p.body) (read_own table ts) (own_named ts) MAX_OWN_NETS ms)
      (λ owns h.
      goes_on any (All OwnNamed) (all_of (read_written ms) ms) _ (anyway (all_of (read_written ms) ms))
      (λ written _.
      goes_on any (All OwnNamed) (no_fault Twice (first_of (map (second_instance []) written))) (λ _. Ok (map gathered (zip owns written)))
      (anyway (no_fault Twice (first_of (map (second_instance []) written))))
      (λ _ _. gathered_named owns written h))))

  -- ---- with the nets of connections

  term_named : (scope : ℕ → Option Says) (parts : Parts) (t : Term) → PartsNamed parts → PartsNamed (with_term table scope parts t)
  unfolding with_term
  term_named scope parts (Constant place b) h =
      cond_both (has_key parts.names (constant_key b)) _ _ PartsNamed (λ _. h)
      (λ _. key_more parts.names (constant_key b) h (constant_named b))
  term_named scope parts (Named n index) h = by (scope n.id)
    where
      by : (o : Option Says) → PartsNamed (elim o as (λ _. Parts) [
        | Some s ↦ parts
        | None ↦ Rattle.bs_flat_meaning.specs.Connecting.with_net parts (scalar_key (text table n))
      ])
      by (Some s) = h
      by None = key_more parts.names (scalar_key (text table n)) h (scalar_named (text table n) (text_visible table n v))

  terms_named : (scope : ℕ → Option Says) (parts : Parts) (ts : List Term) → PartsNamed parts → PartsNamed (with_terms table scope parts ts)
  unfolding with_terms
  terms_named scope parts [] h = h
  terms_named scope parts (t ∷ ts) h = terms_named scope (with_term table scope parts t) ts (term_named scope parts t h)

  whole_named : (m : ReadModule) → OwnNamed m → PartsNamed (whole_parts table m)
  unfolding whole_parts
  whole_named m h = terms_named (scope_of m) m.own _ h

  -- ---- the design

  module _ (ms : List Piece) (ks : List ReadModule) (h : All OwnNamed ks) where
    module_from_named : (m : ReadModule) → OwnNamed m → IsNamedModule (module_from table ms ks m)
    module_from_named m k =
        record {
          nets = whole_named m k;
          instances = All-map (λ (i : Instance). IsVisible i.name) (instance_of table ms ks m) m.written (λ i w lt. text_visible table (slice_index_or m.written i w).name v);
        }

    connected_named : IfOk (connected_modules table ms ks) (All IsNamedModule)
    unfolding connected_modules
    connected_named = by (connect_fault table ms ks)
      where
        by : (o : Option ℕ) → IfOk (elim o as (λ _. Result (List Module) FlatFault) [
          | Some place ↦ Err (Connect place)
          | None ↦ Ok (map (module_from table ms ks) ks)
        ]) (All IsNamedModule)
        by (Some place) = tt
        by None = All-map IsNamedModule (module_from table ms ks) ks (λ i m lt. module_from_named (slice_index_or ks i m) (h i m lt))

    elaborated_named : (d : Design) → All IsNamedModule d.modules → IfOk (elaborated d) PartsNamed
    unfolding elaborated
    elaborated_named d k =
        let parts = flat_parts d in
        within_limit (is_deep d) FlatDepth _
        (within_limit (nat_lt MAX_PARTS (part_count d)) FlatParts _
        (within_limit (nat_lt MAX_NETS (length parts.names)) FlatNets _
        (within_limit (nat_lt MAX_KEY_BYTES (sum (map length parts.names))) FlatKeys _ (by (clash_in parts.names)))))
      where
        by : (o : Option (List ℕ))
            → IfOk (clashing o (limited (nat_lt MAX_TERMINALS (terminal_count d)) FlatTerminals (Ok (flat_parts d)))) PartsNamed
        by (Some key) = tt
        by None = within_limit (nat_lt MAX_TERMINALS (terminal_count d)) FlatTerminals (Ok (flat_parts d)) (design_named d k)

    flattened_named : IfOk (flattened table ms ks) PartsNamed
    unfolding flattened
    flattened_named =
        within_limit (nat_lt 1 (length (tops ms ks))) (Tops (length (tops ms ks))) _
        (goes_on (All IsNamedModule) PartsNamed (connected_modules table ms ks)
        (λ modules. elaborated (record { modules = modules; top = first_top (tops ms ks) })) connected_named
        (λ modules k. elaborated_named (record { modules = modules; top = first_top (tops ms ks) }) k))

    answer_named : (r : Result Parts FlatFault) → Answer table ms ks r → IfOk r PartsNamed
    answer_named _ (ringed ring e) = tt
    answer_named _ (plain e) = flattened_named

  lexemes_named : (ts : Rest) (r : Result Parts FlatFault) → AnswerFor table ts r → IfOk r PartsNamed
  lexemes_named ts r a = by (read_modules table ts) (modules_named ts) a
    where
      by : (read : Result (List ReadModule) FlatFault) → IfOk read (All OwnNamed)
          → elim read as (λ _. Type 0) [ Ok ks ↦ Answer table (modules_of ts) ks r | Err fault ↦ (r ≡ Err fault) ] → IfOk r PartsNamed
      by (Ok ks) h a = answer_named (modules_of ts) ks h r a
      by (Err fault) h a = rw a tt

-- ---- texts

single_named : (source : List ℕ) (r : Result Parts FlatFault) → r ≡ as_verilog (netlist_text source) → IfOk r PartsNamed
single_named source r e = rw e (by (netlist_text source) refl)
  where
    by : (read : Result Parts VerilogFault) → netlist_text source ≡ read → IfOk (as_verilog read) PartsNamed
    by (Ok parts) q = nets_are_named source parts q
    by (Err fault) q = tt

module _ (source : List ℕ) (r : Result Parts FlatFault) where
  tokens_named : (tokens : List Token) → All (IsVisibleToken source) tokens → (single : Bool) → TokensAnswer single source tokens r → IfOk r PartsNamed
  tokens_named tokens v true a = single_named source r a
  tokens_named tokens v false a = lexemes_named (names_of source tokens) (table_is_visible source tokens v) (lexemes_of source tokens) r a

  text_named : IsAnswer source r → IfOk r PartsNamed
  text_named a = by (tokens_of source) (text_is_visible source) a
    where
      by : (lexed : Result (List Token) ℕ) → IfOk lexed (All (IsVisibleToken source))
          → elim (elim lexed as (λ _. Result (List Token) VerilogFault) [ Ok tokens ↦ Ok tokens | Err at ↦ Err (Syntax at) ]) as (λ _. Type 0) [
            | Err fault ↦ (r ≡ as_verilog (netlist_text source))
            | Ok tokens ↦ TokensAnswer (nat_lt (length (modules_of (lexemes_of source tokens))) 2) source tokens r
          ] → IfOk r PartsNamed
      by (Ok tokens) v b = tokens_named tokens v _ b
      by (Err at) v b = single_named source r b

pub flat_nets_are_named : FlatNetsAreNamed
flat_nets_are_named source parts a = text_named source (Ok parts) a
