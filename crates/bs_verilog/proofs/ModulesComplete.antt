-- Items, modules and whole texts that are in the grammar are read.
use Rattle.std.proofs.Common.{◌≡◌, ℕ, zero, suc, ◌+◌, ◌<◌, Bool, true, false, List, [], ◌∷◌, ◌++◌, length, map, Option, Some, None, Ok}
use Rattle.std.proofs.Common.{Err, refl, sym, ap, ◌∙◌, arith, subst}
use Rattle.std.proofs.lemmas.List.{map-append}
use Rattle.std.specs.Prelude.{if◌then◌else◌}
use Rattle.bs_bits.specs.Reading.{◌>>=◌}
use Rattle.bs_lex.specs.declared.lexeme.Cell.{Cell}
use Rattle.bs_lex.specs.declared.lexeme.Word.TheVariants as words
use Rattle.bs_lex.specs.declared.lexeme.Sort.{Sort}
use Rattle.bs_lex.specs.declared.lexeme.Sort.TheVariants as sorts
use Rattle.bs_verilog_syntax.specs.declared.fault.VerilogFault.TheVariants.{Syntax}
use Rattle.bs_verilog_syntax.specs.declared.reading.Due.TheVariants as due
use Rattle.bs_verilog_syntax.specs.declared.tree.Direction as code
use Rattle.bs_verilog_syntax.specs.declared.tree.Net as code_net
use Rattle.bs_verilog_syntax.specs.declared.tree.Net.TheVariants as nets
use Rattle.bs_verilog_syntax.specs.declared.tree.Adds as code_adds
use Rattle.bs_verilog_syntax.specs.Reading.{Rest, Read, Skip, at, sort, rest, refused, expect_name}
use Rattle.bs_verilog_syntax.specs.Reading as reading
use Rattle.bs_verilog_syntax.specs.Terms.{attributes}
use Rattle.bs_verilog_syntax.specs.Declarations.{direction, net, port_says, net_says, names, header}
use Rattle.bs_verilog_syntax.specs.Parts.{gates, instances, assignments}
use Rattle.bs_verilog_syntax.specs.Modules as modules
use Rattle.bs_verilog_syntax.specs.Modules.{statement, item, items, is_endmodule, is_end, is_cell, is_module, skipped, begun, cells, leading, syntax_of}
use Rattle.bs_verilog.specs.Symbols.{Symbol, Text, keyword, finish}
use Rattle.bs_verilog.specs.Symbols as symbols
use Rattle.bs_verilog.specs.Written.{Says, Adds}
use Rattle.bs_verilog.specs.Productions.{semicolon, IsListed, AreAttributes, IsDeclared, direction_word, net_word, net_said, IsItem, port_item}
use Rattle.bs_verilog.specs.Productions.{net_item, assign_item, gate_item, cell_item, AreItems, no_item, one_item, IsTop, IsPassed, ended, passing}
use Rattle.bs_verilog.specs.Productions.{is_passed, AreCells, no_cell, one_cell, IsNetlistText, netlist}
use Rattle.bs_verilog.specs.Views.{name_view, declared_view, component_view, adds_view, module_view}
use Rattle.bs_verilog_syntax.specs.declared.tree.Module as code_module
use Rattle.bs_verilog_syntax.specs.Parts as parts
use Rattle.bs_verilog_syntax.specs.Parts.{is_strength}
use Rattle.bs_verilog_syntax.specs.Reading.{is_at, expect, listed}
use Rattle.bs_verilog_syntax.specs.Terms.{delay}
use Rattle.bs_verilog_syntax.specs.declared.tree.Direction.TheVariants as directions
use Rattle.bs_net.specs.declared.gate.Kind.{Kind}
use Rattle.std.specs.Prelude.{◌&&◌}
use Rattle.bs_verilog.specs.Symbols.{opens}
use Rattle.bs_verilog.specs.Written.{Declared, Connection, Component, Module, Term}
use Rattle.bs_verilog.specs.Productions.{begins_with, comma, sharp, left_round, last, more, no_more, one_more, IsTerm, scalar, indexed}
use Rattle.bs_verilog.specs.Productions.{one_bit, IsByPlace, by_place, IsLabel, unlabelled, labelled, IsDelay, undelayed, by_time, by_times}
use Rattle.bs_verilog.specs.Productions.{IsPortSays, declares, IsGate, gate, IsInstance, instance, IsAssignment, assignment, top, declaring}
use Rattle.bs_verilog.specs.Productions.{placing, together, module_said}
use Rattle.bs_verilog.proofs.Shown.{seen_as, shown}
use Rattle.bs_verilog.proofs.Extends.{no_longer, attributes_extend, item_extends, passed_extends, gate_extends, instance_extends, assignment_extends}
use Rattle.bs_verilog.proofs.Next.{Reads, Skips, then_is, true_is, false_is, tested, mark_next, word_next, name_next, bit_next, mark_read, name_read}
use Rattle.bs_verilog.proofs.Next.{listed_complete, shown_length}
use Rattle.bs_verilog.proofs.TermsComplete.{opens_here, attributes_complete, IsUndelayed, delay_complete}
use Rattle.bs_verilog.proofs.PartsComplete.{port_says_complete, net_says_complete, names_complete, direction_next, header_complete}
use Rattle.bs_verilog.proofs.PartsComplete.{gate_complete, instance_complete, assignment_complete, IsUnindexed, term_unmarked}

module _ (table : List (List ℕ)) where
  -- ---- statements

  label_start : (from inside : Text) → IsLabel from (left_round ∷ inside) → IsUndelayed table from
  label_start from inside unlabelled = record { sharp = refl; time = record { fraction = refl; colon = refl } }
  label_start from inside labelled = record { sharp = refl; time = record { fraction = refl; colon = refl } }

  gates_start : (kind : Kind) (from to : Text) (ps : List Component) → IsListed (IsGate kind) from to ps → IsUndelayed table from
  gates_start kind from to ps (last (gate {inside = inside} b l)) = label_start from inside b
  gates_start kind from to ps (more (gate {inside = inside} b l) k) = label_start from inside b

  and_false : (b : Bool) → (b && false) ≡ false
  and_false true = refl
  and_false false = refl

  weak_term : (ts : Rest) (from to : Text) (t : Term) → IsTerm from to t → shown table ts ≡ from → is_strength (sort ts) ≡ false
  weak_term ts from to t (scalar {cell} {n}) e = ap is_strength (name_next table cell n ts _ e).0
  weak_term ts from to t (indexed {cell} {n}) e = ap is_strength (name_next table cell n ts _ e).0
  weak_term ts from to t (one_bit {b}) e = ap is_strength (bit_next table b ts _ e).0

  weak_first : (ts : Rest) (from to : Text) (cs : List Connection) → IsListed IsByPlace from to cs → shown table ts ≡ from → is_strength (sort ts) ≡ false
  weak_first ts from to cs (last (by_place {t} h)) e = weak_term ts _ _ t h e
  weak_first ts from to cs (more (by_place {t} h) l) e = weak_term ts _ _ t h e

  no_round : (ts : Rest) (from : Text) → shown table ts ≡ from → begins_with 40 from ≡ false → (is_at "(" ts && is_strength (sort (rest ts))) ≡ false
  no_round ts from e f = ap (λ b. b && is_strength (sort (rest ts))) (tested table 40 (omega arith) ts from false e f)

  weak_gate : (ts : Rest) (from inside to : Text) (cs : List Connection) → IsLabel from (left_round ∷ inside) → IsListed IsByPlace inside to cs →
      shown table ts ≡ from
      → (is_at "(" ts && is_strength (sort (rest ts))) ≡ false
  weak_gate ts from inside to cs unlabelled l e =
      ap (λ b. is_at "(" ts && b) (weak_first (rest ts) inside to cs l (mark_next table 40 ts inside e).1) ∙ and_false (is_at "(" ts)
  weak_gate ts from inside to cs (labelled {cell} {n}) l e = no_round ts (symbols.name cell n ∷ left_round ∷ inside) e refl

  weak_gates : (kind : Kind) (ts : Rest) (from next to : Text) (ps : List Component) → IsDelay from next → IsListed (IsGate kind) next to ps →
      shown table ts ≡ from
      → (is_at "(" ts && is_strength (sort (rest ts))) ≡ false
  weak_gates kind ts from next to ps undelayed (last (gate {inside = inside} {cs = cs} b l)) e = weak_gate ts from inside _ cs b l e
  weak_gates kind ts from next to ps undelayed (more (gate {inside = inside} {cs = cs} b l) k) e = weak_gate ts from inside _ cs b l e
  weak_gates kind ts from next to ps (by_time {from = inner} t) k e = no_round ts (sharp ∷ inner) e refl
  weak_gates kind ts from next to ps (by_times {from = inner} t) k e = no_round ts (sharp ∷ left_round ∷ inner) e refl

  gates_complete : (kind : Kind) (ts : Rest) (from next to : Text) (ps : List Component) → IsDelay from next → IsListed (IsGate kind) next (semicolon ∷ to) ps
      → shown table ts ≡ from → Reads table (gates kind ts) (map (component_view table)) to ps
  unfolding gates
  gates_complete kind ts from next to ps d l e =
      let first = delay_complete table ts from next d e (gates_start kind next (semicolon ∷ to) ps l) in
      let a =
      listed_complete table (parts.gate kind) (IsGate kind) (component_view table) (λ u. Unit {0}) (λ u. tt) gate_extends (gate_complete table kind) first.left
      next (semicolon ∷ to) ps l first.shows tt refl in
      let c = mark_read table 59 (omega arith) due.Nothing a.left to a.shows in
      record {
        value = a.value;
        left = rest a.left;
        is = false_is (is_at "(" ts && is_strength (sort (rest ts))) _ _ _ (weak_gates kind ts from next (semicolon ∷ to) ps d l e)
            (then_is (delay ts) _ first.left _ first.is (then_is (listed (parts.gate kind) first.left) _ (a.value, a.left) _ a.is
            (then_is (expect ";" due.Nothing a.left) _ (rest a.left) _ c.0 refl)));
        shows = c.1;
        says = a.says;
      }

  instances_start : (cell : Cell) (from to : Text) (ps : List Component) → IsListed (IsInstance cell) from to ps → IsUndelayed table from
  instances_start cell from to ps (last (instance {inside = inside} b l)) = label_start from inside b
  instances_start cell from to ps (more (instance {inside = inside} b l) k) = label_start from inside b

  instances_complete : (cell : Cell) (ts : Rest) (from to : Text) (ps : List Component) → IsListed (IsInstance cell) from (semicolon ∷ to) ps
      → shown table ts ≡ from → Reads table (instances cell ts) (map (component_view table)) to ps
  unfolding instances
  instances_complete cell ts from to ps l e =
      let a =
      listed_complete table (parts.instance cell) (IsInstance cell) (component_view table) (λ u. Unit {0}) (λ u. tt) instance_extends
      (instance_complete table cell) ts
      from (semicolon ∷ to) ps l e tt refl in
      let c = mark_read table 59 (omega arith) due.Nothing a.left to a.shows in
      record {
        value = a.value;
        left = rest a.left;
        is = false_is (is_at "#" ts) _ _ _ (tested table 35 (omega arith) ts from false e ((instances_start cell from (semicolon ∷ to) ps l).sharp))
            (then_is (listed (parts.instance cell) ts) _ (a.value, a.left) _ a.is (then_is (expect ";" due.Nothing a.left) _ (rest a.left) _ c.0 refl));
        shows = c.1;
        says = a.says;
      }

  assignment_start : (from to : Text) (p : Component) → IsAssignment from to p → IsUndelayed table from
  assignment_start from to p (assignment {left = t} h k) =
      record {
        sharp = term_unmarked table from _ t h 35;
        time = record { fraction = term_unmarked table from _ t h 46; colon = term_unmarked table from _ t h 58 };
      }

  assignments_start : (from to : Text) (ps : List Component) → IsListed IsAssignment from to ps → IsUndelayed table from
  assignments_start from to ps (last {x} a) = assignment_start from to x a
  assignments_start from to ps (more {next} {x} a l) = assignment_start from (comma ∷ next) x a

  assignments_complete : (ts : Rest) (from next to : Text) (ps : List Component) → IsDelay from next → IsListed IsAssignment next (semicolon ∷ to) ps
      → shown table ts ≡ from → Reads table (assignments ts) (map (component_view table)) to ps
  unfolding assignments
  assignments_complete ts from next to ps d l e =
      let first = delay_complete table ts from next d e (assignments_start next (semicolon ∷ to) ps l) in
      let a =
      listed_complete table parts.assignment IsAssignment (component_view table) (IsUnindexed table) (λ u. refl) assignment_extends
      (assignment_complete table) first.left
      next (semicolon ∷ to) ps l first.shows refl refl in
      let c = mark_read table 59 (omega arith) due.AfterTerm a.left to a.shows in
      record {
        value = a.value;
        left = rest a.left;
        is = then_is (delay ts) _ first.left _ first.is (then_is (listed parts.assignment first.left) _ (a.value, a.left) _ a.is
            (then_is (expect ";" due.AfterTerm a.left) _ (rest a.left) _ c.0 refl));
        shows = c.1;
        says = a.says;
      }

  -- ---- items

  names_start : (says : Says) (from to : Text) (ds : List Declared) → IsListed (IsDeclared says) from to ds
      → (cell : Option Cell) × ((n : List ℕ) × ((us : Text) × (from ≡ symbols.name cell n ∷ us)))
  names_start says from to ds (last (declares {cell} {n} {to = us})) = (cell, (n, (us, refl)))
  names_start says from to ds (more (declares {cell} {n} {to = us}) l) = (cell, (n, (us, refl)))

  net_at : Rest → Option code_net.Net → Read code_adds.Adds
  net_at ts o =
      elim o [
        | Some n ↦ net_says n (rest ts) >>= (λ says. modules.declares (names says.0 says.1))
        | None ↦ statement (sort ts) ts
      ]

  item_at : Rest → Option code.Direction → Read code_adds.Adds
  unfolding net_at
  item_at ts o =
      elim o [
        | Some d ↦ port_says d (rest ts) >>= (λ says. modules.declares (names says.0 says.1))
        | None ↦ net_at ts (net (sort ts))
      ]

  net_next : (n : code_net.Net) (ts : Rest) (us : Text) → shown table ts ≡ net_word n ∷ us
      → (direction (sort ts) ≡ None) × ((net (sort ts) ≡ Some n) × (shown table (rest ts) ≡ us))
  net_next nets.Wire ts us e = let w = word_next table words.Wire ts us e in (ap direction w.0, (ap net w.0, w.1))
  net_next nets.Supply0 ts us e = let w = word_next table words.Supply0 ts us e in (ap direction w.0, (ap net w.0, w.1))
  net_next nets.Supply1 ts us e = let w = word_next table words.Supply1 ts us e in (ap direction w.0, (ap net w.0, w.1))

  -- a statement, by what is next
  stated : (ts : Rest) (s : Sort) (r : Read code_adds.Adds) → sort ts ≡ s → direction s ≡ None → net s ≡ None → statement s ts ≡ r → item ts ≡ r
  unfolding item net_at item_at
  stated ts s r e d n h =
      ap (item_at ts) (ap direction e ∙ d) ∙ (ap (net_at ts) (ap net e ∙ n) ∙ (ap (λ x. statement x ts) e ∙ h))

  pub item_complete : (ts : Rest) (from to : Text) (x : Adds) → IsItem from to x → shown table ts ≡ from → Reads table (item ts) (adds_view table) to x
  unfolding item net_at item_at
  item_complete ts from to x (port_item {d} {from = inner} {next = next} {says = says} {ds = ds} s l) e =
      let w = direction_next table d ts inner e in
      let first = names_start says next (semicolon ∷ to) ds l in
      let y =
      port_says_complete table d (rest ts) inner (first.1.1.0) (first.0) (first.1.0) says
      (subst (λ (u : Text). IsPortSays d inner u says) (first.1.1.1) s) (w.1.1) in
      let z =
      names_complete table y.value y.left next to ds (subst (λ (v : Says). IsListed (IsDeclared v) next (semicolon ∷ to) ds) (sym y.says) l)
      (y.shows ∙ sym (first.1.1.1)) in
      record {
        value = record { declared = z.value; parts = [] };
        left = z.left;
        is = ap (item_at ts) w.0 ∙ then_is (port_says d (rest ts)) _ (y.value, y.left) _ y.is (then_is (names y.value y.left) _ (z.value, z.left) _ z.is refl);
        shows = z.shows;
        says = ap (λ m. declaring m) z.says;
      }
  item_complete ts from to x (net_item {net = n} {from = inner} {next = next} {r = r} {ds = ds} p l) e =
      let w = net_next n ts inner e in
      let first = names_start (net_said n r) next (semicolon ∷ to) ds l in
      let none : begins_with 91 next ≡ false = ap (begins_with 91) (first.1.1.1) in
      let y = net_says_complete table n (rest ts) inner next r p (w.1.1) none in
      let z =
      names_complete table y.value y.left next to ds (subst (λ (v : Says). IsListed (IsDeclared v) next (semicolon ∷ to) ds) (sym y.says) l) y.shows in
      record {
        value = record { declared = z.value; parts = [] };
        left = z.left;
        is = ap (item_at ts) w.0 ∙ (ap (net_at ts) (w.1.0)
            ∙ then_is (net_says n (rest ts)) _ (y.value, y.left) _ y.is (then_is (names y.value y.left) _ (z.value, z.left) _ z.is refl));
        shows = z.shows;
        says = ap (λ m. declaring m) z.says;
      }
  item_complete ts from to x (assign_item {from = inner} {next = next} {ps = ps} d l) e =
      let w = word_next table words.Assign ts inner e in
      let a = assignments_complete (rest ts) inner next to ps d l w.1 in
      record {
        value = record { declared = []; parts = a.value };
        left = a.left;
        is = stated ts (sorts.Word words.Assign) _ w.0 refl refl (then_is (assignments (rest ts)) _ (a.value, a.left) _ a.is refl);
        shows = a.shows;
        says = ap (λ m. placing m) a.says;
      }
  item_complete ts from to x (gate_item {kind} {from = inner} {next = next} {ps = ps} d l) e =
      let w = word_next table (words.Gate kind) ts inner e in
      let a = gates_complete kind (rest ts) inner next to ps d l w.1 in
      record {
        value = record { declared = []; parts = a.value };
        left = a.left;
        is = stated ts (sorts.Word (words.Gate kind)) _ w.0 refl refl (then_is (gates kind (rest ts)) _ (a.value, a.left) _ a.is refl);
        shows = a.shows;
        says = ap (λ m. placing m) a.says;
      }
  item_complete ts from to x (cell_item {cell} {n} {from = inner} {ps = ps} l) e =
      let w = name_next table (Some cell) n ts inner e in
      let a = instances_complete cell (rest ts) inner to ps l (w.1.1) in
      record {
        value = record { declared = []; parts = a.value };
        left = a.left;
        is = stated ts (sorts.Name (Some cell)) _ w.0 refl refl (then_is (instances cell (rest ts)) _ (a.value, a.left) _ a.is refl);
        shows = a.shows;
        says = ap (λ m. placing m) a.says;
      }

  -- what begins an item does not end a module

  direction_start : (d : code.Direction) (ts : Rest) (us : Text) → shown table ts ≡ direction_word d ∷ us → is_endmodule (sort ts) ≡ false
  direction_start directions.Input ts us e = ap is_endmodule (word_next table words.Input ts us e).0
  direction_start directions.Output ts us e = ap is_endmodule (word_next table words.Output ts us e).0

  net_start : (n : code_net.Net) (ts : Rest) (us : Text) → shown table ts ≡ net_word n ∷ us → is_endmodule (sort ts) ≡ false
  net_start nets.Wire ts us e = ap is_endmodule (word_next table words.Wire ts us e).0
  net_start nets.Supply0 ts us e = ap is_endmodule (word_next table words.Supply0 ts us e).0
  net_start nets.Supply1 ts us e = ap is_endmodule (word_next table words.Supply1 ts us e).0

  item_start : (ts : Rest) (from to : Text) (x : Adds) → IsItem from to x → shown table ts ≡ from → is_endmodule (sort ts) ≡ false
  item_start ts from to x (port_item {d} {from = inner} s l) e = direction_start d ts inner e
  item_start ts from to x (net_item {net = n} {from = inner} p l) e = net_start n ts inner e
  item_start ts from to x (assign_item {from = inner} d l) e = ap is_endmodule (word_next table words.Assign ts inner e).0
  item_start ts from to x (gate_item {kind} {from = inner} d l) e =
      ap is_endmodule (word_next table (words.Gate kind) ts inner e).0
  item_start ts from to x (cell_item {cell} {n} {from = inner} l) e =
      ap is_endmodule (name_next table (Some cell) n ts inner e).0

  opens_next : (ts : Rest) (us : Text) → shown table ts ≡ opens ∷ us → sort ts ≡ sorts.AttrOpen
  opens_next [] us e = absurd cc
  opens_next (t ∷ ts) us e = by t.sort e
    where
      by : (s : Sort) → seen_as table s t.name ∷ shown table ts ≡ opens ∷ us → s ≡ sorts.AttrOpen
      by sorts.AttrOpen e = refl
      by _ e = absurd cc

  not_ended : (ts : Rest) (from here to : Text) (x : Adds) → AreAttributes from here → IsItem here to x → shown table ts ≡ from → is_endmodule (sort ts) ≡ false
  not_ended ts from here to x no_more i e = item_start ts here to x i e
  not_ended ts from here to x (one_more {from = inner} j h) i e = ap is_endmodule (opens_next ts inner e)

  direction_closed : (d : code.Direction) (us : Text) → opens_here (direction_word d ∷ us) ≡ false
  direction_closed directions.Input us = refl
  direction_closed directions.Output us = refl

  net_closed : (n : code_net.Net) (us : Text) → opens_here (net_word n ∷ us) ≡ false
  net_closed nets.Wire us = refl
  net_closed nets.Supply0 us = refl
  net_closed nets.Supply1 us = refl

  item_closed : (from to : Text) (x : Adds) → IsItem from to x → opens_here from ≡ false
  item_closed from to x (port_item {d} {from = inner} s l) = direction_closed d inner
  item_closed from to x (net_item {net = n} {from = inner} p l) = net_closed n inner
  item_closed from to x (assign_item d l) = refl
  item_closed from to x (gate_item d l) = refl
  item_closed from to x (cell_item l) = refl

  item_shorter : (from to : Text) (x : Adds) → IsItem from to x → length to < length from
  item_shorter from to x i =
      let e = item_extends i in
      let less = no_longer (e.1.1.1.1) in
      let long : length from ≡ suc (length (e.1.0)) = ap length (e.1.1.0) in
      omega (arith, less, long)

  together_view : (a b : code_adds.Adds) → adds_view table (modules.together a b) ≡ together (adds_view table a) (adds_view table b)
  together_view a b =
      ap (λ d. record { declared = d; parts = map (component_view table) (a.parts ++ b.parts) }) (map-append (declared_view table) a.declared b.declared)
      ∙ ap (λ p. record { declared = map (declared_view table) a.declared ++ map (declared_view table) b.declared; parts = p })
      (map-append (component_view table) a.parts b.parts)

  items_complete : (n : ℕ) (ts : Rest) (from to : Text) (x : Adds) → AreItems from to x → shown table ts ≡ from → length from < n
      → Reads table (items n ts) (adds_view table) to x
  unfolding items
  items_complete zero ts from to x l e bound = absurd (omega (arith, bound))
  items_complete (suc n) ts from to x no_item e bound =
      let w = word_next table words.Endmodule ts to e in
      record {
        value = record { declared = []; parts = [] };
        left = rest ts;
        is = true_is (is_endmodule (sort ts)) _ _ _ (ap is_endmodule w.0) refl;
        shows = w.1;
        says = refl;
      }
  items_complete (suc n) ts from to x (one_item {here = here} {next = next} {x = y} {xs = ys} a i l) e bound =
      let at_item = not_ended ts from here next y a i e in
      let start = item_closed here next y i in
      let begins = attributes_complete table ts from here a e start in
      let first = item_complete begins.left here next y i begins.shows in
      let one_less : length next < length here = item_shorter here next y i in
      let not_more = no_longer (attributes_extend a) in
      let others = items_complete n first.left next to ys l first.shows (omega (arith, one_less, not_more, bound)) in
      record {
        value = modules.together first.value others.value;
        left = others.left;
        is = false_is (is_endmodule (sort ts)) _ _ _ at_item (then_is (attributes ts) _ begins.left _ begins.is
            (then_is (item begins.left) _ (first.value, first.left) _ first.is (then_is (items n first.left) _ (others.value, others.left) _ others.is refl)));
        shows = others.shows;
        says = together_view first.value others.value
            ∙ (ap (λ u. together u (adds_view table others.value)) first.says ∙ ap (λ u. together y u) others.says);
      }

  -- ---- modules

  pub top_complete : (ts : Rest) (from to : Text) (m : Module) → IsTop from to m → shown table ts ≡ from
      → (is_cell (sort ts) ≡ false) × Reads table (modules.top ts) (module_view table) to m
  unfolding modules.top
  top_complete ts from to m (top {n} {from = inner} {next = next} {ports = p} {adds = a} h i) e =
      let x = name_read table None n ts inner e in
      let kind = name_next table None n ts inner e in
      let head = header_complete table (rest ts) inner next p h (x.1.1) in
      let long : length next ≡ length head.left = ap length (sym head.shows) ∙ shown_length table head.left in
      let body = items_complete (length head.left + 1) head.left next to a i head.shows (omega (arith, long)) in (
        ap is_cell kind.0,
        record {
          value = record { header = head.value.header; declared = head.value.declared ++ body.value.declared; parts = body.value.parts };
          left = body.left;
          is = then_is (expect_name ts) _ (reading.name ts, rest ts) _ x.0 (then_is (header (rest ts)) _ (head.value, head.left) _ head.is
              (then_is (items (length head.left + 1) head.left) _ (body.value, body.left) _ body.is refl));
          shows = body.shows;
          says = ap (λ d. record {
            header = map (name_view table) head.value.header;
            declared = d;
            parts = map (component_view table) body.value.parts;
          }) (map-append (declared_view table) head.value.declared body.value.declared)
              ∙ (ap (λ q. module_said q (adds_view table body.value)) head.says ∙ ap (λ b. module_said p b) body.says);
        },
      )

  passed_complete : (ts : Rest) (from to : Text) → IsPassed from to → shown table ts ≡ from → Skips table (skipped ts) to
  unfolding skipped
  passed_complete [] from to ended e = absurd cc
  passed_complete [] from to (passing p h) e = absurd cc
  passed_complete (t ∷ ts) from to ended e = by t.sort e
    where
      by : (s : Sort) → seen_as table s t.name ∷ shown table ts ≡ keyword words.Endmodule ∷ to
          → Skips table (if is_endmodule s then Ok ts else if is_end s then Err (Syntax t.at) else skipped ts) to
      by (sorts.Word words.Endmodule) e = let left : shown table ts ≡ to = cc in record { left = ts; is = refl; shows = left }
      by _ e = absurd cc
  passed_complete (t ∷ ts) from to (passing {s = x} {from = inner} p h) e = by t.sort e (λ left. passed_complete ts inner to h left)
    where
      by : (s : Sort) → seen_as table s t.name ∷ shown table ts ≡ x ∷ inner → (shown table ts ≡ inner → Skips table (skipped ts) to)
          → Skips table (if is_endmodule s then Ok ts else if is_end s then Err (Syntax t.at) else skipped ts) to
      by (sorts.Word words.Endmodule) e r =
          let same : keyword words.Endmodule ≡ x = cc in
          let other : false ≡ true = ap is_passed same ∙ p in
          absurd cc
      by sorts.End e r =
          let same : finish ≡ x = cc in
          let other : false ≡ true = ap is_passed same ∙ p in
          absurd cc
      by _ e r = let left : shown table ts ≡ inner = cc in r left

  begun_complete : (ts : Rest) (from us : Text) → AreAttributes from (keyword words.Module ∷ us) → shown table ts ≡ from → Skips table (begun ts) us
  unfolding begun
  begun_complete ts from us a e =
      let here = attributes_complete table ts from (keyword words.Module ∷ us) a e refl in
      let w = word_next table words.Module here.left us here.shows in
      record {
        left = rest here.left;
        is = then_is (attributes ts) _ here.left _ here.is (true_is (is_module (sort here.left)) _ _ _ (ap is_module w.0) refl);
        shows = w.1;
      }

  leading_complete : (n : ℕ) (ts : Rest) (from here next after : Text) (m : Module) → AreCells from here → AreAttributes here (keyword words.Module ∷ next)
      → IsTop next after m → shown table ts ≡ from → length from < n → Skips table (leading n ts) next
  unfolding leading
  leading_complete zero ts from here next after m l a t e bound = absurd (omega (arith, bound))
  leading_complete (suc n) ts from here next after m no_cell a t e bound =
      let b = begun_complete ts from next a e in
      record {
        left = b.left;
        is = then_is (begun ts) _ b.left _ b.is (false_is (is_cell (sort b.left)) _ _ _ ((top_complete b.left next after m t b.shows).0) refl);
        shows = b.shows;
      }
  leading_complete (suc n) ts from here next after m (one_cell {cell} {n = k} {inside = inside} {next = behind} c p l) a t e bound =
      let b = begun_complete ts from (symbols.name (Some cell) k ∷ inside) c e in
      let x = name_next table (Some cell) k b.left inside b.shows in
      let s = passed_complete b.left (symbols.name (Some cell) k ∷ inside) behind (passing refl p) b.shows in
      let less = no_longer (passed_extends p) in
      let not_more = no_longer (attributes_extend c) in
      let others = leading_complete n s.left behind here next after m l a t s.shows (omega (arith, less, not_more, bound)) in
      record {
        left = others.left;
        is = then_is (begun ts) _ b.left _ b.is (true_is (is_cell (sort b.left)) _ _ _ (ap is_cell x.0) (then_is (skipped b.left) _ s.left _ s.is others.is));
        shows = others.shows;
      }

  finish_next : (ts : Rest) (us : Text) → shown table ts ≡ finish ∷ us → is_end (sort ts) ≡ true
  finish_next [] us e = refl
  finish_next (t ∷ ts) us e = by t.sort e
    where
      by : (s : Sort) → seen_as table s t.name ∷ shown table ts ≡ finish ∷ us → is_end s ≡ true
      by sorts.End e = refl
      by _ e = absurd cc

  cell_start : (ts : Rest) (from us : Text) → AreAttributes from (keyword words.Module ∷ us) → shown table ts ≡ from → is_end (sort ts) ≡ false
  cell_start ts from us no_more e = ap is_end (word_next table words.Module ts us e).0
  cell_start ts from us (one_more {from = inner} i h) e = ap is_end (opens_next ts inner e)

  further_complete : (cell : Cell) (k : List ℕ) (ts : Rest) (from inside to : Text) →
      AreAttributes from (keyword words.Module ∷ symbols.name (Some cell) k ∷ inside)
      → IsPassed inside to → shown table ts ≡ from → Skips table (modules.further ts) to
  unfolding modules.further
  further_complete cell k ts from inside to c p e =
      let here = attributes_complete table ts from (keyword words.Module ∷ symbols.name (Some cell) k ∷ inside) c e refl in
      let b = begun_complete here.left (keyword words.Module ∷ symbols.name (Some cell) k ∷ inside) (symbols.name (Some cell) k ∷ inside) no_more here.shows in
      let x = name_next table (Some cell) k b.left inside b.shows in
      let s = passed_complete b.left (symbols.name (Some cell) k ∷ inside) to (passing refl p) b.shows in
      record {
        left = s.left;
        is = then_is (attributes ts) _ here.left _ here.is
            (then_is (begun here.left) _ b.left _ b.is (true_is (is_cell (sort b.left)) _ _ _ (ap is_cell x.0) s.is));
        shows = s.shows;
      }

  cells_complete : (n : ℕ) (ts : Rest) (from us : Text) → AreCells from (finish ∷ us) → shown table ts ≡ from → length from < n
      → Skips table (cells n ts) (finish ∷ us)
  unfolding cells
  cells_complete zero ts from us l e bound = absurd (omega (arith, bound))
  cells_complete (suc n) ts from us no_cell e bound =
      record { left = ts; is = true_is (is_end (sort ts)) _ _ _ (finish_next ts us e) refl; shows = e }
  cells_complete (suc n) ts from us (one_cell {cell} {n = k} {inside = inside} {next = behind} c p l) e bound =
      let s = further_complete cell k ts from inside behind c p e in
      let less = no_longer (passed_extends p) in
      let not_more = no_longer (attributes_extend c) in
      let others = cells_complete n s.left behind us l s.shows (omega (arith, less, not_more, bound)) in
      record {
        left = others.left;
        is = false_is (is_end (sort ts)) _ _ _ (cell_start ts from (symbols.name (Some cell) k ∷ inside) c e)
            (then_is (modules.further ts) _ s.left _ s.is others.is);
        shows = others.shows;
      }

  pub syntax_complete : (ts : Rest) (from : Text) (w : Module) → IsNetlistText from w → shown table ts ≡ from
      → (m : code_module.Module) × ((syntax_of ts ≡ Ok m) × (module_view table m ≡ w))
  unfolding syntax_of
  syntax_complete ts from w (netlist {here = here} {next = next} {after = after} c a t l) e =
      let long : length from ≡ length ts = ap length (sym e) ∙ shown_length table ts in
      let led = leading_complete (length ts + 1) ts from here next after w c a t e (omega (arith, long)) in
      let m = (top_complete led.left next after w t led.shows).1 in
      let longer : length after ≡ length m.left = ap length (sym m.shows) ∙ shown_length table m.left in
      let s = cells_complete (length m.left + 1) m.left after [] l m.shows (omega (arith, longer)) in (
        m.value,
        (
          then_is (leading (length ts + 1) ts) _ led.left _ led.is (then_is (modules.top led.left) _ (m.value, m.left) _ m.is
              (then_is (cells (length m.left + 1) m.left) _ s.left _ s.is refl)),
          m.says,
        ),
      )
