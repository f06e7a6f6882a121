-- Declarations, headers, gates, cells and assignments that are in the grammar are read.
use Rattle.std.proofs.Common.{◌≡◌, ℕ, Bool, true, false, cond, List, [], ◌∷◌, map, Option, Some, None, Ok, Err, refl, ap}
use Rattle.std.proofs.Common.{◌∙◌, arith, subst, ◌⊎◌, inl, inr}
use Rattle.std.specs.Prelude.{if◌then◌else◌, option_map, is_some, unwrap_or, ◌||◌, ◌==◌}
use Rattle.bs_bits.specs.Reading.{◌>>=◌}
use Rattle.bs_net.specs.declared.gate.Kind.{Kind}
use Rattle.bs_lex.specs.declared.lexeme.Cell.{Cell}
use Rattle.bs_lex.specs.declared.lexeme.Word.TheVariants as words
use Rattle.bs_lex.specs.Lexemes.{is_name}
use Rattle.bs_verilog_syntax.specs.declared.reading.Due.TheVariants as due
use Rattle.bs_verilog_syntax.specs.declared.tree.Direction as code
use Rattle.bs_verilog_syntax.specs.declared.tree.Direction.TheVariants as directions
use Rattle.bs_verilog_syntax.specs.declared.tree.Net as code_net
use Rattle.bs_verilog_syntax.specs.declared.tree.Net.TheVariants as nets
use Rattle.bs_verilog_syntax.specs.declared.tree.Says as code_says
use Rattle.bs_verilog_syntax.specs.declared.tree.HeaderPort as code_port
use Rattle.bs_verilog_syntax.specs.declared.tree.Connection.TheVariants.{Empty, Place, Pin}
use Rattle.bs_verilog_syntax.specs.declared.tree.Shape.TheVariants as shapes
use Rattle.bs_verilog_syntax.specs.Unsupported.{symbol, after_direction}
use Rattle.bs_verilog_syntax.specs.Reading.{Rest, Read, Skip, at, sort, rest, is_at, refused, expect, expect_name, expect_digits, listed}
use Rattle.bs_verilog_syntax.specs.Reading as reading
use Rattle.bs_verilog_syntax.specs.Terms.{term, attributes}
use Rattle.bs_verilog_syntax.specs.Declarations as declarations
use Rattle.bs_verilog_syntax.specs.Declarations.{direction, net, is_wire, range, port_says, net_says, declared_name, names, plain_port, header_port, carried}
use Rattle.bs_verilog_syntax.specs.Declarations.{passed_on, header}
use Rattle.bs_verilog_syntax.specs.Parts as parts
use Rattle.bs_verilog_syntax.specs.Parts.{is_strength, instance_name, opened, gates, instances, assignments}
use Rattle.bs_verilog.specs.Symbols.{Symbol, Text, keyword}
use Rattle.bs_verilog.specs.Written.{Range, Says, Declared, Term, Connection, place, pin, Component, HeaderPort, Ports}
use Rattle.bs_verilog.specs.Symbols as symbols
use Rattle.bs_verilog.specs.Productions.{begins_with, no_more, one_more, comma, semicolon, equals, left_round, right_round}
use Rattle.bs_verilog.specs.Productions.{IsListed, last, more, AreAttributes, IsTerm, scalar, indexed, one_bit}
use Rattle.bs_verilog.specs.Productions.{IsRange, unranged, ranged, direction_word, port_said, net_said, IsPortSays, plain, wire}
use Rattle.bs_verilog.specs.Productions.{IsDeclared, declares, IsPlainPort, bare_port, IsHeaderPort, with_direction, without, taken_over, AreCarried}
use Rattle.bs_verilog.specs.Productions.{carried_all, carried_on, nothing_said, ArePorts, no_port, plain_ports, declaring_ports, IsHeader, portless}
use Rattle.bs_verilog.specs.Productions.{with_ports, IsLabel, unlabelled, labelled, IsByPlace, by_place, IsPlace, nothing, something, IsPin}
use Rattle.bs_verilog.specs.Productions.{unconnected, connected, AreConnections, no_connection, places, pins, IsGate, gate, IsInstance, instance}
use Rattle.bs_verilog.specs.Productions.{IsAssignment, assignment}
use Rattle.bs_verilog.specs.Views.{number_view, name_view, range_view, says_view, declared_view, term_view, connection_view, component_view}
use Rattle.bs_verilog.specs.Views.{port_view, ports_view}
use Rattle.bs_verilog.proofs.Shown.{shown}
use Rattle.bs_verilog.proofs.Extends.{declared_extends, plain_port_extends, header_port_extends, by_place_extends, place_extends, pin_extends}
use Rattle.bs_verilog.proofs.Next.{Reads, then_is, true_is, false_is, tested, mark_next, word_next, name_next, mark_read, name_read}
use Rattle.bs_verilog.proofs.Next.{number_read, listed_complete}
use Rattle.bs_verilog.proofs.PartsSound.{carried_sound, names_view}
use Rattle.bs_verilog.proofs.TermsComplete.{opens_here, attributes_complete, term_complete}

-- what a function of the next symbol gives, by what that is
module _ (table : List (List ℕ)) where
  pub range_complete : (ts : Rest) (from to : Text) (r : Option Range) → IsRange from to r → shown table ts ≡ from → begins_with 91 to ≡ false
      → Reads table (range ts) (option_map (range_view table)) to r
  unfolding range
  range_complete ts from to r unranged e f =
      record { value = None; left = ts; is = false_is (is_at "[" ts) _ _ _ (tested table 91 (omega arith) ts to false e f) refl; shows = e; says = refl }
  range_complete ts from to r (ranged {left} {right}) e f =
      let m = mark_next table 91 ts _ e in
      let l = number_read table left (rest ts) _ m.1 in
      let c = mark_read table 58 (omega arith) due.Nothing (rest (rest ts)) _ (l.1.1.1) in
      let k = number_read table right (rest (rest (rest ts))) _ c.1 in
      let p = mark_read table 93 (omega arith) due.Nothing (rest (rest (rest (rest ts)))) _ (k.1.1.1) in
      record {
        value = Some (record { at = at ts; left = l.0; right = k.0 });
        left = rest (rest (rest (rest (rest ts))));
        is = true_is (is_at "[" ts) _ _ _ (tested table 91 (omega arith) ts _ true e refl)
            (then_is (expect_digits (rest ts)) _ (l.0, rest (rest ts)) _ (l.1.0)
            (then_is (expect ":" due.Nothing (rest (rest ts))) _ (rest (rest (rest ts))) _ c.0
            (then_is (expect_digits (rest (rest (rest ts)))) _ (k.0, rest (rest (rest (rest ts)))) _ (k.1.0)
            (then_is (expect "]" due.Nothing (rest (rest (rest (rest ts))))) _ (rest (rest (rest (rest (rest ts))))) _ p.0 refl))));
        shows = p.1;
        says = ap (λ x. Some (record { left = x; right = number_view table k.0 })) (l.1.1.0) ∙ ap (λ x. Some (record { left = left; right = x })) (k.1.1.0);
      }

  -- what a direction is followed by begins with no net type, and with `wire` only where it says so
  range_starts : (from to : Text) (cell : Option Cell) (n : List ℕ) (r : Option Range) → IsRange from (symbols.name cell n ∷ to) r
      → (from ≡ symbols.name cell n ∷ to) ⊎ (begins_with 91 from ≡ true)
  range_starts from to cell n r unranged = inl refl
  range_starts from to cell n r ranged = inr refl

  plain_next : (ts : Rest) (from to : Text) (cell : Option Cell) (n : List ℕ) (r : Option Range) → IsRange from (symbols.name cell n ∷ to) r →
      shown table ts ≡ from
      → (is_some (after_direction (sort ts)) ≡ false) × (is_wire (sort ts) ≡ false)
  plain_next ts from to cell n r unranged e =
      let x = name_next table cell n ts to e in
      (ap (λ s. is_some (after_direction s)) x.0, ap is_wire x.0)
  plain_next ts from to cell n r ranged e =
      let x = mark_next table 91 ts _ e in
      (ap (λ s. is_some (after_direction s)) x.0, ap is_wire x.0)

  pub port_says_complete : (d : code.Direction) (ts : Rest) (from to : Text) (cell : Option Cell) (n : List ℕ) (s : Says)
      → IsPortSays d from (symbols.name cell n ∷ to) s → shown table ts ≡ from
      → Reads table (port_says d ts) (says_view table) (symbols.name cell n ∷ to) s
  unfolding port_says
  port_says_complete d ts from to cell n s (plain {r} p) e =
      let next = plain_next ts from to cell n r p e in
      let a = range_complete ts from (symbols.name cell n ∷ to) r p e refl in
      record {
        value = record { direction = Some d; net = None; range = a.value };
        left = a.left;
        is = false_is (is_some (after_direction (sort ts))) _ _ _ next.0 (false_is (is_wire (sort ts)) _ _ _ next.1
            (then_is (range ts) _ (a.value, a.left) _ a.is refl));
        shows = a.shows;
        says = ap (λ x. port_said d None x) a.says;
      }
  port_says_complete d ts from to cell n s (wire {from = inner} {r = r} p) e =
      let w = word_next table words.Wire ts inner e in
      let a = range_complete (rest ts) inner (symbols.name cell n ∷ to) r p w.1 refl in
      record {
        value = record { direction = Some d; net = Some nets.Wire; range = a.value };
        left = a.left;
        is = false_is (is_some (after_direction (sort ts))) _ _ _ (ap (λ s. is_some (after_direction s)) w.0)
            (true_is (is_wire (sort ts)) _ _ _ (ap is_wire w.0)
            (then_is (range (rest ts)) _ (a.value, a.left) _ a.is refl));
        shows = a.shows;
        says = ap (λ x. port_said d (Some nets.Wire) x) a.says;
      }

  declared_complete : (says : code_says.Says) (ts : Rest) (from to : Text) (d : Declared) → IsDeclared (says_view table says) from to d → shown table ts ≡ from
      → Unit {0} → Reads table (declared_name says ts) (declared_view table) to d
  unfolding declared_name
  declared_complete says ts from to d (declares {cell} {n}) e f =
      let x = name_read table cell n ts to e in
      record {
        value = record { says = says; name = reading.name ts };
        left = rest ts;
        is = then_is (expect_name ts) _ (reading.name ts, rest ts) _ x.0 refl;
        shows = x.1.1;
        says = ap (λ m. record { says = says_view table says; name = m }) (x.1.0);
      }

  pub names_complete : (says : code_says.Says) (ts : Rest) (from to : Text) (ds : List Declared) →
      IsListed (IsDeclared (says_view table says)) from (semicolon ∷ to) ds
      → shown table ts ≡ from → Reads table (names says ts) (map (declared_view table)) to ds
  unfolding names
  names_complete says ts from to ds l e =
      let a =
      listed_complete table (declared_name says) (IsDeclared (says_view table says)) (declared_view table) (λ u. Unit {0}) (λ u. tt) declared_extends
      (declared_complete says) ts from (semicolon ∷ to) ds l e tt refl in
      let c = mark_read table 59 (omega arith) due.AfterDeclared a.left to a.shows in
      record {
        value = a.value;
        left = rest a.left;
        is = then_is (listed (declared_name says) ts) _ (a.value, a.left) _ a.is (then_is (expect ";" due.AfterDeclared a.left) _ (rest a.left) _ c.0 refl);
        shows = c.1;
        says = a.says;
      }

  pub net_says_complete : (n : code_net.Net) (ts : Rest) (from to : Text) (r : Option Range) → IsRange from to r → shown table ts ≡ from →
      begins_with 91 to ≡ false
      → Reads table (net_says n ts) (says_view table) to (net_said n r)
  unfolding net_says
  net_says_complete n ts from to r p e f =
      let a = range_complete ts from to r p e f in
      record {
        value = record { direction = None; net = Some n; range = a.value };
        left = a.left;
        is = then_is (range ts) _ (a.value, a.left) _ a.is refl;
        shows = a.shows;
        says = ap (λ x. net_said n x) a.says;
      }

  -- ---- headers

  plain_port_complete : (ts : Rest) (from to : Text) (n : List ℕ) → IsPlainPort from to n → shown table ts ≡ from → Unit {0}
      → Reads table (plain_port ts) (name_view table) to n
  unfolding plain_port
  plain_port_complete ts from to n (bare_port {cell} a) e f =
      let here = attributes_complete table ts from (symbols.name cell n ∷ to) a e refl in
      let x = name_read table cell n here.left to here.shows in
      record {
        value = reading.name here.left;
        left = rest here.left;
        is = then_is (attributes ts) _ here.left _ here.is x.0;
        shows = x.1.1;
        says = x.1.0;
      }

  direction_closed : (d : code.Direction) (us : Text) → opens_here (direction_word d ∷ us) ≡ false
  direction_closed directions.Input us = refl
  direction_closed directions.Output us = refl

  pub direction_next : (d : code.Direction) (ts : Rest) (us : Text) → shown table ts ≡ direction_word d ∷ us
      → (direction (sort ts) ≡ Some d) × ((is_name (sort ts) ≡ false) × (shown table (rest ts) ≡ us))
  direction_next directions.Input ts us e = let w = word_next table words.Input ts us e in (ap direction w.0, (ap is_name w.0, w.1))
  direction_next directions.Output ts us e = let w = word_next table words.Output ts us e in (ap direction w.0, (ap is_name w.0, w.1))

  port_at : Rest → Option code.Direction → Read code_port.HeaderPort
  port_at here o =
      elim o [
        | Some d ↦ port_says d (rest here) >>= λ says. expect_name says.1 >>= λ n. Ok (record { says = Some says.0; name = n.0 }, n.1)
        | None ↦ if is_name (sort here) then Ok (record { says = None; name = reading.name here }, rest here) else Err (refused due.Port here)
      ]

  header_port_complete : (ts : Rest) (from to : Text) (p : HeaderPort) → IsHeaderPort from to p → shown table ts ≡ from → Unit {0}
      → Reads table (header_port ts) (port_view table) to p
  unfolding header_port port_at
  header_port_complete ts from to p (with_direction {d} {cell} {n} {next = next} {says = says} a s) e f =
      let here = attributes_complete table ts from (direction_word d ∷ next) a e (direction_closed d next) in
      let x = direction_next d here.left next here.shows in
      let y = port_says_complete d (rest here.left) next to cell n says s (x.1.1) in
      let z = name_read table cell n y.left to y.shows in
      record {
        value = record { says = Some y.value; name = reading.name y.left };
        left = rest y.left;
        is = then_is (attributes ts) _ here.left _ here.is (ap (port_at here.left) x.0
            ∙ then_is (port_says d (rest here.left)) _ (y.value, y.left) _ y.is (then_is (expect_name y.left) _ (reading.name y.left, rest y.left) _ z.0 refl));
        shows = z.1.1;
        says = ap (λ m. record { says = Some (says_view table y.value); name = m }) (z.1.0) ∙ ap (λ m. record { says = Some m; name = n }) y.says;
      }
  header_port_complete ts from to p (without {cell} {n} a) e f =
      let here = attributes_complete table ts from (symbols.name cell n ∷ to) a e refl in
      let x = name_next table cell n here.left to here.shows in
      record {
        value = record { says = None; name = reading.name here.left };
        left = rest here.left;
        is = then_is (attributes ts) _ here.left _ here.is (ap (port_at here.left) (ap direction x.0)
            ∙ true_is (is_name (sort here.left)) _ _ _ (ap is_name x.0) refl);
        shows = x.1.1;
        says = ap (λ m. record { says = None; name = m }) (x.1.0);
      }

  -- where attributes lead to a symbol that is no mark, no mark stands before them
  unmarked : (c : ℕ) (from us : Text) (s : Symbol) → AreAttributes from (s ∷ us) → begins_with c (s ∷ us) ≡ false → begins_with c from ≡ false
  unmarked c from us s no_more f = f
  unmarked c from us s (one_more i h) f = refl

  plain_first : (ts : Rest) (from to : Text) (ns : List (List ℕ)) → IsListed IsPlainPort from to ns → shown table ts ≡ from
      → (here : Rest) × ((attributes ts ≡ Ok here) × ((is_name (sort here) ≡ true) × (begins_with 41 from ≡ false)))
  plain_first ts from to ns (last (bare_port {cell} {n} {to = after} a)) e =
      let here = attributes_complete table ts from (symbols.name cell n ∷ after) a e refl in
      (here.left, (here.is, (ap is_name (name_next table cell n here.left after here.shows).0, unmarked 41 from after (symbols.name cell n) a refl)))
  plain_first ts from to ns (more (bare_port {cell} {n} {to = after} a) l) e =
      let here = attributes_complete table ts from (symbols.name cell n ∷ after) a e refl in
      (here.left, (here.is, (ap is_name (name_next table cell n here.left after here.shows).0, unmarked 41 from after (symbols.name cell n) a refl)))

  direction_unmarked : (d : code.Direction) (us : Text) → begins_with 41 (direction_word d ∷ us) ≡ false
  direction_unmarked directions.Input us = refl
  direction_unmarked directions.Output us = refl

  port_first : (ts : Rest) (from to : Text) (p : HeaderPort) → IsHeaderPort from to p → is_some p.says ≡ true → shown table ts ≡ from
      → (here : Rest) × ((attributes ts ≡ Ok here) × ((is_name (sort here) ≡ false) × (begins_with 41 from ≡ false)))
  port_first ts from to p (with_direction {d} {next = next} a s) i e =
      let here = attributes_complete table ts from (direction_word d ∷ next) a e (direction_closed d next) in
      (here.left, (here.is, ((direction_next d here.left next here.shows).1.0, unmarked 41 from next (direction_word d) a (direction_unmarked d next))))
  port_first ts from to p (without a) i e = absurd cc

  header_first : (ts : Rest) (from to : Text) (p : HeaderPort) (ps : List HeaderPort) → IsListed IsHeaderPort from to (p ∷ ps) →
      is_some p.says ≡ true → shown table ts ≡ from
      → (here : Rest) × ((attributes ts ≡ Ok here) × ((is_name (sort here) ≡ false) × (begins_with 41 from ≡ false)))
  header_first ts from to p ps (last h) i e = port_first ts from to p h i e
  header_first ts from to p ps (more {next} h l) i e = port_first ts from (comma ∷ next) p h i e

  carried_once : (before : Says) (ps : List HeaderPort) (ds es : List Declared) → AreCarried before ps ds → AreCarried before ps es → ds ≡ es
  carried_once before ps ds es carried_all carried_all = refl
  carried_once before ps ds es (carried_on {p = p} {ps = qs} {ds = xs} c) (carried_on {ds = ys} d) =
      ap (λ zs. record { says = unwrap_or p.says (taken_over before); name = p.name } ∷ zs) (carried_once (unwrap_or p.says (taken_over before)) qs xs ys c d)

  ports_complete : (ts : Rest) (from to : Text) (p : Ports) → ArePorts from to p → shown table ts ≡ from →
      Reads table (declarations.ports ts) (ports_view table) to p
  unfolding declarations.ports
  ports_complete ts from to p no_port e =
      let m = mark_next table 41 ts to e in
      record {
        value = record { header = []; declared = [] };
        left = rest ts;
        is = true_is (is_at ")" ts) _ _ _ (tested table 41 (omega arith) ts (right_round ∷ to) true e refl) refl;
        shows = m.1;
        says = refl;
      }
  ports_complete ts from to p (plain_ports {names = ns} l) e =
      let first = plain_first ts from (right_round ∷ to) ns l e in
      let a =
      listed_complete table plain_port IsPlainPort (name_view table) (λ u. Unit {0}) (λ u. tt) plain_port_extends plain_port_complete ts from (right_round ∷ to)
      ns l e tt refl in
      let c = mark_read table 41 (omega arith) due.Nothing a.left to a.shows in
      record {
        value = record { header = a.value; declared = [] };
        left = rest a.left;
        is = false_is (is_at ")" ts) _ _ _ (tested table 41 (omega arith) ts from false e (first.1.1.1))
            (then_is (attributes ts) _ first.0 _ (first.1.0) (true_is (is_name (sort first.0)) _ _ _ (first.1.1.0)
            (then_is (listed plain_port ts) _ (a.value, a.left) _ a.is (then_is (expect ")" due.Nothing a.left) _ (rest a.left) _ c.0 refl))));
        shows = c.1;
        says = ap (λ m. record { header = m; declared = [] }) a.says;
      }
  ports_complete ts from to p (declaring_ports {p = q} {ps = qs} {ds = ds} l i c) e =
      let first = header_first ts from (right_round ∷ to) q qs l i e in
      let a =
      listed_complete table header_port IsHeaderPort (port_view table) (λ u. Unit {0}) (λ u. tt) header_port_extends header_port_complete ts from
      (right_round ∷ to) (q ∷ qs) l e tt refl in
      let m = mark_read table 41 (omega arith) due.AfterDeclared a.left to a.shows in
      let names_are : map (name_view table) (map (λ (x : code_port.HeaderPort). x.name) a.value) ≡ map (λ (x : HeaderPort). x.name) (q ∷ qs) =
      names_view table a.value ∙ ap (map (λ (x : HeaderPort). x.name)) a.says in
      let sound = subst (λ (xs : List HeaderPort). AreCarried nothing_said xs (map (declared_view table) (carried declarations.nothing_said a.value))) a.says
      (carried_sound table declarations.nothing_said a.value) in
      let declared_are = carried_once nothing_said (q ∷ qs) (map (declared_view table) (carried declarations.nothing_said a.value)) ds sound c in
      record {
        value = record { header = map (λ (x : code_port.HeaderPort). x.name) a.value; declared = carried declarations.nothing_said a.value };
        left = rest a.left;
        is = false_is (is_at ")" ts) _ _ _ (tested table 41 (omega arith) ts from false e (first.1.1.1))
            (then_is (attributes ts) _ first.0 _ (first.1.0) (false_is (is_name (sort first.0)) _ _ _ (first.1.1.0)
            (then_is (listed header_port ts) _ (a.value, a.left) _ a.is (then_is (expect ")" due.AfterDeclared a.left) _ (rest a.left) _ m.0 refl))));
        shows = m.1;
        says = ap (λ h. record { header = h; declared = map (declared_view table) (carried declarations.nothing_said a.value) }) names_are
            ∙ ap (λ d. record { header = map (λ (x : HeaderPort). x.name) (q ∷ qs); declared = d }) declared_are;
      }

  pub header_complete : (ts : Rest) (from to : Text) (p : Ports) → IsHeader from to p → shown table ts ≡ from → Reads table (header ts) (ports_view table) to p
  unfolding header
  header_complete ts from to p portless e =
      let c = mark_read table 59 (omega arith) due.AfterModule ts to e in
      record {
        value = record { header = []; declared = [] };
        left = rest ts;
        is = false_is (is_at "(" ts) _ _ _ (tested table 40 (omega arith) ts (semicolon ∷ to) false e refl)
            (then_is (expect ";" due.AfterModule ts) _ (rest ts) _ c.0 refl);
        shows = c.1;
        says = refl;
      }
  header_complete ts from to p (with_ports {from = inner} h) e =
      let m = mark_next table 40 ts inner e in
      let a = ports_complete (rest ts) inner (semicolon ∷ to) p h m.1 in
      let c = mark_read table 59 (omega arith) due.Nothing a.left to a.shows in
      record {
        value = a.value;
        left = rest a.left;
        is = true_is (is_at "(" ts) _ _ _ (tested table 40 (omega arith) ts _ true e refl)
            (then_is (declarations.ports (rest ts)) _ (a.value, a.left) _ a.is (then_is (expect ";" due.Nothing a.left) _ (rest a.left) _ c.0 refl));
        shows = c.1;
        says = a.says;
      }

  -- ---- gates, cells and assignments

  -- no index follows
  abbrev pub IsUnindexed : Text → Type 0
  IsUnindexed to = begins_with 91 to ≡ false

  by_place_complete : (ts : Rest) (from to : Text) (c : Connection) → IsByPlace from to c → shown table ts ≡ from → IsUnindexed to
      → Reads table (parts.by_place ts) (connection_view table) to c
  unfolding parts.by_place
  by_place_complete ts from to c (by_place {t} h) e f =
      let a = term_complete table ts from to t h e f in
      record {
        value = Place a.value;
        left = a.left;
        is = then_is (term ts) _ (a.value, a.left) _ a.is refl;
        shows = a.shows;
        says = ap (λ x. place x) a.says;
      }

  label_complete : (ts : Rest) (from inside : Text) → IsLabel from (left_round ∷ inside) → shown table ts ≡ from
      → shown table (instance_name ts) ≡ left_round ∷ inside
  label_complete ts from inside unlabelled e =
      let m = mark_next table 40 ts inside e in
      ap (λ s. shown table (cond (is_name s) (rest ts) ts)) m.0 ∙ e
  label_complete ts from inside (labelled {cell} {n}) e =
      let x = name_next table cell n ts (left_round ∷ inside) e in
      ap (λ s. shown table (cond (is_name s) (rest ts) ts)) x.0 ∙ x.1.1

  pub gate_complete : (kind : Kind) (ts : Rest) (from to : Text) (p : Component) → IsGate kind from to p → shown table ts ≡ from → Unit {0}
      → Reads table (parts.gate kind ts) (component_view table) to p
  unfolding parts.gate
  gate_complete kind ts from to p (gate {inside = inside} {cs = cs} b l) e f =
      let here = instance_name ts in
      let o = mark_read table 40 (omega arith) (if is_name (sort ts) then due.AfterInstance else due.Nothing) here inside (label_complete ts from inside b e) in
      let a =
      listed_complete table parts.by_place IsByPlace (connection_view table) IsUnindexed (λ u. refl) by_place_extends by_place_complete (rest here) inside
      (right_round ∷ to) cs l o.1 refl refl in
      let c = mark_read table 41 (omega arith) due.AfterTerm a.left to a.shows in
      record {
        value = record { shape = shapes.Gate kind; at = at here; connections = a.value };
        left = rest a.left;
        is = then_is (opened ts here) _ (rest here) _ o.0 (then_is (listed parts.by_place (rest here)) _ (a.value, a.left) _ a.is
            (then_is (expect ")" due.AfterTerm a.left) _ (rest a.left) _ c.0 refl));
        shows = c.1;
        says = ap (λ xs. record { shape = shapes.Gate kind; connections = xs }) a.says;
      }

  -- what may follow a connection by its place: a `,` or a `)`
  pub record IsEnding (to : Text) : Type 0 where
    pub ends : (begins_with 44 to || begins_with 41 to) ≡ true
    pub unindexed : IsUnindexed to

  ends_test : (ts : Rest) (from : Text) (b : Bool) → shown table ts ≡ from → (begins_with 44 from || begins_with 41 from) ≡ b → is_at ",)" ts ≡ b
  ends_test ts from b e f =
      ap (λ x. x || (symbol (sort ts) == 41)) (tested table 44 (omega arith) ts from (begins_with 44 from) e refl)
      ∙ (ap (λ x. begins_with 44 from || x) (tested table 41 (omega arith) ts from (begins_with 41 from) e refl) ∙ f)

  pub term_unmarked : (from to : Text) (t : Term) → IsTerm from to t → (c : ℕ) → begins_with c from ≡ false
  term_unmarked from to t scalar c = refl
  term_unmarked from to t indexed c = refl
  term_unmarked from to t one_bit c = refl

  place_complete : (ts : Rest) (from to : Text) (c : Connection) → IsPlace from to c → shown table ts ≡ from → IsEnding to
      → Reads table (parts.place ts) (connection_view table) to c
  unfolding parts.place
  place_complete ts from to c nothing e f =
      record { value = Empty; left = ts; is = true_is (is_at ",)" ts) _ _ _ (ends_test ts to true e f.ends) refl; shows = e; says = refl }
  place_complete ts from to c (something {t} h) e f =
      let a = by_place_complete ts from to (place t) (by_place h) e f.unindexed in
      let none : (begins_with 44 from || begins_with 41 from) ≡ false =
      ap (λ x. x || begins_with 41 from) (term_unmarked from to t h 44) ∙ term_unmarked from to t h 41 in
      record {
        value = a.value;
        left = a.left;
        is = false_is (is_at ",)" ts) _ _ _ (ends_test ts from false e none) a.is;
        shows = a.shows;
        says = a.says;
      }

  pin_complete : (ts : Rest) (from to : Text) (c : Connection) → IsPin from to c → shown table ts ≡ from → Unit {0}
      → Reads table (parts.pin ts) (connection_view table) to c
  unfolding parts.pin
  pin_complete ts from to c (unconnected {cell} {n}) e f =
      let d = mark_read table 46 (omega arith) due.Nothing ts _ e in
      let x = name_read table cell n (rest ts) _ d.1 in
      let o = mark_read table 40 (omega arith) due.Nothing (rest (rest ts)) _ (x.1.1) in
      let inside = rest (rest (rest ts)) in
      let m = mark_next table 41 inside to o.1 in
      record {
        value = Pin (reading.name (rest ts)) None;
        left = rest inside;
        is = then_is (expect "." due.Nothing ts) _ (rest ts) _ d.0 (then_is (expect_name (rest ts)) _ (reading.name (rest ts), rest (rest ts)) _ x.0
            (then_is (expect "(" due.Nothing (rest (rest ts))) _ inside _ o.0
            (true_is (is_at ")" inside) _ _ _ (tested table 41 (omega arith) inside (right_round ∷ to) true o.1 refl) refl)));
        shows = m.1;
        says = ap (λ y. pin y None) (x.1.0);
      }
  pin_complete ts from to c (connected {cell} {n} {from = inner} {t = t} h) e f =
      let d = mark_read table 46 (omega arith) due.Nothing ts _ e in
      let x = name_read table cell n (rest ts) _ d.1 in
      let o = mark_read table 40 (omega arith) due.Nothing (rest (rest ts)) inner (x.1.1) in
      let inside = rest (rest (rest ts)) in
      let a = term_complete table inside inner (right_round ∷ to) t h o.1 refl in
      let m = mark_read table 41 (omega arith) due.AfterTerm a.left to a.shows in
      record {
        value = Pin (reading.name (rest ts)) (Some a.value);
        left = rest a.left;
        is = then_is (expect "." due.Nothing ts) _ (rest ts) _ d.0 (then_is (expect_name (rest ts)) _ (reading.name (rest ts), rest (rest ts)) _ x.0
            (then_is (expect "(" due.Nothing (rest (rest ts))) _ inside _ o.0
            (false_is (is_at ")" inside) _ _ _ (tested table 41 (omega arith) inside inner false o.1 (term_unmarked inner (right_round ∷ to) t h 41))
            (then_is (term inside) _ (a.value, a.left) _ a.is (then_is (expect ")" due.AfterTerm a.left) _ (rest a.left) _ m.0 refl)))));
        shows = m.1;
        says = ap (λ y. pin y (Some (term_view table a.value))) (x.1.0) ∙ ap (λ y. pin n (Some y)) a.says;
      }

  place_start : (from to : Text) (c : Connection) → IsPlace from to c → begins_with 46 to ≡ false → begins_with 46 from ≡ false
  place_start from to c nothing f = f
  place_start from to c (something {t} h) f = term_unmarked from to t h 46

  places_start : (from to : Text) (cs : List Connection) → IsListed IsPlace from (right_round ∷ to) cs → begins_with 46 from ≡ false
  places_start from to cs (last {x} p) = place_start from (right_round ∷ to) x p refl
  places_start from to cs (more {next} {x} p l) = place_start from (comma ∷ next) x p refl

  pin_start : (from to : Text) (c : Connection) → IsPin from to c → (begins_with 46 from ≡ true) × (begins_with 41 from ≡ false)
  pin_start from to c unconnected = (refl, refl)
  pin_start from to c (connected h) = (refl, refl)

  pins_start : (from to : Text) (cs : List Connection) → IsListed IsPin from to cs → (begins_with 46 from ≡ true) × (begins_with 41 from ≡ false)
  pins_start from to cs (last p) = pin_start _ _ _ p
  pins_start from to cs (more p l) = pin_start _ _ _ p

  connections_complete : (ts : Rest) (from to : Text) (cs : List Connection) → AreConnections from to cs → shown table ts ≡ from
      → Reads table (parts.connections ts) (map (connection_view table)) to cs
  unfolding parts.connections
  connections_complete ts from to cs no_connection e =
      let m = mark_next table 41 ts to e in
      record {
        value = [];
        left = rest ts;
        is = true_is (is_at ")" ts) _ _ _ (tested table 41 (omega arith) ts (right_round ∷ to) true e refl) refl;
        shows = m.1;
        says = refl;
      }
  connections_complete ts from to cs (places n l) e =
      let a =
      listed_complete table parts.place IsPlace (connection_view table) IsEnding (λ u. record { ends = refl; unindexed = refl }) place_extends place_complete ts
      from (right_round ∷ to) cs l e (record { ends = refl; unindexed = refl }) refl in
      let c = mark_read table 41 (omega arith) due.AfterTerm a.left to a.shows in
      record {
        value = a.value;
        left = rest a.left;
        is = false_is (is_at ")" ts) _ _ _ (tested table 41 (omega arith) ts from false e n)
            (false_is (is_at "." ts) _ _ _ (tested table 46 (omega arith) ts from false e (places_start from to cs l))
            (then_is (listed parts.place ts) _ (a.value, a.left) _ a.is (then_is (expect ")" due.AfterTerm a.left) _ (rest a.left) _ c.0 refl)));
        shows = c.1;
        says = a.says;
      }
  connections_complete ts from to cs (pins l) e =
      let a =
      listed_complete table parts.pin IsPin (connection_view table) (λ u. Unit {0}) (λ u. tt) pin_extends pin_complete ts from
      (right_round ∷ to) cs l e tt refl in
      let c = mark_read table 41 (omega arith) due.Nothing a.left to a.shows in
      let start = pins_start from (right_round ∷ to) cs l in
      record {
        value = a.value;
        left = rest a.left;
        is = false_is (is_at ")" ts) _ _ _ (tested table 41 (omega arith) ts from false e start.1)
            (true_is (is_at "." ts) _ _ _ (tested table 46 (omega arith) ts from true e start.0)
            (then_is (listed parts.pin ts) _ (a.value, a.left) _ a.is (then_is (expect ")" due.Nothing a.left) _ (rest a.left) _ c.0 refl)));
        shows = c.1;
        says = a.says;
      }

  pub instance_complete : (cell : Cell) (ts : Rest) (from to : Text) (p : Component) → IsInstance cell from to p → shown table ts ≡ from → Unit {0}
      → Reads table (parts.instance cell ts) (component_view table) to p
  unfolding parts.instance
  instance_complete cell ts from to p (instance {inside = inside} {cs = cs} b l) e f =
      let here = instance_name ts in
      let o = mark_read table 40 (omega arith) (if is_name (sort ts) then due.AfterInstance else due.Nothing) here inside (label_complete ts from inside b e) in
      let a = connections_complete (rest here) inside to cs l o.1 in
      record {
        value = record { shape = shapes.Cell cell; at = at here; connections = a.value };
        left = a.left;
        is = then_is (opened ts here) _ (rest here) _ o.0 (then_is (parts.connections (rest here)) _ (a.value, a.left) _ a.is refl);
        shows = a.shows;
        says = ap (λ xs. record { shape = shapes.Cell cell; connections = xs }) a.says;
      }

  pub assignment_complete : (ts : Rest) (from to : Text) (p : Component) → IsAssignment from to p → shown table ts ≡ from → IsUnindexed to
      → Reads table (parts.assignment ts) (component_view table) to p
  unfolding parts.assignment
  assignment_complete ts from to p (assignment {next = next} {left = l} {right = r} h k) e f =
      let a = term_complete table ts from (equals ∷ next) l h e refl in
      let m = mark_read table 61 (omega arith) due.AfterTerm a.left next a.shows in
      let b = term_complete table (rest a.left) next to r k m.1 f in
      record {
        value = record { shape = shapes.Assign; at = at ts; connections = Place a.value ∷ Place b.value ∷ [] };
        left = b.left;
        is = then_is (term ts) _ (a.value, a.left) _ a.is (then_is (expect "=" due.AfterTerm a.left) _ (rest a.left) _ m.0
            (then_is (term (rest a.left)) _ (b.value, b.left) _ b.is refl));
        shows = b.shows;
        says = ap (λ x. record { shape = shapes.Assign; connections = place x ∷ place (term_view table b.value) ∷ [] }) a.says
            ∙ ap (λ x. record { shape = shapes.Assign; connections = place l ∷ place x ∷ [] }) b.says;
      }
