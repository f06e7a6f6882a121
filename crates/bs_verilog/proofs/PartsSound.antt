-- What declarations, headers, gates, cells and assignments are read from is in the grammar.
use Rattle.std.proofs.Common.{◌≡◌, ℕ, ◌<◌, Bool, true, false, cond, List, [], ◌∷◌, length, map, Option, Some, None, Ok, Err, refl, sym, ap}
use Rattle.std.proofs.Common.{◌∙◌, arith, subst}
use Rattle.std.specs.Prelude.{if◌then◌else◌, option_map, is_some, unwrap_or, ◌&&◌}
use Rattle.bs_bits.specs.Reading.{◌>>=◌}
use Rattle.bs_net.specs.declared.gate.Kind.{Kind}
use Rattle.bs_lex.specs.declared.lexeme.Cell.{Cell}
use Rattle.bs_lex.specs.declared.lexeme.Sort.{Sort}
use Rattle.bs_lex.specs.declared.lexeme.Sort.TheVariants as sorts
use Rattle.bs_lex.specs.declared.lexeme.Word.TheVariants as words
use Rattle.bs_lex.specs.Lexemes.{is_name}
use Rattle.bs_verilog_syntax.specs.declared.reading.Due.TheVariants as due
use Rattle.bs_verilog_syntax.specs.declared.tree.Direction as code
use Rattle.bs_verilog_syntax.specs.declared.tree.Direction.TheVariants as directions
use Rattle.bs_verilog_syntax.specs.declared.tree.Net as code_net
use Rattle.bs_verilog_syntax.specs.declared.tree.Says as code_says
use Rattle.bs_verilog_syntax.specs.declared.tree.HeaderPort as code_port
use Rattle.bs_verilog_syntax.specs.Unsupported.{after_direction}
use Rattle.bs_verilog_syntax.specs.Reading.{Rest, Read, Skip, at, sort, rest, is_at, refused, expect, expect_name, expect_digits, listed}
use Rattle.bs_verilog_syntax.specs.Reading as reading
use Rattle.bs_verilog_syntax.specs.Terms.{term, delay, attributes}
use Rattle.bs_verilog_syntax.specs.Declarations as declarations
use Rattle.bs_verilog_syntax.specs.Declarations.{direction, net, is_wire, range, port_says, net_says, declared_name, names, plain_port, header_port, carried}
use Rattle.bs_verilog_syntax.specs.Declarations.{passed_on, header}
use Rattle.bs_verilog_syntax.specs.Parts as parts
use Rattle.bs_verilog_syntax.specs.Parts.{is_strength, instance_name, opened, gates, instances, assignments}
use Rattle.bs_verilog.specs.Symbols.{Text, keyword}
use Rattle.bs_verilog.specs.Written.{Range, Says, Declared, Connection, Component, HeaderPort}
use Rattle.bs_verilog.specs.Productions.{semicolon, right_round}
use Rattle.bs_verilog.specs.Productions.{IsListed, AreAttributes, IsTerm, IsDelay, IsRange, unranged, ranged, direction_word}
use Rattle.bs_verilog.specs.Productions.{net_said, IsPortSays, plain, wire, IsDeclared, declares, IsPlainPort, bare_port, IsHeaderPort}
use Rattle.bs_verilog.specs.Productions.{with_direction, without, taken_over, AreCarried, carried_all, carried_on, ArePorts, no_port}
use Rattle.bs_verilog.specs.Productions.{plain_ports, declaring_ports, IsHeader, portless, with_ports, IsLabel, unlabelled, labelled, IsByPlace}
use Rattle.bs_verilog.specs.Productions.{by_place, IsPlace, nothing, something, IsPin, unconnected, connected, AreConnections, no_connection, places}
use Rattle.bs_verilog.specs.Productions.{pins, IsGate, gate, IsInstance, instance, IsAssignment, assignment}
use Rattle.bs_verilog.specs.Views.{name_view, range_view, says_view, declared_view, term_view, connection_view, component_view}
use Rattle.bs_verilog.specs.Views.{port_view, ports_view}
use Rattle.bs_verilog.proofs.Sound.{Sound, and_then, and_known, if_so, weaker, both}
use Rattle.bs_verilog.proofs.Shown.{seen_as, shown, mark_shown, name_shown, at_is, some_left, marked, a_name, a_number}
use Rattle.bs_verilog.proofs.TermsSound.{listed_sound, first_sound, HasFirst, attributes_sound, term_sound, delay_sound}

-- ---- declarations

-- a step of what is taken over, with what is said by an equation
carried_step : {before : Says} {p : HeaderPort} {ps : List HeaderPort} {ds : List Declared} (said : Says) → unwrap_or p.says (taken_over before) ≡ said
    → AreCarried said ps ds → AreCarried before (p ∷ ps) (record { says = said; name = p.name } ∷ ds)
carried_step {before} {p} {ps} {ds} said e c =
    subst (λ (s : Says). AreCarried s ps ds → AreCarried before (p ∷ ps) (record { says = s; name = p.name } ∷ ds)) e carried_on c

pub keep : (P : Text → Type 0) (u v : Text) → u ≡ v → P u → P v
keep P u v e p = subst P e p

module _ (table : List (List ℕ)) where
  pub range_sound : (ts : Rest) → Sound (range ts) (λ y. IsRange (shown table ts) (shown table y.1) (option_map (range_view table) y.0))
  unfolding range
  range_sound ts =
      if_so (is_at "[" ts) _ _ _
      (λ here. and_then (expect_digits (rest ts)) _ _ _ (a_number table (rest ts)) (λ left l.
      and_then (expect ":" due.Nothing left.1) _ _ _ (marked table 58 due.Nothing left.1 (omega arith)) (λ after_colon c.
      and_then (expect_digits after_colon) _ _ _ (a_number table after_colon) (λ right r.
      and_then (expect "]" due.Nothing right.1) _ _ _ (marked table 93 due.Nothing right.1 (omega arith)) (λ after a.
      record { is = rw (mark_shown table 91 ts (omega arith) here, l, c, r, a) ranged })))))
      (λ e. record { is = unranged })

  wire_shown : (ts : Rest) → is_wire (sort ts) ≡ true → shown table ts ≡ keyword words.Wire ∷ shown table (rest ts)
  wire_shown [] e = absurd cc
  wire_shown (t ∷ ts) e = by t.sort e
    where
      by : (s : Sort) → is_wire s ≡ true → seen_as table s t.name ∷ shown table ts ≡ keyword words.Wire ∷ shown table ts
      by (sorts.Word words.Wire) e = refl
      by _ e = absurd cc

  pub direction_shown : (ts : Rest) (d : code.Direction) → direction (sort ts) ≡ Some d → shown table ts ≡ direction_word d ∷ shown table (rest ts)
  direction_shown [] d e = absurd cc
  direction_shown (t ∷ ts) d e = by t.sort e
    where
      by : (s : Sort) → direction s ≡ Some d → seen_as table s t.name ∷ shown table ts ≡ direction_word d ∷ shown table ts
      by (sorts.Word words.Input) e = let same : directions.Input ≡ d = cc in ap (λ x. direction_word x ∷ shown table ts) same
      by (sorts.Word words.Output) e = let same : directions.Output ≡ d = cc in ap (λ x. direction_word x ∷ shown table ts) same
      by _ e = absurd cc

  pub port_says_sound : (d : code.Direction) (ts : Rest)
      → Sound (port_says d ts) (λ y. IsPortSays d (shown table ts) (shown table y.1) (says_view table y.0))
  unfolding port_says
  port_says_sound d ts =
      if_so (is_some (after_direction (sort ts))) _ _ _ (λ e. record { is = tt })
      (λ e. if_so (is_wire (sort ts)) _ _ _
      (λ w. and_then (range (rest ts)) _ _ _ (range_sound (rest ts)) (λ r p. record { is = rw (wire_shown ts w) (wire p) }))
      (λ w. and_then (range ts) _ _ _ (range_sound ts) (λ r p. record { is = plain p })))

  pub net_says_sound : (n : code_net.Net) (ts : Rest)
      → Sound (net_says n ts) (λ y. (r : Option Range) × ((IsRange (shown table ts) (shown table y.1) r) × (says_view table y.0 ≡ net_said n r)))
  unfolding net_says
  net_says_sound n ts = and_then (range ts) _ _ _ (range_sound ts) (λ r p. record { is = (option_map (range_view table) r.0, (p, refl)) })

  declared_sound : (says : code_says.Says) (ts : Rest)
      → Sound (declared_name says ts) (λ y. IsDeclared (says_view table says) (shown table ts) (shown table y.1) (declared_view table y.0))
  unfolding declared_name
  declared_sound says ts = and_then (expect_name ts) _ _ _ (a_name table ts) (λ n s. record { is = rw (s.1) declares })

  pub names_sound : (says : code_says.Says) (ts : Rest)
      → Sound (names says ts)
      (λ y. IsListed (IsDeclared (says_view table says)) (shown table ts) (semicolon ∷ shown table y.1) (map (declared_view table) y.0))
  unfolding names
  names_sound says ts =
      and_then (listed (declared_name says) ts) _ _ _
      (listed_sound table (declared_name says) (IsDeclared (says_view table says)) (declared_view table) (declared_sound says) ts) (λ l h.
      and_then (expect ";" due.AfterDeclared l.1) _ _ _ (marked table 59 due.AfterDeclared l.1 (omega arith)) (λ after m.
      record { is = keep (λ u. IsListed (IsDeclared (says_view table says)) (shown table ts) u (map (declared_view table) l.0)) _ _ m h }))

  -- ---- headers

  plain_port_sound : (ts : Rest) → Sound (plain_port ts) (λ y. IsPlainPort (shown table ts) (shown table y.1) (name_view table y.0))
  unfolding plain_port
  plain_port_sound ts =
      and_then (attributes ts) _ _ _ (attributes_sound table ts) (λ here a.
      weaker (expect_name here) _ _ (a_name table here) (λ y s.
      bare_port (keep (λ u. AreAttributes (shown table ts) u) _ _ (s.1) (a (some_left table here _ _ (s.1))))))

  port_by : (ts here : Rest) (o : Option code.Direction) → (0 < length here → AreAttributes (shown table ts) (shown table here)) → direction (sort here) ≡ o
      → Sound (elim o [
        | Some d ↦ port_says d (rest here) >>= λ says. expect_name says.1 >>= λ n. Ok (record { says = Some says.0; name = n.0 }, n.1)
        | None ↦ if is_name (sort here) then Ok (record { says = None; name = reading.name here }, rest here) else Err (refused due.Port here)
      ]) (λ (y : code_port.HeaderPort × Rest). IsHeaderPort (shown table ts) (shown table y.1) (port_view table y.0))
  port_by ts here (Some d) a e =
      let shows = direction_shown here d e in
      and_then (port_says d (rest here)) _ _ _ (port_says_sound d (rest here)) (λ says p.
      and_then (expect_name says.1) _ _ _ (a_name table says.1) (λ n s.
      record {
        is = with_direction (keep (λ u. AreAttributes (shown table ts) u) _ _ shows (a (some_left table here _ _ shows)))
            (keep (λ u. IsPortSays d (shown table (rest here)) u (says_view table says.0)) _ _ (s.1) p);
      }))
  port_by ts here None a e =
      if_so (is_name (sort here)) _ _ _
      (λ n. let shows = name_shown table here n in
      record { is = without (keep (λ u. AreAttributes (shown table ts) u) _ _ (shows.1) (a (some_left table here _ _ (shows.1)))) })
      (λ n. record { is = tt })

  header_port_sound : (ts : Rest) → Sound (header_port ts) (λ y. IsHeaderPort (shown table ts) (shown table y.1) (port_view table y.0))
  unfolding header_port
  header_port_sound ts =
      and_then (attributes ts) _ _ _ (attributes_sound table ts) (λ here a. port_by ts here (direction (sort here)) a refl)

  first_declares : (ts here : Rest) → attributes ts ≡ Ok here → is_name (sort here) ≡ false → Sound (header_port ts) (λ y. is_some y.0.says ≡ true)
  unfolding header_port
  first_declares ts here a n = rw a (by (direction (sort here)))
    where
      by : (o : Option code.Direction)
          → Sound (elim o [
            | Some d ↦ port_says d (rest here) >>= λ says. expect_name says.1 >>= λ n. Ok (record { says = Some says.0; name = n.0 }, n.1)
            | None ↦ if is_name (sort here) then Ok (record { says = None; name = reading.name here }, rest here) else Err (refused due.Port here)
          ]) (λ (y : code_port.HeaderPort × Rest). is_some y.0.says ≡ true)
      by (Some d) =
          and_then (port_says d (rest here)) _ _ _ (port_says_sound d (rest here)) (λ says p.
          and_then (expect_name says.1) _ _ _ (a_name table says.1) (λ n s. record { is = refl }))
      by None = rw n record { is = tt }

  taken_view : (before : code_says.Says) (o : Option code_says.Says)
      → unwrap_or (option_map (says_view table) o) (taken_over (says_view table before)) ≡ says_view table (unwrap_or o (passed_on before))
  taken_view before (Some s) = refl
  taken_view before None = refl

  pub carried_sound : (before : code_says.Says) (ps : List code_port.HeaderPort)
      → AreCarried (says_view table before) (map (port_view table) ps) (map (declared_view table) (carried before ps))
  unfolding carried
  carried_sound before [] = carried_all
  carried_sound before (p ∷ ps) =
      carried_step (says_view table (unwrap_or p.says (passed_on before))) (taken_view before p.says) (carried_sound (unwrap_or p.says (passed_on before)) ps)

  pub names_view : (ps : List code_port.HeaderPort)
      → map (name_view table) (map (λ (p : code_port.HeaderPort). p.name) ps) ≡ map (λ (q : HeaderPort). q.name) (map (port_view table) ps)
  names_view [] = refl
  names_view (p ∷ ps) = ap (λ ns. name_view table p.name ∷ ns) (names_view ps)

  declaring_sound : (from to : Text) (ps : List code_port.HeaderPort) → HasFirst (λ (p : code_port.HeaderPort). is_some p.says ≡ true) ps
      → IsListed IsHeaderPort from (right_round ∷ to) (map (port_view table) ps)
      → ArePorts from to (record {
        header = map (name_view table) (map (λ (p : code_port.HeaderPort). p.name) ps);
        declared = map (declared_view table) (carried declarations.nothing_said ps);
      })
  declaring_sound from to [] f l = absurd f
  declaring_sound from to (p ∷ ps) f l =
      rw (names_view (p ∷ ps)) (declaring_ports l (said p.says f) (carried_sound declarations.nothing_said (p ∷ ps)))
    where
      said : (o : Option code_says.Says) → is_some o ≡ true → is_some (option_map (says_view table) o) ≡ true
      said (Some s) e = refl
      said None e = absurd cc

  ports_sound : (ts : Rest) → Sound (declarations.ports ts) (λ y. ArePorts (shown table ts) (shown table y.1) (ports_view table y.0))
  unfolding declarations.ports
  ports_sound ts =
      if_so (is_at ")" ts) _ _ _ (λ e. record { is = rw (mark_shown table 41 ts (omega arith) e) no_port })
      (λ e. and_known (attributes ts) _ _ (λ here a.
      if_so (is_name (sort here)) _ _ _
      (λ n. and_then (listed plain_port ts) _ _ _ (listed_sound table plain_port IsPlainPort (name_view table) plain_port_sound ts) (λ l h.
      and_then (expect ")" due.Nothing l.1) _ _ _ (marked table 41 due.Nothing l.1 (omega arith)) (λ after m.
      record { is = plain_ports (keep (λ u. IsListed IsPlainPort (shown table ts) u (map (name_view table) l.0)) _ _ m h) })))
      (λ n. and_then (listed header_port ts) _ _ _
      (both (listed header_port ts) _ _ (listed_sound table header_port IsHeaderPort (port_view table) header_port_sound ts)
      (first_sound header_port (λ (p : code_port.HeaderPort). is_some p.says ≡ true) ts (first_declares ts here a n))) (λ l h.
      and_then (expect ")" due.AfterDeclared l.1) _ _ _ (marked table 41 due.AfterDeclared l.1 (omega arith)) (λ after m.
      record {
        is = declaring_sound (shown table ts) (shown table after) l.0 h.1
            (keep (λ u. IsListed IsHeaderPort (shown table ts) u (map (port_view table) l.0)) _ _ m h.0);
      })))))

  pub header_sound : (ts : Rest) → Sound (header ts) (λ y. IsHeader (shown table ts) (shown table y.1) (ports_view table y.0))
  unfolding header
  header_sound ts =
      if_so (is_at "(" ts) _ _ _
      (λ here. and_then (declarations.ports (rest ts)) _ _ _ (ports_sound (rest ts)) (λ l h.
      and_then (expect ";" due.Nothing l.1) _ _ _ (marked table 59 due.Nothing l.1 (omega arith)) (λ after m.
      record {
        is = rw (mark_shown table 40 ts (omega arith) here)
            (with_ports (keep (λ u. ArePorts (shown table (rest ts)) u (ports_view table l.0)) _ _ m h));
      })))
      (λ e. and_then (expect ";" due.AfterModule ts) _ _ _ (marked table 59 due.AfterModule ts (omega arith)) (λ after m.
      record { is = rw m portless }))

  -- ---- gates, cells and assignments

  label_sound : (ts : Rest) → IsLabel (shown table ts) (shown table (instance_name ts))
  label_sound ts = by (is_name (sort ts)) refl
    where
      by : (b : Bool) → is_name (sort ts) ≡ b → IsLabel (shown table ts) (shown table (cond b (rest ts) ts))
      by true e = rw ((name_shown table ts e).1) labelled
      by false e = unlabelled

  by_place_sound : (ts : Rest) → Sound (parts.by_place ts) (λ y. IsByPlace (shown table ts) (shown table y.1) (connection_view table y.0))
  unfolding parts.by_place
  by_place_sound ts = and_then (term ts) _ _ _ (term_sound table ts) (λ t h. record { is = by_place h })

  gate_sound : (kind : Kind) (ts : Rest) → Sound (parts.gate kind ts) (λ y. IsGate kind (shown table ts) (shown table y.1) (component_view table y.0))
  unfolding parts.gate
  gate_sound kind ts =
      and_then (opened ts (instance_name ts)) _ _ _
      (marked table 40 (if is_name (sort ts) then due.AfterInstance else due.Nothing) (instance_name ts) (omega arith))
      (λ inside o. and_then (listed parts.by_place inside) _ _ _ (listed_sound table parts.by_place IsByPlace (connection_view table) by_place_sound inside)
      (λ l h. and_then (expect ")" due.AfterTerm l.1) _ _ _ (marked table 41 due.AfterTerm l.1 (omega arith)) (λ after m.
      record {
        is = gate (keep (λ u. IsLabel (shown table ts) u) _ _ o (label_sound ts))
            (keep (λ u. IsListed IsByPlace (shown table inside) u (map (connection_view table) l.0)) _ _ m h);
      })))

  as_place : (from to : Text) (c : Connection) → IsByPlace from to c → IsPlace from to c
  as_place from to c (by_place t) = something t

  place_sound : (ts : Rest) → Sound (parts.place ts) (λ y. IsPlace (shown table ts) (shown table y.1) (connection_view table y.0))
  unfolding parts.place
  place_sound ts =
      if_so (is_at ",)" ts) _ _ _ (λ e. record { is = nothing })
      (λ e. weaker (parts.by_place ts) _ _ (by_place_sound ts) (λ y p. as_place _ _ _ p))

  pin_sound : (ts : Rest) → Sound (parts.pin ts) (λ y. IsPin (shown table ts) (shown table y.1) (connection_view table y.0))
  unfolding parts.pin
  pin_sound ts =
      and_then (expect "." due.Nothing ts) _ _ _ (marked table 46 due.Nothing ts (omega arith)) (λ after_dot d.
      and_then (expect_name after_dot) _ _ _ (a_name table after_dot) (λ n s.
      and_then (expect "(" due.Nothing n.1) _ _ _ (marked table 40 due.Nothing n.1 (omega arith)) (λ inside o.
      if_so (is_at ")" inside) _ _ _ (λ c. record { is = rw (d, s.1, o, mark_shown table 41 inside (omega arith) c) unconnected })
      (λ c. and_then (term inside) _ _ _ (term_sound table inside) (λ t h.
      and_then (expect ")" due.AfterTerm t.1) _ _ _ (marked table 41 due.AfterTerm t.1 (omega arith)) (λ after m.
      record { is = rw (d, s.1, o) (connected (keep (λ u. IsTerm (shown table inside) u (term_view table t.0)) _ _ m h)) }))))))

  connections_sound : (ts : Rest)
      → Sound (parts.connections ts) (λ y. AreConnections (shown table ts) (shown table y.1) (map (connection_view table) y.0))
  unfolding parts.connections
  connections_sound ts =
      if_so (is_at ")" ts) _ _ _ (λ e. record { is = rw (mark_shown table 41 ts (omega arith) e) no_connection })
      (λ open_here. if_so (is_at "." ts) _ _ _
      (λ e. and_then (listed parts.pin ts) _ _ _ (listed_sound table parts.pin IsPin (connection_view table) pin_sound ts) (λ l h.
      and_then (expect ")" due.Nothing l.1) _ _ _ (marked table 41 due.Nothing l.1 (omega arith)) (λ after m.
      record { is = pins (keep (λ u. IsListed IsPin (shown table ts) u (map (connection_view table) l.0)) _ _ m h) })))
      (λ e. and_then (listed parts.place ts) _ _ _ (listed_sound table parts.place IsPlace (connection_view table) place_sound ts) (λ l h.
      and_then (expect ")" due.AfterTerm l.1) _ _ _ (marked table 41 due.AfterTerm l.1 (omega arith)) (λ after m.
      record {
        is = places (sym (at_is table 41 ts (omega arith)) ∙ open_here)
            (keep (λ u. IsListed IsPlace (shown table ts) u (map (connection_view table) l.0)) _ _ m h);
      }))))

  instance_sound : (cell : Cell) (ts : Rest)
      → Sound (parts.instance cell ts) (λ y. IsInstance cell (shown table ts) (shown table y.1) (component_view table y.0))
  unfolding parts.instance
  instance_sound cell ts =
      and_then (opened ts (instance_name ts)) _ _ _
      (marked table 40 (if is_name (sort ts) then due.AfterInstance else due.Nothing) (instance_name ts) (omega arith))
      (λ inside o. and_then (parts.connections inside) _ _ _ (connections_sound inside) (λ l h.
      record { is = instance (keep (λ u. IsLabel (shown table ts) u) _ _ o (label_sound ts)) h }))

  assignment_sound : (ts : Rest) → Sound (parts.assignment ts) (λ y. IsAssignment (shown table ts) (shown table y.1) (component_view table y.0))
  unfolding parts.assignment
  assignment_sound ts =
      and_then (term ts) _ _ _ (term_sound table ts) (λ left l.
      and_then (expect "=" due.AfterTerm left.1) _ _ _ (marked table 61 due.AfterTerm left.1 (omega arith)) (λ after m.
      and_then (term after) _ _ _ (term_sound table after) (λ right r.
      record { is = assignment (keep (λ u. IsTerm (shown table ts) u (term_view table left.0)) _ _ m l) r })))

-- a delay, and then members with commas up to the `;`
abbrev pub AreDelayed : (Text → Text → Component → Type 0) → Text → Text → List Component → Type 0
AreDelayed one from to ps = (next : Text) × ((IsDelay from next) × (IsListed one next (semicolon ∷ to) ps))

module _ (table : List (List ℕ)) where
  pub gates_sound : (kind : Kind) (ts : Rest)
      → Sound (gates kind ts) (λ y. AreDelayed (IsGate kind) (shown table ts) (shown table y.1) (map (component_view table) y.0))
  unfolding gates
  gates_sound kind ts =
      if_so (is_at "(" ts && is_strength (sort (rest ts))) _ _ _ (λ e. record { is = tt })
      (λ e. and_then (delay ts) _ _ _ (delay_sound table ts) (λ first d.
      and_then (listed (parts.gate kind) first) _ _ _
      (listed_sound table (parts.gate kind) (IsGate kind) (component_view table) (gate_sound table kind) first) (λ l h.
      and_then (expect ";" due.Nothing l.1) _ _ _ (marked table 59 due.Nothing l.1 (omega arith)) (λ after m.
      record { is = (shown table first, (d, keep (λ u. IsListed (IsGate kind) (shown table first) u (map (component_view table) l.0)) _ _ m h)) }))))

  pub instances_sound : (cell : Cell) (ts : Rest)
      → Sound (instances cell ts) (λ y. IsListed (IsInstance cell) (shown table ts) (semicolon ∷ shown table y.1) (map (component_view table) y.0))
  unfolding instances
  instances_sound cell ts =
      if_so (is_at "#" ts) _ _ _ (λ e. record { is = tt })
      (λ e. and_then (listed (parts.instance cell) ts) _ _ _
      (listed_sound table (parts.instance cell) (IsInstance cell) (component_view table) (instance_sound table cell) ts)
      (λ l h. and_then (expect ";" due.Nothing l.1) _ _ _ (marked table 59 due.Nothing l.1 (omega arith)) (λ after m.
      record { is = keep (λ u. IsListed (IsInstance cell) (shown table ts) u (map (component_view table) l.0)) _ _ m h })))

  pub assignments_sound : (ts : Rest)
      → Sound (assignments ts) (λ y. AreDelayed IsAssignment (shown table ts) (shown table y.1) (map (component_view table) y.0))
  unfolding assignments
  assignments_sound ts =
      and_then (delay ts) _ _ _ (delay_sound table ts) (λ first d.
      and_then (listed parts.assignment first) _ _ _
      (listed_sound table parts.assignment IsAssignment (component_view table) (assignment_sound table) first) (λ l h.
      and_then (expect ";" due.AfterTerm l.1) _ _ _ (marked table 59 due.AfterTerm l.1 (omega arith)) (λ after m.
      record { is = (shown table first, (d, keep (λ u. IsListed IsAssignment (shown table first) u (map (component_view table) l.0)) _ _ m h)) })))
