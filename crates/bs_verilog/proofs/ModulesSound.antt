-- What items, modules and whole texts are read from is in the grammar.
use Rattle.std.proofs.Common.{◌≡◌, ℕ, zero, suc, ◌+◌, ◌<◌, Bool, true, false, List, [], ◌∷◌, length, map, Option, Some, None, Ok}
use Rattle.std.proofs.Common.{Err, refl, sym, ap, arith, subst}
use Rattle.std.proofs.lemmas.List.{map-append}
use Rattle.std.specs.Prelude.{if◌then◌else◌}
use Rattle.bs_bits.specs.Reading.{◌>>=◌}
use Rattle.bs_lex.specs.declared.lexeme.Cell.{Cell}
use Rattle.bs_lex.specs.declared.lexeme.Word.TheVariants as words
use Rattle.bs_lex.specs.declared.lexeme.Sort.{Sort}
use Rattle.bs_lex.specs.declared.lexeme.Sort.TheVariants as sorts
use Rattle.bs_lex.specs.declared.lexeme.Name as code_name
use Rattle.bs_lex.specs.Lexemes.{is_name}
use Rattle.bs_verilog_syntax.specs.declared.fault.VerilogFault.{VerilogFault}
use Rattle.bs_verilog_syntax.specs.declared.fault.VerilogFault.TheVariants.{Syntax}
use Rattle.bs_verilog_syntax.specs.declared.reading.Due.TheVariants as due
use Rattle.bs_verilog_syntax.specs.declared.reading.AttributeStep.TheVariants.{On, Over, Unclosed}
use Rattle.bs_verilog_syntax.specs.declared.tree.Direction as code
use Rattle.bs_verilog_syntax.specs.declared.tree.Net as code_net
use Rattle.bs_verilog_syntax.specs.declared.tree.Net.TheVariants as nets
use Rattle.bs_verilog_syntax.specs.Reading.{Rest, Read, Skip, at, sort, rest, refused, expect_name}
use Rattle.bs_verilog_syntax.specs.Reading as reading
use Rattle.bs_verilog_syntax.specs.Terms.{attribute_step, attributes_from, attributes}
use Rattle.bs_verilog_syntax.specs.Declarations.{direction, net, port_says, net_says, names, header}
use Rattle.bs_verilog_syntax.specs.Parts.{gates, instances, assignments}
use Rattle.bs_verilog_syntax.specs.Modules as modules
use Rattle.bs_verilog_syntax.specs.Modules.{statement, item, items, top, is_endmodule, is_end, is_cell, is_module, skipped, begun, cells, leading, syntax_of}
use Rattle.bs_verilog.specs.Symbols.{Symbol, Text, keyword, finish}
use Rattle.bs_verilog.specs.Symbols as symbols
use Rattle.bs_verilog.specs.Written.{Says, Adds}
use Rattle.bs_verilog.specs.Productions as productions
use Rattle.bs_verilog.specs.Productions.{semicolon, IsListed, AreAttributes, no_more, IsDeclared, direction_word, net_word, net_said, IsItem}
use Rattle.bs_verilog.specs.Productions.{port_item, net_item, assign_item, gate_item, cell_item, AreItems, no_item, one_item, IsTop, IsPassed, ended}
use Rattle.bs_verilog.specs.Productions.{passing, is_passed, AreCells, no_cell, one_cell, IsNetlistText, netlist}
use Rattle.bs_verilog.specs.Views.{name_view, declared_view, component_view, adds_view, module_view}
use Rattle.bs_verilog.proofs.Sound.{Sound, and_then, if_so, weaker, both}
use Rattle.bs_verilog.proofs.Shown.{seen_as, shown, some_left}
use Rattle.bs_verilog.proofs.TermsSound.{attributes_sound}
use Rattle.bs_verilog.proofs.PartsSound.{keep, direction_shown, port_says_sound, net_says_sound, names_sound, header_sound, gates_sound}
use Rattle.bs_verilog.proofs.PartsSound.{instances_sound, assignments_sound}
use Rattle.bs_verilog.proofs.Extends.{EndsOnce, at_end, before_end, tail_once, once_left, attributes_extend, top_extends}
use Rattle.bs_verilog.proofs.Extends.{off, cells_extend}

module _ (table : List (List ℕ)) where
  net_shown : (ts : Rest) (n : code_net.Net) → net (sort ts) ≡ Some n → shown table ts ≡ net_word n ∷ shown table (rest ts)
  net_shown [] n e = absurd cc
  net_shown (t ∷ ts) n e = by t.sort e
    where
      by : (s : Sort) → net s ≡ Some n → seen_as table s t.name ∷ shown table ts ≡ net_word n ∷ shown table ts
      by (sorts.Word words.Wire) e = let same : nets.Wire ≡ n = cc in ap (λ x. net_word x ∷ shown table ts) same
      by (sorts.Word words.Supply0) e = let same : nets.Supply0 ≡ n = cc in ap (λ x. net_word x ∷ shown table ts) same
      by (sorts.Word words.Supply1) e = let same : nets.Supply1 ≡ n = cc in ap (λ x. net_word x ∷ shown table ts) same
      by _ e = absurd cc

  endmodule_shown : (ts : Rest) → is_endmodule (sort ts) ≡ true → shown table ts ≡ keyword words.Endmodule ∷ shown table (rest ts)
  endmodule_shown [] e = absurd cc
  endmodule_shown (t ∷ ts) e = by t.sort e
    where
      by : (s : Sort) → is_endmodule s ≡ true → seen_as table s t.name ∷ shown table ts ≡ keyword words.Endmodule ∷ shown table ts
      by (sorts.Word words.Endmodule) e = refl
      by _ e = absurd cc

  module_shown : (ts : Rest) → is_module (sort ts) ≡ true → shown table ts ≡ keyword words.Module ∷ shown table (rest ts)
  module_shown [] e = absurd cc
  module_shown (t ∷ ts) e = by t.sort e
    where
      by : (s : Sort) → is_module s ≡ true → seen_as table s t.name ∷ shown table ts ≡ keyword words.Module ∷ shown table ts
      by (sorts.Word words.Module) e = refl
      by _ e = absurd cc

  cell_shown : (ts : Rest) → is_cell (sort ts) ≡ true
      → (cell : Cell) × (shown table ts ≡ symbols.name (Some cell) (name_view table (reading.name ts)) ∷ shown table (rest ts))
  cell_shown [] e = absurd cc
  cell_shown (t ∷ ts) e = by t.sort e
    where
      by : (s : Sort) → is_cell s ≡ true
          → (cell : Cell) × (seen_as table s t.name ∷ shown table ts ≡ symbols.name (Some cell) (name_view table (reading.name (t ∷ ts))) ∷ shown table ts)
      by (sorts.Name (Some cell)) e = (cell, refl)
      by _ e = absurd cc

  top_name : (ts : Rest) → is_cell (sort ts) ≡ false → Sound (expect_name ts) (λ y. shown table ts ≡ symbols.name None (name_view table y.0) ∷ shown table y.1)
  top_name [] c = record { is = tt }
  top_name (t ∷ ts) c = by t.sort c
    where
      by : (s : Sort) → is_cell s ≡ false
          → Sound {A = code_name.Name × Rest} {F = VerilogFault} (if is_name s then Ok (reading.name (t ∷ ts), ts) else Err (refused due.Nothing (t ∷ ts)))
          (λ y. seen_as table s t.name ∷ shown table ts ≡ symbols.name None (name_view table y.0) ∷ shown table y.1)
      by (sorts.Name None) c = record { is = refl }
      by (sorts.Name (Some cell)) c = absurd cc
      by _ c = record { is = tt }

  -- ---- items

  statement_sound : (ts : Rest) → Sound (statement (sort ts) ts) (λ y. IsItem (shown table ts) (shown table y.1) (adds_view table y.0))
  statement_sound [] = record { is = tt }
  statement_sound (t ∷ ts) = by t.sort
    where
      by : (s : Sort) → Sound (statement s (t ∷ ts)) (λ y. IsItem (seen_as table s t.name ∷ shown table ts) (shown table y.1) (adds_view table y.0))
      by (sorts.Word words.Assign) =
          and_then (assignments ts) _ _ _ (assignments_sound table ts) (λ x d. record { is = assign_item (d.1.0) (d.1.1) })
      by (sorts.Word (words.Gate kind)) =
          and_then (gates kind ts) _ _ _ (gates_sound table kind ts) (λ x d. record { is = gate_item (d.1.0) (d.1.1) })
      by (sorts.Name (Some cell)) =
          and_then (instances cell ts) _ _ _ (instances_sound table cell ts) (λ x l. record { is = cell_item l })
      by _ = record { is = tt }

  item_sound : (ts : Rest) → Sound (item ts) (λ y. IsItem (shown table ts) (shown table y.1) (adds_view table y.0))
  unfolding item
  item_sound ts = by (direction (sort ts)) refl
    where
      net_by : (o : Option code_net.Net) → net (sort ts) ≡ o
          → Sound (elim o [
            | Some n ↦ net_says n (rest ts) >>= (λ says. modules.declares (names says.0 says.1))
            | None ↦ statement (sort ts) ts
          ]) (λ y. IsItem (shown table ts) (shown table y.1) (adds_view table y.0))
      net_by (Some n) e =
          and_then (net_says n (rest ts)) _ _ _ (net_says_sound table n (rest ts)) (λ says p.
          and_then (names says.0 says.1) _ _ _ (names_sound table says.0 says.1) (λ x l.
          record {
            is = rw (net_shown ts n e)
                (net_item (p.1.0)
                (subst (λ (s : Says). IsListed (IsDeclared s) (shown table says.1) (semicolon ∷ shown table x.1) (map (declared_view table) x.0)) (p.1.1) l));
          }))
      net_by None e = statement_sound ts

      by : (o : Option code.Direction) → direction (sort ts) ≡ o
          → Sound (elim o [
            | Some d ↦ port_says d (rest ts) >>= (λ says. modules.declares (names says.0 says.1))
            | None ↦ elim (net (sort ts)) [
              | Some n ↦ net_says n (rest ts) >>= (λ says. modules.declares (names says.0 says.1))
              | None ↦ statement (sort ts) ts
            ]
          ]) (λ y. IsItem (shown table ts) (shown table y.1) (adds_view table y.0))
      by (Some d) e =
          and_then (port_says d (rest ts)) _ _ _ (port_says_sound table d (rest ts)) (λ says p.
          and_then (names says.0 says.1) _ _ _ (names_sound table says.0 says.1) (λ x l.
          record { is = rw (direction_shown table ts d e) (port_item p l) }))
      by None e = net_by (net (sort ts)) refl

  item_some : (ts : Rest) (to : Text) (x : Adds) → IsItem (shown table ts) to x → 0 < length ts
  item_some [] to x i = elim i [ ]
  item_some (t ∷ ts) to x i = omega arith

  items_sound : (n : ℕ) (ts : Rest) → Sound (items n ts) (λ y. AreItems (shown table ts) (shown table y.1) (adds_view table y.0))
  unfolding items
  items_sound zero ts = record { is = tt }
  items_sound (suc n) ts =
      if_so (is_endmodule (sort ts)) _ _ _ (λ e. record { is = rw (endmodule_shown ts e) no_item })
      (λ e. and_then (attributes ts) _ _ _ (attributes_sound table ts) (λ here a.
      and_then (item here) _ _ _ (item_sound here) (λ x i.
      and_then (items n x.1) _ _ _ (items_sound n x.1) (λ xs l.
      record {
        is = rw (map-append (declared_view table) x.0.declared xs.0.declared, map-append (component_view table) x.0.parts xs.0.parts)
            (one_item (a (item_some here _ _ i)) i l);
      }))))

  -- ---- modules

  top_sound : (ts : Rest) → is_cell (sort ts) ≡ false → Sound (modules.top ts) (λ y. IsTop (shown table ts) (shown table y.1) (module_view table y.0))
  unfolding modules.top
  top_sound ts c =
      and_then (expect_name ts) _ _ _ (top_name ts c) (λ n s.
      and_then (header n.1) _ _ _ (header_sound table n.1) (λ head h.
      and_then (items (length head.1 + 1) head.1) _ _ _ (items_sound (length head.1 + 1) head.1) (λ body b.
      record { is = rw (s, map-append (declared_view table) head.0.declared body.0.declared) (productions.top h b) })))

  begun_sound : (ts : Rest) → Sound (begun ts) (λ left. AreAttributes (shown table ts) (keyword words.Module ∷ shown table left))
  unfolding begun
  begun_sound ts =
      and_then (attributes ts) _ _ _ (attributes_sound table ts) (λ here a.
      if_so (is_module (sort here)) _ _ _
      (λ e. let shows = module_shown here e in record { is = keep (λ u. AreAttributes (shown table ts) u) _ _ shows (a (some_left table here _ _ shows)) })
      (λ e. record { is = tt }))

  skipped_sound : (ts : Rest) → Sound (skipped ts) (λ left. 0 < length left → IsPassed (shown table ts) (shown table left))
  unfolding skipped
  skipped_sound [] = record { is = λ some. absurd (omega (arith, some)) }
  skipped_sound (t ∷ ts) = by t.sort (skipped_sound ts)
    where
      by : (s : Sort) → Sound (skipped ts) (λ left. 0 < length left → IsPassed (shown table ts) (shown table left))
          → Sound (if is_endmodule s then Ok ts else if is_end s then Err (Syntax t.at) else skipped ts)
          (λ left. 0 < length left → IsPassed (seen_as table s t.name ∷ shown table ts) (shown table left))
      by (sorts.Word words.Endmodule) h = record { is = λ some. ended }
      by sorts.End h = record { is = tt }
      by _ h = weaker (skipped ts) _ _ h (λ left p some. passing refl (p some))

  -- behind a cell's name
  cell_passed : (ts : Rest) → is_cell (sort ts) ≡ true → Sound (skipped ts) (λ left. 0 < length left → IsPassed (shown table (rest ts)) (shown table left))
  unfolding skipped
  cell_passed [] e = absurd cc
  cell_passed (t ∷ ts) e = by t.sort e
    where
      by : (s : Sort) → is_cell s ≡ true
          → Sound (if is_endmodule s then Ok ts else if is_end s then Err (Syntax t.at) else skipped ts)
          (λ left. 0 < length left → IsPassed (shown table ts) (shown table left))
      by (sorts.Name (Some cell)) e = skipped_sound ts
      by _ e = absurd cc

  attributes_nothing : (us : Text) (s : Symbol) → AreAttributes [] (s ∷ us) → ⊥
  attributes_nothing us s a = elim a [ ]

  begun_some : (ts : Rest) (us : Text) (s : Symbol) → AreAttributes (shown table ts) (s ∷ us) → 0 < length ts
  begun_some [] us s a = absurd (attributes_nothing us s a)
  begun_some (t ∷ ts) us s a = omega arith

  -- cells, and then attributes and a `module`
  IsLed : Text → Text → Type 0
  IsLed from to = (middle : Text) × ((AreCells from middle) × (AreAttributes middle (keyword words.Module ∷ to)))

  led_some : (ts : Rest) (to : Text) → IsLed (shown table ts) to → 0 < length ts
  unfolding IsLed
  led_some ts to (middle, (no_cell, a)) = begun_some ts to (keyword words.Module) a
  led_some ts to (middle, (one_cell b p l, a)) = begun_some ts _ (keyword words.Module) b

  leading_sound : (n : ℕ) (ts : Rest) → Sound (leading n ts) (λ left. (is_cell (sort left) ≡ false) × IsLed (shown table ts) (shown table left))
  unfolding leading IsLed
  leading_sound zero ts = record { is = tt }
  leading_sound (suc n) ts =
      and_then (begun ts) _ _ _ (begun_sound ts) (λ inside b.
      if_so (is_cell (sort inside)) _ _ _
      (λ c. let shows = cell_shown inside c in
      and_then (skipped inside) _ _ _ (cell_passed inside c) (λ next p.
      weaker (leading n next) _ _ (leading_sound n next) (λ left l. (
        l.0,
        (
          l.1.0,
          (
            one_cell (keep (λ u. AreAttributes (shown table ts) (keyword words.Module ∷ u)) _ _ (shows.1) b)
                (p (led_some next (shown table left) (l.1))) (l.1.1.0),
            l.1.1.1,
          ),
        ),
      ))))
      (λ c. record { is = (c, (shown table ts, (no_cell, b))) }))

  -- ---- the end of the text

  finish_last : (us : Text) → EndsOnce (finish ∷ us) → us ≡ []
  finish_last us at_end = refl
  finish_last us (before_end n h) = absurd cc

  once_end : (ts : Rest) → is_end (sort ts) ≡ true → EndsOnce (shown table ts) → shown table ts ≡ finish ∷ []
  once_end [] e h = elim h [ ]
  once_end (t ∷ ts) e h = by t.sort e h
    where
      by : (s : Sort) → is_end s ≡ true → EndsOnce (seen_as table s t.name ∷ shown table ts) → seen_as table s t.name ∷ shown table ts ≡ finish ∷ []
      by sorts.End e h = ap (λ us. finish ∷ us) (finish_last (shown table ts) h)
      by _ e h = absurd cc

  going_once : (inside : Bool) (ts : Rest) → EndsOnce (shown table ts) → Sound (attributes_from inside ts) (λ left. EndsOnce (shown table left))
  unfolding attributes_from
  going_once inside [] h = elim h [ ]
  going_once inside (t ∷ ts) h = by inside t.sort h (going_once true ts) (going_once false ts)
    where
      by : (inside : Bool) (s : Sort) → EndsOnce (seen_as table s t.name ∷ shown table ts)
          → (EndsOnce (shown table ts) → Sound (attributes_from true ts) (λ left. EndsOnce (shown table left)))
          → (EndsOnce (shown table ts) → Sound (attributes_from false ts) (λ left. EndsOnce (shown table left)))
          → Sound {A = Rest} {F = VerilogFault} (elim
          (attribute_step inside s) [ On next ↦ attributes_from next ts | Over ↦ Ok (t ∷ ts) | Unclosed ↦ Err (Syntax t.at) ])
          (λ left. EndsOnce (shown table left))
      by true sorts.AttrClose k o c = c (tail_once refl k)
      by true sorts.End k o c = record { is = tt }
      by true _ k o c = o (tail_once refl k)
      by false sorts.AttrOpen k o c = o (tail_once refl k)
      by false _ k o c = record { is = h }

  skipped_once : (ts : Rest) → EndsOnce (shown table ts) → Sound (skipped ts) (λ left. EndsOnce (shown table left))
  unfolding skipped
  skipped_once [] h = elim h [ ]
  skipped_once (t ∷ ts) h = by t.sort h (skipped_once ts)
    where
      by : (s : Sort) → EndsOnce (seen_as table s t.name ∷ shown table ts)
          → (EndsOnce (shown table ts) → Sound (skipped ts) (λ left. EndsOnce (shown table left)))
          → Sound (if is_endmodule s then Ok ts else if is_end s then Err (Syntax t.at) else skipped ts) (λ left. EndsOnce (shown table left))
      by (sorts.Word words.Endmodule) k r = record { is = tail_once refl k }
      by sorts.End k r = record { is = tt }
      by _ k r = r (tail_once refl k)

  once_some : (ts : Rest) → EndsOnce (shown table ts) → 0 < length ts
  once_some [] h = elim h [ ]
  once_some (t ∷ ts) h = omega arith

  joined : (a b c : Text) → AreAttributes a b → AreAttributes b c → AreAttributes a c
  joined a b c no_more f = f
  joined a b c (productions.one_more i e) f = productions.one_more i (joined _ _ _ e f)

  IsFurther : Text → Text → Type 0
  IsFurther from to =
      (cell : Cell) × ((n : List ℕ) × ((inside : Text) ×
      ((AreAttributes from (keyword words.Module ∷ symbols.name (Some cell) n ∷ inside)) × (IsPassed inside to))))

  further_sound : (ts : Rest) → EndsOnce (shown table ts)
      → Sound (modules.further ts) (λ left. EndsOnce (shown table left) × IsFurther (shown table ts) (shown table left))
  unfolding modules.further IsFurther
  further_sound ts h =
      and_then (attributes ts) _ _ _ (both (attributes ts) _ _ (attributes_sound table ts) (going_once false ts h)) (λ here a.
      and_then (begun here) _ _ _ (begun_sound here) (λ inside b.
      let once = once_left (off refl (attributes_extend b)) a.1 in
      if_so (is_cell (sort inside)) _ _ _
      (λ c. let shows = cell_shown inside c in
      weaker (skipped inside) _ _ (both (skipped inside) _ _ (cell_passed inside c) (skipped_once inside once)) (λ left p. (
        p.1,
        (
          shows.0,
          (
            name_view table (reading.name inside),
            (
              shown table (rest inside),
              (
                joined (shown table ts) (shown table here)
                    (keyword words.Module ∷ symbols.name (Some (shows.0)) (name_view table (reading.name inside)) ∷ shown table (rest inside))
                    (a.0 (once_some here a.1)) (keep (λ u. AreAttributes (shown table here) (keyword words.Module ∷ u)) _ _ (shows.1) b),
                p.0 (once_some left p.1),
              ),
            ),
          ),
        ),
      )))
      (λ c. if_so (is_name (sort inside)) _ _ _ (λ e. record { is = tt }) (λ e. record { is = tt }))))

  cells_sound : (n : ℕ) (ts : Rest) → EndsOnce (shown table ts) → Sound (cells n ts) (λ left. AreCells (shown table ts) (finish ∷ []))
  unfolding cells IsFurther
  cells_sound zero ts h = record { is = tt }
  cells_sound (suc n) ts h =
      if_so (is_end (sort ts)) _ _ _ (λ e. record { is = subst (λ (u : Text). AreCells u (finish ∷ [])) (sym (once_end ts e h)) no_cell })
      (λ e. and_then (modules.further ts) _ _ _ (further_sound ts h) (λ next p.
      weaker (cells n next) _ _ (cells_sound n next p.0) (λ left l. one_cell (p.1.1.1.1.0) (p.1.1.1.1.1) l)))

  pub syntax_sound : (ts : Rest) → EndsOnce (shown table ts) → Sound (syntax_of ts) (λ m. IsNetlistText (shown table ts) (module_view table m))
  unfolding syntax_of IsLed
  syntax_sound ts h =
      and_then (leading (length ts + 1) ts) _ _ _ (leading_sound (length ts + 1) ts) (λ inside l.
      and_then (modules.top inside) _ _ _ (top_sound inside l.0) (λ m t.
      and_then (cells (length m.1 + 1) m.1) _ _ _
      (cells_sound (length m.1 + 1) m.1 (once_left (top_extends t) (once_left (off refl (attributes_extend (l.1.1.1))) (once_left (cells_extend (l.1.1.0)) h))))
      (λ after c. record { is = netlist (l.1.1.0) (l.1.1.1) t c })))
