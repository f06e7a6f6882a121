-- A module, and an instance statement, count no more than the lexemes from which they are read; the names that a module declares are among them.
use Rattle.std.proofs.Common.{◌≡◌, ℕ, zero, suc, ◌≤◌, ◌+◌, true, false, List, [], ◌∷◌, ◌++◌, map, length, refl, arith, Option, Some, None, Ok, Err}
use Rattle.std.proofs.lemmas.List.{length-append, length-map}
use Rattle.std.specs.Prelude.{is_some, unwrap_or, if◌then◌else◌}
use Rattle.std.specs.List.{AllByRecursion, sum_by}
use Rattle.bs_lex.specs.declared.lexeme.Name.{Name}
use Rattle.bs_lex.specs.declared.lexeme.Sort.{Sort}
use Rattle.bs_lex.specs.declared.lexeme.Sort.TheVariants as sorts
use Rattle.bs_lex.specs.declared.lexeme.Word.TheVariants as words
use Rattle.bs_lex.specs.Lexemes.{is_name}
use Rattle.bs_verilog_syntax.specs.declared.fault.VerilogFault.TheVariants.{Syntax, Unsupported}
use Rattle.bs_verilog_syntax.specs.declared.fault.What.TheVariants as what
use Rattle.bs_verilog_syntax.specs.declared.reading.Due.TheVariants as due
use Rattle.bs_verilog_syntax.specs.declared.tree.Direction as code
use Rattle.bs_verilog_syntax.specs.declared.tree.Net as code_net
use Rattle.bs_verilog_syntax.specs.declared.tree.Net.TheVariants as nets
use Rattle.bs_verilog_syntax.specs.declared.tree.Says.{Says}
use Rattle.bs_verilog_syntax.specs.declared.tree.Component.{Component}
use Rattle.bs_verilog_syntax.specs.declared.tree.Declared.{Declared}
use Rattle.bs_verilog_syntax.specs.declared.tree.HeaderPort.{HeaderPort}
use Rattle.bs_verilog_syntax.specs.declared.tree.Ports.{Ports}
use Rattle.bs_verilog_syntax.specs.declared.tree.Adds.{Adds}
use Rattle.bs_verilog_syntax.specs.declared.tree.Module.{Module}
use Rattle.bs_bits.specs.Reading.{◌>>=◌}
use Rattle.bs_verilog_syntax.specs.Reading.{Rest, Read, at, sort, rest, name, is_at, refused, expect, expect_name, expect_digits, listed}
use Rattle.bs_verilog_syntax.specs.Terms.{attributes}
use Rattle.bs_verilog_syntax.specs.Unsupported.{after_direction}
use Rattle.bs_verilog_syntax.specs.Declarations.{range, direction, net, is_wire, port_says, net_says, declared_name, names, plain_port, header_port, carried, passed_on, nothing_said, ports, header}
use Rattle.bs_verilog_syntax.specs.Parts.{connections}
use Rattle.bs_verilog_syntax.specs.Modules.{declares, places, statement, item, together, items, top, is_endmodule, is_end, skipped, is_cell, is_module, begun, cells, leading, syntax_of}
use Rattle.bs_flat_meaning.specs.declared.statements.Written.{Written}
use Rattle.bs_flat_meaning.specs.Instancing.{one_instance, instancing}
use Rattle.bs_flat_meaning.proofs.NameLemmas.{all_append}
use Rattle.bs_flat_meaning.proofs.GivenLemmas.{Gives, gives_ok, gives_err, gives_on, gives_if, gives_any}
use Rattle.bs_flat_modules.specs.Texts.{HasFewParts, ReadingIsShort}
use Rattle.bs_flat_modules.proofs.ShortLemmas.{Any, none, one_each, total, total_ones, total_append, sum_below, length_below, weight, rest_left, name_taken}
use Rattle.bs_flat_modules.proofs.ShortLemmas as short

-- What is left has the property `S`, which each rest keeps; where a name is next, it has the property `N`.
module _ (S : Rest → Type 0) (step : (ts : Rest) → S ts → S (rest ts)) (N : Name → Type 0) (named : (ts : Rest) → S ts → is_name (sort ts) ≡ true → N (name ts)) where
  abbrev Left : ℕ → ℕ → Rest → Type 0
  Left k n ts = short.Left S step k n ts

  abbrev Within : {A : Type 0} → ℕ → (A → ℕ) → (A → Type 0) → A × Rest → Type 0
  Within n count Q x = short.Within S step n count Q x

  -- ---- declarations

  range_left : (ts : Rest) → S ts → Gives (Within (length ts) none Any) (range ts)
  unfolding range
  range_left ts h =
      let R = Within (length ts) none Any in
      gives_if R (is_at "[" ts) _ _
      (λ _.
      gives_on (Within (length (rest ts)) none Any) R (expect_digits (rest ts)) _ (short.digits_left S step (rest ts) (step ts h))
      (λ left l.
      gives_on (Left 0 (length left.1)) R (expect ":" due.Nothing left.1) _ (short.expect_left S step ":" due.Nothing left.1 l.1)
      (λ colon c.
      gives_on (Within (length colon) none Any) R (expect_digits colon) _ (short.digits_left S step colon c.1)
      (λ right r.
      gives_on (Left 0 (length right.1)) R (expect "]" due.Nothing right.1) _ (short.expect_left S step "]" due.Nothing right.1 r.1)
      (λ after a.
      gives_ok R (Some (record { at = at ts; left = left.0; right = right.0 }), after)
      (let k = rest_left ts in (omega (arith, k, l.0, c.0, r.0, a.0), a.1, tt)))))))
      (λ _. gives_ok R (None, ts) (omega arith, h, tt))

  port_says_left : (d : code.Direction) (ts : Rest) → S ts → Gives (Within (length ts) none Any) (port_says d ts)
  unfolding port_says
  port_says_left d ts h =
      let R = Within (length ts) none Any in
      gives_if R (is_some (after_direction (sort ts))) _ _ (λ _. gives_err R (refused due.AfterDirection ts))
      (λ _.
      gives_if R (is_wire (sort ts)) _ _
      (λ _.
      gives_on (Within (length (rest ts)) none Any) R (range (rest ts)) _ (range_left (rest ts) (step ts h))
      (λ r k.
      gives_ok R (record { direction = Some d; net = Some nets.Wire; range = r.0 }, r.1)
      (let l = rest_left ts in (omega (arith, l, k.0), k.1, tt))))
      (λ _.
      gives_on (Within (length ts) none Any) R (range ts) _ (range_left ts h)
      (λ r k. gives_ok R (record { direction = Some d; net = None; range = r.0 }, r.1) (k.0, k.1, tt))))

  net_says_left : (n : code_net.Net) (ts : Rest) → S ts → Gives (Within (length ts) none Any) (net_says n ts)
  unfolding net_says
  net_says_left n ts h =
      let R = Within (length ts) none Any in
      gives_on (Within (length ts) none Any) R (range ts) _ (range_left ts h)
      (λ r k. gives_ok R (record { direction = None; net = Some n; range = r.0 }, r.1) (k.0, k.1, tt))

  -- a declared name with the property
  abbrev pub OfDeclared : Declared → Type 0
  OfDeclared d = N d.name

  declared_left : (says : Says) (ts : Rest) → S ts → Gives (Within (length ts) one_each OfDeclared) (declared_name says ts)
  unfolding declared_name
  declared_left says ts h =
      let R = Within (length ts) one_each OfDeclared in
      gives_on (Within (length ts) one_each N) R (expect_name ts) _ (short.name_left S step N ts h (named ts h))
      (λ n k. gives_ok R (record { says = says; name = n.0 }, n.1) k)

  names_left : (says : Says) (ts : Rest) → S ts → Gives (Within (length ts) (total one_each) (AllByRecursion OfDeclared)) (names says ts)
  unfolding names
  names_left says ts h =
      short.closed_left S step one_each OfDeclared ";" due.AfterDeclared (length ts) (declared_name says) (declared_left says) ts (omega arith) h

  plain_port_left : (ts : Rest) → S ts → Gives (Within (length ts) one_each Any) (plain_port ts)
  unfolding plain_port
  plain_port_left ts h =
      let R = Within (length ts) one_each Any in
      gives_on (Left 0 (length ts)) R (attributes ts) _ (short.attributes_left S step (length ts) false ts (omega arith) h)
      (λ here k.
      short.within_more S step (length here) (length ts) one_each Any (expect_name here) (omega (arith, k.0))
      (short.name_left S step Any here k.1 (λ _. tt)))

  abbrev OfPort : HeaderPort → Type 0
  OfPort p = N p.name

  header_port_left : (ts : Rest) → S ts → Gives (Within (length ts) one_each OfPort) (header_port ts)
  unfolding header_port
  header_port_left ts s =
      gives_on (Left 0 (length ts)) (Within (length ts) one_each OfPort) (attributes ts) _ (short.attributes_left S step (length ts) false ts (omega arith) s)
      (λ here h. by here h (direction (sort here)))
    where
      by : (here : Rest) → Left 0 (length ts) here → (o : Option code.Direction)
          → Gives (Within (length ts) one_each OfPort)
          (elim o as (λ _. Read HeaderPort) [
            | Some d ↦ (do
              says ← port_says d (rest here)
              n ← expect_name says.1
              Ok (record { says = Some says.0; name = n.0 }, n.1))
            | None ↦
                if is_name (sort here) then Ok (record { says = None; name = name here }, rest here)
                else Err (refused due.Port here)
          ])
      by here h (Some d) =
          let R = Within (length ts) one_each OfPort in
          gives_on (Within (length (rest here)) none Any) R (port_says d (rest here)) _ (port_says_left d (rest here) (step here h.1))
          (λ says w.
          gives_on (Within (length says.1) one_each N) R (expect_name says.1) _ (short.name_left S step N says.1 w.1 (named says.1 w.1))
          (λ n k.
          gives_ok R (record { says = Some says.0; name = n.0 }, n.1) (let r = rest_left here in (omega (arith, h.0, r, w.0, k.0), k.1, k.2))))
      by here h None =
          let R = Within (length ts) one_each OfPort in
          gives_if R (is_name (sort here)) _ _
          (λ e.
          gives_ok R (record { says = None; name = name here }, rest here)
          (let t = name_taken here e in (omega (arith, h.0, t), step here h.1, named here h.1 e)))
          (λ _. gives_err R (refused due.Port here))

  carried_are : (before : Says) (ps : List HeaderPort) → AllByRecursion OfPort ps
      → (length (carried before ps) ≡ length ps) × AllByRecursion OfDeclared (carried before ps)
  unfolding carried
  carried_are before [] a = (refl, tt)
  carried_are before (p ∷ ps) a = let r = carried_are (unwrap_or p.says (passed_on before)) ps a.1 in (omega (arith, r.0), (a.0, r.1))

  -- the ports of a header are no more than the lexemes that they take, and declare no more names
  record PortsWithin (n : ℕ) (x : Ports × Rest) : Type 0 where
    header : length x.0.header + length x.1 ≤ n
    declared : length x.0.declared + length x.1 ≤ n
    left : S x.1
    names : AllByRecursion OfDeclared x.0.declared

  ports_left : (ts : Rest) → S ts → Gives (PortsWithin (length ts)) (ports ts)
  unfolding ports
  ports_left ts s =
      let R = PortsWithin (length ts) in
      let r = rest_left ts in
      gives_if R (is_at ")" ts) _ _
      (λ _.
      gives_ok R (record { header = []; declared = [] }, rest ts)
      (record { header = omega (arith, r); declared = omega (arith, r); left = step ts s; names = tt }))
      (λ _.
      gives_on (Left 0 (length ts)) R (attributes ts) _ (short.attributes_left S step (length ts) false ts (omega arith) s)
      (λ here h.
      gives_if R (is_name (sort here)) _ _
      (λ _.
      gives_on (Within (length ts) (total one_each) (AllByRecursion Any)) R (listed plain_port ts) _
      (short.listed_left S step one_each Any plain_port plain_port_left ts s)
      (λ listing l.
      gives_on (Left 0 (length listing.1)) R (expect ")" due.Nothing listing.1) _ (short.expect_left S step ")" due.Nothing listing.1 l.1)
      (λ after a.
      let e = total_ones listing.0 in
      gives_ok R (record { header = listing.0; declared = [] }, after)
      (record { header = omega (arith, l.0, a.0, e); declared = omega (arith, l.0, a.0); left = a.1; names = tt }))))
      (λ _.
      gives_on (Within (length ts) (total one_each) (AllByRecursion OfPort)) R (listed header_port ts) _
      (short.listed_left S step one_each OfPort header_port header_port_left ts s)
      (λ listing l.
      gives_on (Left 0 (length listing.1)) R (expect ")" due.AfterDeclared listing.1) _ (short.expect_left S step ")" due.AfterDeclared listing.1 l.1)
      (λ after a.
      let e = total_ones listing.0 in
      let m = length-map listing.0 (λ (p : HeaderPort). p.name) in
      let c = carried_are nothing_said listing.0 l.2 in
      gives_ok R (record { header = map (λ (p : HeaderPort). p.name) listing.0; declared = carried nothing_said listing.0 }, after)
      (record { header = omega (arith, l.0, a.0, e, m); declared = omega (arith, l.0, a.0, e, c.0); left = a.1; names = c.1 }))))))

  header_left : (ts : Rest) → S ts → Gives (PortsWithin (length ts)) (header ts)
  unfolding header
  header_left ts s =
      let R = PortsWithin (length ts) in
      gives_if R (is_at "(" ts) _ _
      (λ _.
      gives_on (PortsWithin (length (rest ts))) R (ports (rest ts)) _ (ports_left (rest ts) (step ts s))
      (λ listing l.
      gives_on (Left 0 (length listing.1)) R (expect ";" due.Nothing listing.1) _ (short.expect_left S step ";" due.Nothing listing.1 l.left)
      (λ after a.
      let r = rest_left ts in
      let h = l.header in
      let d = l.declared in
      gives_ok R (listing.0, after) (record { header = omega (arith, r, h, a.0); declared = omega (arith, r, d, a.0); left = a.1; names = l.names }))))
      (λ _.
      gives_on (Left 0 (length ts)) R (expect ";" due.AfterModule ts) _ (short.expect_left S step ";" due.AfterModule ts s)
      (λ after a.
      gives_ok R (record { header = []; declared = [] }, after)
      (record { header = omega (arith, a.0); declared = omega (arith, a.0); left = a.1; names = tt })))

  -- ---- items

  -- what an item adds counts its declared names and its parts
  abbrev added : Adds → ℕ
  added a = length a.declared + total weight a.parts

  abbrev OfAdds : Adds → Type 0
  OfAdds a = AllByRecursion OfDeclared a.declared

  declares_left : (n : ℕ) (ds : Read (List Declared)) → Gives (Within n (total one_each) (AllByRecursion OfDeclared)) ds
      → Gives (Within n added OfAdds) (declares ds)
  declares_left n ds g =
      gives_on (Within n (total one_each) (AllByRecursion OfDeclared)) (Within n added OfAdds) ds _ g
      (λ x k.
      gives_ok (Within n added OfAdds) (record { declared = x.0; parts = [] }, x.1) (let e = total_ones x.0 in (omega (arith, k.0, e), k.1, k.2)))

  places_left : (n m : ℕ) (ps : Read (List Component)) → m ≤ n → Gives (Within m (total weight) (AllByRecursion Any)) ps
      → Gives (Within n added OfAdds) (places ps)
  places_left n m ps le g =
      gives_on (Within m (total weight) (AllByRecursion Any)) (Within n added OfAdds) ps _ g
      (λ x k. gives_ok (Within n added OfAdds) (record { declared = []; parts = x.0 }, x.1) (omega (arith, le, k.0), k.1, tt))

  statement_left : (s : Sort) (ts : Rest) → S ts → Gives (Within (length ts) added OfAdds) (statement s ts)
  statement_left (sorts.Word words.Assign) ts h =
      places_left (length ts) (length (rest ts)) _ (rest_left ts) (short.assignments_left S step (rest ts) (step ts h))
  statement_left (sorts.Word (words.Gate kind)) ts h =
      places_left (length ts) (length (rest ts)) _ (rest_left ts) (short.gates_left S step kind (rest ts) (step ts h))
  statement_left (sorts.Name (Some cell)) ts h =
      places_left (length ts) (length (rest ts)) _ (rest_left ts) (short.cells_left S step cell (rest ts) (step ts h))
  statement_left _ ts h = gives_err (Within (length ts) added OfAdds) (refused due.Item ts)

  -- names of which something is said
  said_left : (n : ℕ) (r : Read Says) (ts : Rest) → length ts ≤ n → Gives (Within (length ts) none Any) r
      → Gives (Within n added OfAdds) (r >>= λ says. declares (names says.0 says.1))
  said_left n r ts le g =
      gives_on (Within (length ts) none Any) (Within n added OfAdds) r _ g
      (λ says k.
      declares_left n (names says.0 says.1)
      (short.within_more S step (length says.1) n (total one_each) (AllByRecursion OfDeclared) (names says.0 says.1) (omega (arith, le, k.0))
      (names_left says.0 says.1 k.1)))

  item_left : (ts : Rest) → S ts → Gives (Within (length ts) added OfAdds) (item ts)
  unfolding item
  item_left ts h = by (direction (sort ts))
    where
      net_by : (o : Option code_net.Net)
          → Gives (Within (length ts) added OfAdds)
          (elim o as (λ _. Read Adds) [
            | Some n ↦ net_says n (rest ts) >>= (λ says. declares (names says.0 says.1))
            | None ↦ statement (sort ts) ts
          ])
      net_by (Some n) = said_left (length ts) (net_says n (rest ts)) (rest ts) (rest_left ts) (net_says_left n (rest ts) (step ts h))
      net_by None = statement_left (sort ts) ts h

      by : (o : Option code.Direction)
          → Gives (Within (length ts) added OfAdds)
          (elim o as (λ _. Read Adds) [
            | Some d ↦ port_says d (rest ts) >>= (λ says. declares (names says.0 says.1))
            | None ↦
                elim (net (sort ts)) [
                  | Some n ↦ net_says n (rest ts) >>= (λ says. declares (names says.0 says.1))
                  | None ↦ statement (sort ts) ts
                ]
          ])
      by (Some d) = said_left (length ts) (port_says d (rest ts)) (rest ts) (rest_left ts) (port_says_left d (rest ts) (step ts h))
      by None = net_by (net (sort ts))

  items_left : (n : ℕ) (ts : Rest) → S ts → Gives (Within (length ts) added OfAdds) (items n ts)
  unfolding items
  items_left zero ts s = gives_err (Within (length ts) added OfAdds) (refused due.Nothing ts)
  items_left (suc n) ts s =
      let R = Within (length ts) added OfAdds in
      gives_if R (is_endmodule (sort ts)) _ _
      (λ _. gives_ok R (record { declared = []; parts = [] }, rest ts) (let r = rest_left ts in (omega (arith, r), step ts s, tt)))
      (λ _.
      gives_on (Left 0 (length ts)) R (attributes ts) _ (short.attributes_left S step (length ts) false ts (omega arith) s)
      (λ here h.
      gives_on (Within (length here) added OfAdds) R (item here) _ (item_left here h.1)
      (λ first f.
      gives_on (Within (length first.1) added OfAdds) R (items n first.1) _ (items_left n first.1 f.1)
      (λ others o.
      let d = length-append first.0.declared others.0.declared in
      let p = total_append weight first.0.parts others.0.parts in
      gives_ok R (together first.0 others.0, others.1)
      (omega (arith, h.0, f.0, o.0, d, p), o.1, all_append OfDeclared first.0.declared others.0.declared f.2 o.2)))))

  -- ---- modules

  -- the parts with their connections, the header and the declared names of a module
  pub record ModuleWithin (n : ℕ) (m : Module) : Type 0 where
    pub parts : total weight m.parts ≤ n
    pub header : length m.header ≤ n
    pub declared : length m.declared ≤ n
    pub names : AllByRecursion OfDeclared m.declared

  top_left : (n : ℕ) (ts : Rest) → length ts ≤ n → S ts → Gives (λ (x : Module × Rest). ModuleWithin n x.0) (top ts)
  unfolding top
  top_left most ts le s =
      let R : Module × Rest → Type 0 = λ x. ModuleWithin most x.0 in
      gives_on (Within (length ts) one_each Any) R (expect_name ts) _ (short.name_left S step Any ts s (λ _. tt))
      (λ n k.
      gives_on (PortsWithin (length n.1)) R (header n.1) _ (header_left n.1 k.1)
      (λ head h.
      gives_on (Within (length head.1) added OfAdds) R (items (length head.1 + 1) head.1) _ (items_left (length head.1 + 1) head.1 h.left)
      (λ body b.
      let hh = h.header in
      let hd = h.declared in
      let d = length-append head.0.declared body.0.declared in
      gives_ok R (record { header = head.0.header; declared = head.0.declared ++ body.0.declared; parts = body.0.parts }, body.1)
      (record {
        parts = omega (arith, le, k.0, hh, b.0);
        header = omega (arith, le, k.0, hh);
        declared = omega (arith, le, k.0, hd, b.0, d);
        names = all_append OfDeclared head.0.declared body.0.declared h.names b.2;
      }))))

  skipped_left : (n : ℕ) (ts : Rest) → length ts ≤ n → S ts → Gives (Left 0 n) (skipped ts)
  unfolding skipped
  skipped_left n [] le s = gives_ok (Left 0 n) [] (omega (arith, le), s)
  skipped_left n (t ∷ ts) le s =
      gives_if (Left 0 n) (is_endmodule t.sort) _ _ (λ _. gives_ok (Left 0 n) ts (omega (arith, le), step (t ∷ ts) s))
      (λ _.
      gives_if (Left 0 n) (is_end t.sort) _ _ (λ _. gives_err (Left 0 n) (Syntax t.at))
      (λ _. skipped_left n ts (omega (arith, le)) (step (t ∷ ts) s)))

  begun_left : (n : ℕ) (ts : Rest) → length ts ≤ n → S ts → Gives (Left 0 n) (begun ts)
  unfolding begun
  begun_left n ts le s =
      gives_on (Left 0 n) (Left 0 n) (attributes ts) _ (short.attributes_left S step n false ts le s)
      (λ here h.
      gives_if (Left 0 n) (is_module (sort here)) _ _
      (λ _. gives_ok (Left 0 n) (rest here) (let r = rest_left here in (omega (arith, h.0, r), step here h.1)))
      (λ _. gives_err (Left 0 n) (refused due.Module here)))

  leading_left : (k n : ℕ) (ts : Rest) → length ts ≤ n → S ts → Gives (Left 0 n) (leading k ts)
  unfolding leading
  leading_left zero n ts le s = gives_err (Left 0 n) (refused due.Nothing ts)
  leading_left (suc k) n ts le s =
      gives_on (Left 0 n) (Left 0 n) (begun ts) _ (begun_left n ts le s)
      (λ inside i.
      gives_if (Left 0 n) (is_cell (sort inside)) _ _
      (λ _.
      gives_on (Left 0 n) (Left 0 n) (skipped inside) (leading k) (skipped_left n inside (omega (arith, i.0)) i.1)
      (λ after a. leading_left k n after (omega (arith, a.0)) a.1))
      (λ _. gives_ok (Left 0 n) inside i))

  pub module_within : (ts : Rest) → S ts → Gives (ModuleWithin (length ts)) (syntax_of ts)
  unfolding syntax_of
  module_within ts s =
      let R = ModuleWithin (length ts) in
      gives_on (Left 0 (length ts)) R (leading (length ts + 1) ts) _ (leading_left (length ts + 1) (length ts) ts (omega arith) s)
      (λ inside i.
      gives_on (λ (x : Module × Rest). R x.0) R (top inside) _ (top_left (length ts) inside (omega (arith, i.0)) i.1)
      (λ m k.
      gives_on Any R (cells (length m.1 + 1) m.1) _ (gives_any (cells (length m.1 + 1) m.1))
      (λ after a. gives_ok R m.0 k)))

-- ---- any lexemes

abbrev Plain : Rest → Type 0
Plain ts = Unit {0}

still : (ts : Rest) → Plain ts → Plain (rest ts)
still ts h = tt

pub module_short : (ts : Rest) (m : Module) → syntax_of ts ≡ Ok m → HasFewParts ts m
module_short ts m e =
    let w = (module_within Plain still Any (λ us u is. tt) ts tt).is m e in
    let sum = sum_below (λ (p : Component). length p.connections) weight (λ p. omega arith) m.parts in
    let many = length_below weight (λ p. omega arith) m.parts in
    let p = w.parts in
    record { connections = omega (arith, sum, p); parts = omega (arith, many, p); header = w.header; declared = w.declared }

-- ---- instances

-- an instance counts one, and its connections
abbrev written : Written → ℕ
written w = suc (length w.connections)

abbrev ReadsWithin : {A : Type 0} → ℕ → (A → ℕ) → (A → Type 0) → A × Rest → Type 0
ReadsWithin n count Q x = short.Within Plain still n count Q x

one_left : (of : Name) (ts : Rest) → Gives (ReadsWithin (length ts) written Any) (one_instance of ts)
unfolding one_instance
one_left of ts =
    let R = ReadsWithin (length ts) written Any in
    gives_on (ReadsWithin (length ts) one_each Any) R (expect_name ts) _ (short.name_left Plain still Any ts tt (λ _. tt))
    (λ n k.
    gives_on (short.Left Plain still 0 (length n.1)) R (expect "(" due.AfterInstance n.1) _ (short.expect_left Plain still "(" due.AfterInstance n.1 tt)
    (λ inside i.
    gives_on (ReadsWithin (length inside) length Any) R (connections inside) _ (short.connections_left Plain still inside tt)
    (λ all c. gives_ok R (record { of = of; name = n.0; connections = all.0 }, all.1) (omega (arith, k.0, i.0, c.0), tt, tt))))

instancing_left : (ts : Rest) → Gives (ReadsWithin (length ts) (total written) (AllByRecursion Any)) (instancing ts)
unfolding instancing
instancing_left ts =
    let R = ReadsWithin (length ts) (total written) (AllByRecursion Any) in
    gives_if R (is_at "#" (rest ts)) _ _ (λ _. gives_err R (Unsupported (at (rest ts)) what.Parameter))
    (λ _.
    short.closed_left Plain still written Any ";" due.Nothing (length ts) (one_instance (name ts)) (λ us u. one_left (name ts) us) (rest ts) (rest_left ts)
    tt)

instances_short : (ts after : Rest) (ws : List Written) → instancing ts ≡ Ok (ws, after)
    → (length ws ≤ length ts) × (sum_by (λ (w : Written). length w.connections) ws ≤ length ts)
instances_short ts after ws e =
    let k = ((instancing_left ts).is (ws, after) e).0 in
    let m = length_below written (λ w. omega arith) ws in
    let s = sum_below (λ (w : Written). length w.connections) written (λ w. omega arith) ws in
    (omega (arith, k, m), omega (arith, k, s))

pub reading_is_short : ReadingIsShort
reading_is_short ts = record { whole = module_short ts; instances = λ ws after e. instances_short ts after ws e }
