-- Attributes, terms and delays that are in the grammar are read.
use Rattle.std.proofs.Common.{◌≡◌, ℕ, Bool, true, false, List, [], ◌∷◌, Option, Some, None, Result, Ok, Err, refl}
use Rattle.std.proofs.Common.{ap, ◌∙◌, arith}
use Rattle.std.specs.Prelude.{option_map, if◌then◌else◌}
use Rattle.bs_bits.specs.Reading.{◌>>=◌}
use Rattle.bs_lex.specs.declared.lexeme.Sort.{Sort}
use Rattle.bs_lex.specs.declared.lexeme.Sort.TheVariants as sorts
use Rattle.bs_verilog_syntax.specs.declared.fault.VerilogFault.{VerilogFault}
use Rattle.bs_verilog_syntax.specs.declared.fault.VerilogFault.TheVariants.{Syntax}
use Rattle.bs_verilog_syntax.specs.declared.reading.AttributeStep.TheVariants.{On, Over, Unclosed}
use Rattle.bs_verilog_syntax.specs.declared.tree.Term.TheVariants.{Constant, Named}
use Rattle.bs_lex.specs.declared.lexeme.Cell.{Cell}
use Rattle.bs_lex.specs.Lexemes.{is_name}
use Rattle.bs_verilog_syntax.specs.declared.reading.Due.TheVariants as due
use Rattle.bs_verilog_syntax.specs.Reading.{Rest, sort, rest, at, is_at, bit, refused, expect, expect_digits, listed}
use Rattle.bs_verilog_syntax.specs.Reading as reading
use Rattle.bs_verilog_syntax.specs.Terms.{index, term, num, time, timed, delay, attribute_step, attributes_from, attributes}
use Rattle.bs_verilog.specs.Symbols.{Symbol, Text, opens, closes, mark}
use Rattle.bs_verilog.specs.Symbols as symbols
use Rattle.bs_verilog.specs.Written.{Term, named}
use Rattle.bs_verilog.specs.Productions.{left_square, right_square, begins_with}
use Rattle.bs_verilog.specs.Productions.{is_inside, IsInside, closed, on, AreAttributes, no_more, one_more, IsTerm, scalar, indexed, one_bit}
use Rattle.bs_verilog.specs.Productions.{IsNum, whole, fraction, IsTime, single, triple, IsTimed, IsDelay, undelayed, by_time, by_times}
use Rattle.bs_verilog.specs.Views.{number_view, term_view}
use Rattle.bs_verilog.proofs.Shown.{seen_as, shown}
use Rattle.bs_verilog.proofs.TermsSound.{IsIndex, unindexed, at_index}
use Rattle.bs_verilog.proofs.Extends.{time_extends}
use Rattle.bs_verilog.proofs.Next.{Reads, Skips, then_is, true_is, false_is, tested, mark_next, bit_next, name_next, mark_read, number_read, listed_complete}

-- an attribute opens here
abbrev pub opens_here : Text → Bool
opens_here (opens ∷ us) = true
opens_here _ = false

module _ (table : List (List ℕ)) where
  inside_complete : (ts : Rest) (from next : Text) → IsInside from next → shown table ts ≡ from
      → (left : Rest) × ((attributes_from true ts ≡ attributes_from false left) × (shown table left ≡ next))
  unfolding attributes_from
  inside_complete [] from next closed e = absurd cc
  inside_complete [] from next (on i h) e = absurd cc
  inside_complete (t ∷ ts) from next closed e = by t.sort e
    where
      by : (s : Sort) → seen_as table s t.name ∷ shown table ts ≡ closes ∷ next
          → (left : Rest) × ((◌≡◌ {A = Result Rest VerilogFault}
          (elim (attribute_step true s) [ On next_open ↦ attributes_from next_open ts | Over ↦ Ok (t ∷ ts) | Unclosed ↦ Err (Syntax t.at) ])
          (attributes_from false left)) × (shown table left ≡ next))
      by sorts.AttrClose e = let left : shown table ts ≡ next = cc in (ts, (refl, left))
      by _ e = absurd cc
  inside_complete (t ∷ ts) from next (on {s = x} {from = inner} i h) e = by t.sort e (λ left. inside_complete ts inner next h left)
    where
      by : (s : Sort) → seen_as table s t.name ∷ shown table ts ≡ x ∷ inner
          → (shown table ts ≡ inner → (left : Rest) × ((attributes_from true ts ≡ attributes_from false left) × (shown table left ≡ next)))
          → (left : Rest) × ((◌≡◌ {A = Result Rest VerilogFault}
          (elim (attribute_step true s) [ On next_open ↦ attributes_from next_open ts | Over ↦ Ok (t ∷ ts) | Unclosed ↦ Err (Syntax t.at) ])
          (attributes_from false left)) × (shown table left ≡ next))
      by sorts.AttrClose e r =
          let same : closes ≡ x = cc in
          let other : is_inside closes ≡ true = ap is_inside same ∙ i in
          absurd cc
      by sorts.End e r =
          let same : symbols.finish ≡ x = cc in
          let other : is_inside symbols.finish ≡ true = ap is_inside same ∙ i in
          absurd cc
      by _ e r = let left : shown table ts ≡ inner = cc in r left

  over_here : (ts : Rest) (to : Text) → shown table ts ≡ to → opens_here to ≡ false → attributes_from false ts ≡ Ok ts
  unfolding attributes_from
  over_here [] to e f = refl
  over_here (t ∷ ts) to e f = by t.sort (ap opens_here e ∙ f)
    where
      by : (s : Sort) → opens_here (seen_as table s t.name ∷ shown table ts) ≡ false
          → ◌≡◌ {A = Result Rest VerilogFault} (elim
          (attribute_step false s) [ On next_open ↦ attributes_from next_open ts | Over ↦ Ok (t ∷ ts) | Unclosed ↦ Err (Syntax t.at) ]) (Ok (t ∷ ts))
      by sorts.AttrOpen f = absurd cc
      by _ f = refl

  opened_here : (ts : Rest) (us : Text) → shown table ts ≡ opens ∷ us →
      (attributes_from false ts ≡ attributes_from true (rest ts)) × (shown table (rest ts) ≡ us)
  unfolding attributes_from
  opened_here [] us e = absurd cc
  opened_here (t ∷ ts) us e = by t.sort e
    where
      by : (s : Sort) → seen_as table s t.name ∷ shown table ts ≡ opens ∷ us
          → (◌≡◌ {A = Result Rest VerilogFault} (elim
          (attribute_step false s) [ On next_open ↦ attributes_from next_open ts | Over ↦ Ok (t ∷ ts) | Unclosed ↦ Err (Syntax t.at) ])
          (attributes_from true ts)) × (shown table ts ≡ us)
      by sorts.AttrOpen e = let left : shown table ts ≡ us = cc in (refl, left)
      by _ e = absurd cc

  pub attributes_complete : (ts : Rest) (from to : Text) → AreAttributes from to → shown table ts ≡ from → opens_here to ≡ false →
      Skips table (attributes ts) to
  attributes_complete ts from to no_more e f = record { left = ts; is = over_here ts to e f; shows = e }
  attributes_complete ts from to (one_more {from = inner} {next = next} i h) e f =
      let o = opened_here ts inner e in
      let c = inside_complete (rest ts) inner next i o.1 in
      let others = attributes_complete c.0 next to h (c.1.1) f in
      record { left = others.left; is = o.0 ∙ (c.1.0 ∙ others.is); shows = others.shows }

  -- ---- terms and delays

  index_complete : (ts : Rest) (from to : Text) (i : Option ℕ) → IsIndex from to i → shown table ts ≡ from → begins_with 91 to ≡ false
      → Reads table (index ts) (option_map (number_view table)) to i
  unfolding index
  index_complete ts from to i unindexed e f =
      record {
        value = None;
        left = ts;
        is = false_is (is_at "[" ts) _ _ _ (tested table 91 (omega arith) ts to false e f) refl;
        shows = e;
        says = refl;
      }
  index_complete ts from to i at_index e f =
      let m = mark_next table 91 ts _ e in
      let n = number_read table _ (rest ts) _ m.1 in
      let p = mark_read table 93 (omega arith) due.AfterIndex (rest (rest ts)) _ (n.1.1.1) in
      record {
        value = Some n.0;
        left = rest (rest (rest ts));
        is = true_is (is_at "[" ts) _ _ _ (tested table 91 (omega arith) ts _ true e refl)
            (then_is (expect_digits (rest ts)) _ (n.0, rest (rest ts)) _ (n.1.0)
            (then_is (expect "]" due.AfterIndex (rest (rest ts))) _ (rest (rest (rest ts))) _ p.0 refl));
        shows = p.1;
        says = ap (λ x. Some x) (n.1.1.0);
      }

  named_term : (ts : Rest) (cell : Option Cell) → sort ts ≡ sorts.Name cell
      → term ts ≡ (index (rest ts) >>= λ i. Ok (Named (reading.name ts) i.0, i.1))
  unfolding term
  named_term ts cell e =
      ap (λ s. elim (bit s) [
        | Some b ↦ Ok (Constant (at ts) b, rest ts)
        | None ↦ if is_name s then (index (rest ts) >>= λ i. Ok (Named (reading.name ts) i.0, i.1)) else Err (refused due.Term ts)
      ]) e

  bit_term : (ts : Rest) (b : Bool) → sort ts ≡ sorts.Bit b → term ts ≡ Ok (Constant (at ts) b, rest ts)
  unfolding term
  bit_term ts b e =
      ap (λ s. elim (bit s) [
        | Some b ↦ Ok (Constant (at ts) b, rest ts)
        | None ↦ if is_name s then (index (rest ts) >>= λ i. Ok (Named (reading.name ts) i.0, i.1)) else Err (refused due.Term ts)
      ]) e

  name_term : (ts : Rest) (cell : Option Cell) (n : List ℕ) (from to : Text) (k : Option ℕ) → shown table ts ≡ symbols.name cell n ∷ from → IsIndex from to k
      → begins_with 91 to ≡ false → Reads table (term ts) (term_view table) to (named n k)
  name_term ts cell n from to k e index_is f =
      let x = name_next table cell n ts from e in
      let i = index_complete (rest ts) from to k index_is (x.1.1) f in
      record {
        value = Named (reading.name ts) i.value;
        left = i.left;
        is = named_term ts cell x.0 ∙ then_is (index (rest ts)) _ (i.value, i.left) _ i.is refl;
        shows = i.shows;
        says = ap (λ m. named m (option_map (number_view table) i.value)) (x.1.0) ∙ ap (λ j. named n j) i.says;
      }

  pub term_complete : (ts : Rest) (from to : Text) (t : Term) → IsTerm from to t → shown table ts ≡ from → begins_with 91 to ≡ false
      → Reads table (term ts) (term_view table) to t
  term_complete ts from to t (scalar {cell} {n}) e f = name_term ts cell n to to None e unindexed f
  term_complete ts from to t (indexed {cell} {n} {i = k}) e f =
      name_term ts cell n (left_square ∷ symbols.digits k ∷ right_square ∷ to) to (Some k) e at_index f
  term_complete ts from to t (one_bit {b}) e f =
      let n = bit_next table b ts to e in
      record { value = Constant (at ts) b; left = rest ts; is = bit_term ts b n.0; shows = n.1; says = refl }

  num_complete : (ts : Rest) (from to : Text) → IsNum from to → shown table ts ≡ from → begins_with 46 to ≡ false → Skips table (num ts) to
  unfolding num
  num_complete ts from to whole e f =
      let n = number_read table _ ts _ e in
      record {
        left = rest ts;
        is = then_is (expect_digits ts) _ (n.0, rest ts) _ (n.1.0)
            (false_is (is_at "." (rest ts)) _ _ _ (tested table 46 (omega arith) (rest ts) to false (n.1.1.1) f) refl);
        shows = n.1.1.1;
      }
  num_complete ts from to fraction e f =
      let n = number_read table _ ts _ e in
      let d = mark_next table 46 (rest ts) _ (n.1.1.1) in
      let k = number_read table _ (rest (rest ts)) _ d.1 in
      record {
        left = rest (rest (rest ts));
        is = then_is (expect_digits ts) _ (n.0, rest ts) _ (n.1.0)
            (true_is (is_at "." (rest ts)) _ _ _ (tested table 46 (omega arith) (rest ts) _ true (n.1.1.1) refl)
            (then_is (expect_digits (rest (rest ts))) _ (k.0, rest (rest (rest ts))) _ (k.1.0) refl));
        shows = k.1.1.1;
      }

  -- neither a fraction nor a further time
  pub record IsUntimed (to : Text) : Type 0 where
    pub fraction : begins_with 46 to ≡ false
    pub colon : begins_with 58 to ≡ false

  time_complete : (ts : Rest) (from to : Text) → IsTime from to → shown table ts ≡ from → IsUntimed to → Skips table (time ts) to
  unfolding time
  time_complete ts from to (single n) e f =
      let a = num_complete ts from to n e f.fraction in
      record {
        left = a.left;
        is = then_is (num ts) _ a.left _ a.is (false_is (is_at ":" a.left) _ _ _ (tested table 58 (omega arith) a.left to false a.shows f.colon) refl);
        shows = a.shows;
      }
  time_complete ts from to (triple {typical = typical} {greatest = greatest} n m k) e f =
      let a = num_complete ts from (mark 58 ∷ typical) n e refl in
      let c = mark_next table 58 a.left typical a.shows in
      let b = num_complete (rest a.left) typical (mark 58 ∷ greatest) m c.1 refl in
      let d = mark_read table 58 (omega arith) due.Nothing b.left greatest b.shows in
      let last_one = num_complete (rest b.left) greatest to k d.1 f.fraction in
      record {
        left = last_one.left;
        is = then_is (num ts) _ a.left _ a.is (true_is (is_at ":" a.left) _ _ _ (tested table 58 (omega arith) a.left _ true a.shows refl)
            (then_is (num (rest a.left)) _ b.left _ b.is (then_is (expect ":" due.Nothing b.left) _ (rest b.left) _ d.0 last_one.is)));
        shows = last_one.shows;
      }

  one_unit : (b : Unit {0}) → tt ≡ b
  one_unit b = refl

  timed_complete : (ts : Rest) (from to : Text) (b : Unit {0}) → IsTimed from to b → shown table ts ≡ from → IsUntimed to
      → Reads table (timed ts) (λ (c : Bool). tt) to b
  unfolding timed
  timed_complete ts from to b t e f =
      let a = time_complete ts from to t e f in
      record { value = true; left = a.left; is = then_is (time ts) _ a.left _ a.is refl; shows = a.shows; says = one_unit b }

  time_begins : (from to : Text) → IsTime from to → begins_with 40 from ≡ false
  time_begins from to (single whole) = refl
  time_begins from to (single fraction) = refl
  time_begins from to (triple whole m k) = refl
  time_begins from to (triple fraction m k) = refl

  -- what may follow a delay: neither a delay, nor what would go on with one
  pub record IsUndelayed (to : Text) : Type 0 where
    pub sharp : begins_with 35 to ≡ false
    pub time : IsUntimed to

  pub delay_complete : (ts : Rest) (from to : Text) → IsDelay from to → shown table ts ≡ from → IsUndelayed to → Skips table (delay ts) to
  unfolding delay
  delay_complete ts from to undelayed e f =
      record { left = ts; is = false_is (is_at "#" ts) _ _ _ (tested table 35 (omega arith) ts to false e f.sharp) refl; shows = e }
  delay_complete ts from to (by_time {from = inner} t) e f =
      let m = mark_next table 35 ts inner e in
      let a = time_complete (rest ts) inner to t m.1 f.time in
      record {
        left = a.left;
        is = true_is (is_at "#" ts) _ _ _ (tested table 35 (omega arith) ts _ true e refl)
            (false_is (is_at "(" (rest ts)) _ _ _ (tested table 40 (omega arith) (rest ts) inner false m.1 (time_begins inner to t)) a.is);
        shows = a.shows;
      }
  delay_complete ts from to (by_times {from = inner} {times = times} l) e f =
      let m = mark_next table 35 ts _ e in
      let o = mark_next table 40 (rest ts) inner m.1 in
      let a =
      listed_complete table timed IsTimed (λ (c : Bool). tt) IsUntimed (λ u. record { fraction = refl; colon = refl }) time_extends timed_complete
      (rest (rest ts)) inner (mark 41 ∷ to) times l o.1 (record { fraction = refl; colon = refl }) refl in
      let c = mark_read table 41 (omega arith) due.Nothing a.left to a.shows in
      record {
        left = rest a.left;
        is = true_is (is_at "#" ts) _ _ _ (tested table 35 (omega arith) ts _ true e refl)
            (true_is (is_at "(" (rest ts)) _ _ _ (tested table 40 (omega arith) (rest ts) _ true m.1 refl)
            (then_is (listed timed (rest (rest ts))) _ (a.value, a.left) _ a.is c.0));
        shows = c.1;
      }
