-- What lists, attributes, terms and delays are read from is in the grammar.
use Rattle.std.proofs.Common.{◌≡◌, ℕ, zero, suc, ◌<◌, Bool, true, false, List, [], ◌∷◌, length, map, Option, Some, None, Result, Ok, Err, refl}
use Rattle.std.proofs.Common.{arith, subst}
use Rattle.std.specs.Prelude.{option_map, if◌then◌else◌}
use Rattle.bs_bits.specs.Reading.{◌>>=◌}
use Rattle.bs_lex.specs.declared.lexeme.Cell.{Cell}
use Rattle.bs_lex.specs.declared.lexeme.Sort.{Sort}
use Rattle.bs_lex.specs.declared.lexeme.Sort.TheVariants as sorts
use Rattle.bs_lex.specs.Lexemes.{is_name}
use Rattle.bs_verilog_syntax.specs.declared.fault.VerilogFault.{VerilogFault}
use Rattle.bs_verilog_syntax.specs.declared.fault.VerilogFault.TheVariants.{Syntax}
use Rattle.bs_verilog_syntax.specs.declared.reading.Due.TheVariants as due
use Rattle.bs_verilog_syntax.specs.declared.reading.AttributeStep.TheVariants.{On, Over, Unclosed}
use Rattle.bs_verilog_syntax.specs.declared.tree.Term as code
use Rattle.bs_verilog_syntax.specs.declared.tree.Term.TheVariants.{Constant, Named}
use Rattle.bs_verilog_syntax.specs.Reading.{Rest, Read, Skip, sort, rest, is_at, bit, refused, expect, expect_digits, with_commas, listed}
use Rattle.bs_verilog_syntax.specs.Reading as reading
use Rattle.bs_verilog_syntax.specs.Terms.{index, term, num, time, timed, delay, attribute_step, attributes_from, attributes}
use Rattle.bs_verilog.specs.Symbols.{Text}
use Rattle.bs_verilog.specs.Symbols as symbols
use Rattle.bs_verilog.specs.Written.{named}
use Rattle.bs_verilog.specs.Productions.{left_square, right_square, IsListed, last, more, IsInside}
use Rattle.bs_verilog.specs.Productions.{closed, on, AreAttributes, no_more, one_more, IsTerm, scalar, indexed, one_bit, IsNum, whole, fraction}
use Rattle.bs_verilog.specs.Productions.{IsTime, single, triple, IsTimed, IsDelay, undelayed, by_time, by_times}
use Rattle.bs_verilog.specs.Views.{number_view, term_view}
use Rattle.bs_verilog.proofs.Sound.{Sound, value, fault, and_then, if_so, weaker}
use Rattle.bs_verilog.proofs.Shown.{seen_as, shown, mark_shown, marked, a_number}

-- ---- lists

module _ (table : List (List ℕ)) {A B : Type 0} (one : Rest → Read A) (P : Text → Text → B → Type 0) (view : A → B)
    (member : (ts : Rest) → Sound (one ts) (λ y. P (shown table ts) (shown table y.1) (view y.0))) where
  commas_sound : (n : ℕ) (ts : Rest) → Sound (with_commas one n ts) (λ y. IsListed P (shown table ts) (shown table y.1) (map view y.0))
  unfolding with_commas
  commas_sound zero ts = fault (refused due.Nothing ts) _
  commas_sound (suc n) ts =
      and_then (one ts) _ _ _ (member ts) (λ x p.
      if_so (is_at "," x.1) _ _ _
      (λ here. and_then (with_commas one n (rest x.1)) _ _ _ (commas_sound n (rest x.1)) (λ others l.
      value (x.0 ∷ others.0, others.1) _ (more (subst (λ u. P (shown table ts) u (view x.0)) (mark_shown table 44 x.1 (omega arith) here) p) l)))
      (λ e. value (x.0 ∷ [], x.1) _ (last p)))

  pub listed_sound : (ts : Rest) → Sound (listed one ts) (λ y. IsListed P (shown table ts) (shown table y.1) (map view y.0))
  listed_sound ts = commas_sound (suc (length ts)) ts

-- the first member of a list
abbrev pub HasFirst : {A : Type 0} → (A → Type 0) → List A → Type 0
HasFirst Q [] = ⊥
HasFirst Q (x ∷ xs) = Q x

pub first_sound : {A : Type 0} (one : Rest → Read A) (Q : A → Type 0) (ts : Rest) → Sound (one ts) (λ y. Q y.0)
    → Sound (listed one ts) (λ y. HasFirst Q y.0)
unfolding with_commas
first_sound one Q ts h =
    and_then (one ts) _ _ _ h (λ x q.
    if_so (is_at "," x.1) _ _ _
    (λ here. and_then (with_commas one (length ts) (rest x.1)) _ (λ y. Unit {0}) _ (weakest (with_commas one (length ts) (rest x.1)))
    (λ others l. value (x.0 ∷ others.0, others.1) _ q))
    (λ e. value (x.0 ∷ [], x.1) _ q))
  where
    weakest : {A F : Type 0} (r : Result A F) → Sound r (λ y. Unit {0})
    weakest (Ok x) = value x _ tt
    weakest (Err e) = fault e _

-- ---- attributes

-- what attributes are read from, of which one may be open
abbrev pub AreGoing : Bool → Text → Text → Type 0
AreGoing false from to = AreAttributes from to
AreGoing true from to = (next : Text) × (IsInside from next) × (AreAttributes next to)

module _ (table : List (List ℕ)) where
  going_sound : (inside : Bool) (ts : Rest) → Sound (attributes_from inside ts) (λ left. 0 < length left → AreGoing inside (shown table ts) (shown table left))
  unfolding attributes_from
  going_sound inside [] = value [] _ (λ some. absurd (omega (arith, some)))
  going_sound inside (t ∷ ts) = by inside t.sort refl (going_sound true ts) (going_sound false ts)
    where
      by : (inside : Bool) (s : Sort) → t.sort ≡ s →
          Sound (attributes_from true ts) (λ left. 0 < length left → AreGoing true (shown table ts) (shown table left))
          → Sound (attributes_from false ts) (λ left. 0 < length left → AreGoing false (shown table ts) (shown table left))
          → Sound {A = Rest} {F = VerilogFault} (elim
          (attribute_step inside s) [ On next ↦ attributes_from next ts | Over ↦ Ok (t ∷ ts) | Unclosed ↦ Err (Syntax t.at) ])
          (λ left. 0 < length left → AreGoing inside (seen_as table s t.name ∷ shown table ts) (shown table left))
      by true sorts.AttrClose is o c = weaker (attributes_from false ts) _ _ c (λ left h some. (shown table ts, closed, h some))
      by true sorts.End is o c = fault (Syntax t.at) _
      by true _ is o c =
          weaker (attributes_from true ts) _ _ o (λ left h some. ((h some).0, on refl (h some).1, (h some).2))
      by false sorts.AttrOpen is o c = weaker (attributes_from true ts) _ _ o (λ left h some. one_more (h some).1 (h some).2)
      by false s is o c =
          record { is = λ some. subst (λ (x : Sort). AreAttributes (seen_as table x t.name ∷ shown table ts) (shown table (t ∷ ts))) is no_more }

  pub attributes_sound : (ts : Rest) → Sound (attributes ts) (λ left. 0 < length left → AreAttributes (shown table ts) (shown table left))
  attributes_sound ts = going_sound false ts

-- ---- terms and delays

-- what an index is read from
pub data IsIndex : Text → Text → Option ℕ → Type 0 where
  unindexed : {to : Text} → IsIndex to to None
  at_index : {i : ℕ} {to : Text} → IsIndex (left_square ∷ symbols.digits i ∷ right_square ∷ to) to (Some i)

pub with_index : {cell : Option Cell} {n : List ℕ} {from to : Text} {i : Option ℕ} → IsIndex from to i → IsTerm (symbols.name cell n ∷ from) to (named n i)
with_index unindexed = scalar
with_index at_index = indexed

module _ (table : List (List ℕ)) where
  index_sound : (ts : Rest) → Sound (index ts) (λ y. IsIndex (shown table ts) (shown table y.1) (option_map (number_view table) y.0))
  unfolding index
  index_sound ts =
      if_so (is_at "[" ts) _ _ _
      (λ here. and_then (expect_digits (rest ts)) _ _ _ (a_number table (rest ts)) (λ n d.
      and_then (expect "]" due.AfterIndex n.1) _ _ _ (marked table 93 due.AfterIndex n.1 (omega arith)) (λ after m.
      value (Some n.0, after) _ (rw (mark_shown table 91 ts (omega arith) here, d, m) at_index))))
      (λ e. value (None, ts) _ unindexed)

  pub term_sound : (ts : Rest) → Sound (term ts) (λ y. IsTerm (shown table ts) (shown table y.1) (term_view table y.0))
  unfolding term
  term_sound [] = fault (refused due.Term []) _
  term_sound (t ∷ ts) = by t.sort
    where
      by : (s : Sort)
          → Sound {A = code.Term × Rest} {F = VerilogFault} (elim (bit s) [
            | Some b ↦ Ok (Constant t.at b, ts)
            | None ↦ if is_name s then (index ts >>= λ i. Ok (Named (reading.name (t ∷ ts)) i.0, i.1)) else Err (refused due.Term (t ∷ ts))
          ]) (λ y. IsTerm (seen_as table s t.name ∷ shown table ts) (shown table y.1) (term_view table y.0))
      by (sorts.Bit b) = value (Constant t.at b, ts) _ one_bit
      by (sorts.Name cell) = and_then (index ts) _ _ _ (index_sound ts) (λ i h. value (Named (reading.name (t ∷ ts)) i.0, i.1) _ (with_index h))
      by _ = fault (refused due.Term (t ∷ ts)) _

  num_sound : (ts : Rest) → Sound (num ts) (λ left. IsNum (shown table ts) (shown table left))
  unfolding num
  num_sound ts =
      and_then (expect_digits ts) _ _ _ (a_number table ts) (λ w d.
      if_so (is_at "." w.1) _ _ _
      (λ here. and_then (expect_digits (rest w.1)) _ _ _ (a_number table (rest w.1)) (λ p q.
      value p.1 _ (rw (d, mark_shown table 46 w.1 (omega arith) here, q) fraction)))
      (λ e. value w.1 _ (rw d whole)))

  time_sound : (ts : Rest) → Sound (time ts) (λ left. IsTime (shown table ts) (shown table left))
  unfolding time
  time_sound ts =
      and_then (num ts) _ _ _ (num_sound ts) (λ low n.
      if_so (is_at ":" low) _ _ _
      (λ here. and_then (num (rest low)) _ _ _ (num_sound (rest low)) (λ typical m.
      and_then (expect ":" due.Nothing typical) _ _ _ (marked table 58 due.Nothing typical (omega arith)) (λ after c.
      weaker (num after) _ _ (num_sound after) (λ left k.
      triple (subst (λ u. IsNum (shown table ts) u) (mark_shown table 58 low (omega arith) here) n) (subst (λ u. IsNum (shown table (rest low)) u) c m) k))))
      (λ e. value low _ (single n)))

  timed_sound : (ts : Rest) → Sound (timed ts) (λ y. IsTimed (shown table ts) (shown table y.1) tt)
  unfolding timed
  timed_sound ts = and_then (time ts) _ _ _ (time_sound ts) (λ after t. value (true, after) _ t)

  pub delay_sound : (ts : Rest) → Sound (delay ts) (λ left. IsDelay (shown table ts) (shown table left))
  unfolding delay
  delay_sound ts =
      if_so (is_at "#" ts) _ _ _
      (λ here. if_so (is_at "(" (rest ts)) _ _ _
      (λ inside. and_then (listed timed (rest (rest ts))) _ _ _ (listed_sound table timed IsTimed (λ (b : Bool). tt) timed_sound (rest (rest ts))) (λ times l.
      weaker (expect ")" due.Nothing times.1) _ _ (marked table 41 due.Nothing times.1 (omega arith)) (λ left m.
      rw (mark_shown table 35 ts (omega arith) here, mark_shown table 40 (rest ts) (omega arith) inside)
      (by_times (subst (λ u. IsListed IsTimed (shown table (rest (rest ts))) u (map (λ (b : Bool). tt) times.0)) m l)))))
      (λ e. weaker (time (rest ts)) _ _ (time_sound (rest ts)) (λ left t. rw (mark_shown table 35 ts (omega arith) here) (by_time t))))
      (λ e. value ts _ undelayed)
