-- What the first symbol tells of the lexemes that show it, and readings that have the value that a production relates.
use Rattle.std.proofs.Common.{◌≡◌, ℕ, zero, suc, ◌<◌, Bool, true, false, cond, List, [], ◌∷◌, length, map, Option, Some, None, Result, Ok, Err}
use Rattle.std.proofs.Common.{refl, sym, ap, ◌∙◌, arith}
use Rattle.std.specs.Prelude.{slice_index_or, ◌==◌}
use Rattle.std.proofs.lemmas.Bool.{eq-eqb}
use Rattle.bs_bits.specs.Reading.{◌>>=◌}
use Rattle.bs_lex.specs.declared.lexeme.Sort.{Sort}
use Rattle.bs_lex.specs.declared.lexeme.Sort.TheVariants as sorts
use Rattle.bs_lex.specs.declared.lexeme.Word.{Word}
use Rattle.bs_lex.specs.declared.lexeme.Cell.{Cell}
use Rattle.bs_lex.specs.Lexemes.{is_name}
use Rattle.bs_verilog_syntax.specs.declared.fault.VerilogFault.{VerilogFault}
use Rattle.bs_verilog_syntax.specs.declared.reading.Due.{Due}
use Rattle.bs_verilog_syntax.specs.declared.reading.Due.TheVariants as due
use Rattle.bs_verilog_syntax.specs.Unsupported.{symbol}
use Rattle.bs_verilog_syntax.specs.Reading.{Rest, Read, sort, rest, is_at, digits, refused, expect_name, expect_digits, with_commas, listed}
use Rattle.bs_verilog_syntax.specs.Reading as reading
use Rattle.bs_verilog.specs.Symbols.{Symbol, Text, keyword, bit, mark, opens, closes, finish}
use Rattle.bs_verilog.specs.Symbols as symbols
use Rattle.bs_verilog.specs.Productions.{comma, begins_with, IsListed, last, more}
use Rattle.bs_verilog.specs.Views.{number_view, name_view}
use Rattle.bs_verilog.proofs.Shown.{seen_as, shown, at_is}
use Rattle.bs_verilog.proofs.Extends.{Extends, no_longer}

-- the reading has a value that says this, and what it leaves shows this
pub record Reads {X W : Type 0} (table : List (List ℕ)) (r : Result (X × Rest) VerilogFault) (view : X → W) (to : Text) (w : W) : Type 0 where
  pub value : X
  pub left : Rest
  pub is : r ≡ Ok (value, left)
  pub shows : shown table left ≡ to
  pub says : view value ≡ w

-- the same of what has no value
pub record Skips (table : List (List ℕ)) (r : Result Rest VerilogFault) (to : Text) : Type 0 where
  pub left : Rest
  pub is : r ≡ Ok left
  pub shows : shown table left ≡ to

-- ---- readings that are put together have their values

pub then_is : {A B F : Type 0} (r : Result A F) (f : A → Result B F) (x : A) (y : Result B F) → r ≡ Ok x → f x ≡ y → (r >>= f) ≡ y
then_is r f x y e h = ap (λ s. s >>= f) e ∙ h

pub true_is : {A : Type 0} (b : Bool) (p q y : A) → b ≡ true → p ≡ y → cond b p q ≡ y
true_is b p q y e h = ap (λ c. cond c p q) e ∙ h

pub false_is : {A : Type 0} (b : Bool) (p q y : A) → b ≡ false → q ≡ y → cond b p q ≡ y
false_is b p q y e h = ap (λ c. cond c p q) e ∙ h

module _ (table : List (List ℕ)) where
  pub mark_next : (c : ℕ) (ts : Rest) (us : Text) → shown table ts ≡ mark c ∷ us → (sort ts ≡ sorts.Symbol c) × (shown table (rest ts) ≡ us)
  mark_next c [] us e = absurd cc
  mark_next c (t ∷ ts) us e = by t.sort e
    where
      by : (s : Sort) → seen_as table s t.name ∷ shown table ts ≡ mark c ∷ us → (s ≡ sorts.Symbol c) × (shown table ts ≡ us)
      by (sorts.Symbol d) e =
          let same : d ≡ c = cc in
          let left : shown table ts ≡ us = cc in
          (ap (λ k. sorts.Symbol k) same, left)
      by _ e = absurd cc

  pub word_next : (w : Word) (ts : Rest) (us : Text) → shown table ts ≡ keyword w ∷ us → (sort ts ≡ sorts.Word w) × (shown table (rest ts) ≡ us)
  word_next w [] us e = absurd cc
  word_next w (t ∷ ts) us e = by t.sort e
    where
      by : (s : Sort) → seen_as table s t.name ∷ shown table ts ≡ keyword w ∷ us → (s ≡ sorts.Word w) × (shown table ts ≡ us)
      by (sorts.Word v) e =
          let same : v ≡ w = cc in
          let left : shown table ts ≡ us = cc in
          (ap (λ k. sorts.Word k) same, left)
      by _ e = absurd cc

  pub bit_next : (b : Bool) (ts : Rest) (us : Text) → shown table ts ≡ bit b ∷ us → (sort ts ≡ sorts.Bit b) × (shown table (rest ts) ≡ us)
  bit_next b [] us e = absurd cc
  bit_next b (t ∷ ts) us e = by t.sort e
    where
      by : (s : Sort) → seen_as table s t.name ∷ shown table ts ≡ bit b ∷ us → (s ≡ sorts.Bit b) × (shown table ts ≡ us)
      by (sorts.Bit c) e =
          let same : c ≡ b = cc in
          let left : shown table ts ≡ us = cc in
          (ap (λ k. sorts.Bit k) same, left)
      by _ e = absurd cc

  pub name_next : (cell : Option Cell) (n : List ℕ) (ts : Rest) (us : Text) → shown table ts ≡ symbols.name cell n ∷ us
      → (sort ts ≡ sorts.Name cell) × ((name_view table (reading.name ts) ≡ n) × (shown table (rest ts) ≡ us))
  name_next cell n [] us e = absurd cc
  name_next cell n (t ∷ ts) us e = by t.sort e
    where
      by : (s : Sort) → seen_as table s t.name ∷ shown table ts ≡ symbols.name cell n ∷ us
          → (s ≡ sorts.Name cell) × ((slice_index_or table t.name [] ≡ n) × (shown table ts ≡ us))
      by (sorts.Name c) e =
          let same : c ≡ cell = cc in
          let text : slice_index_or table t.name [] ≡ n = cc in
          let left : shown table ts ≡ us = cc in
          (ap (λ k. sorts.Name k) same, (text, left))
      by _ e = absurd cc

  pub number_next : (n : ℕ) (ts : Rest) (us : Text) → shown table ts ≡ symbols.digits n ∷ us
      → (k : ℕ) × ((sort ts ≡ sorts.Digits k) × ((number_view table k ≡ n) × (shown table (rest ts) ≡ us)))
  number_next n [] us e = absurd cc
  number_next n (t ∷ ts) us e = by t.sort e
    where
      by : (s : Sort) → seen_as table s t.name ∷ shown table ts ≡ symbols.digits n ∷ us
          → (k : ℕ) × ((s ≡ sorts.Digits k) × ((number_view table k ≡ n) × (shown table ts ≡ us)))
      by (sorts.Digits k) e =
          let same : number_view table k ≡ n = cc in
          let left : shown table ts ≡ us = cc in
          (k, (refl, (same, left)))
      by _ e = absurd cc

  -- a test of the next mark, by the symbols
  pub tested : (c : ℕ) → 0 < c → (ts : Rest) (us : Text) (b : Bool) → shown table ts ≡ us → begins_with c us ≡ b → (symbol (sort ts) == c) ≡ b
  tested c h ts us b e f = at_is table c ts h ∙ (ap (begins_with c) e ∙ f)

  pub same_mark : (c : ℕ) → (c == c) ≡ true
  same_mark c = eq-eqb c c refl

  pub mark_read : (c : ℕ) → 0 < c → (d : Due) (ts : Rest) (us : Text) → shown table ts ≡ mark c ∷ us
      → (cond (symbol (sort ts) == c) (Ok (rest ts)) (Err (refused d ts)) ≡ Ok (rest ts)) × (shown table (rest ts) ≡ us)
  mark_read c h d ts us e = (
    true_is (symbol (sort ts) == c) (Ok (rest ts)) (Err (refused d ts)) (Ok (rest ts)) (tested c h ts (mark c ∷ us) true e (same_mark c)) refl,
    (mark_next c ts us e).1,
  )

  pub name_read : (cell : Option Cell) (n : List ℕ) (ts : Rest) (us : Text) → shown table ts ≡ symbols.name cell n ∷ us
      → (expect_name ts ≡ Ok (reading.name ts, rest ts)) × ((name_view table (reading.name ts) ≡ n) × (shown table (rest ts) ≡ us))
  name_read cell n ts us e =
      let x = name_next cell n ts us e in
      (ap (λ s. cond (is_name s) (Ok (reading.name ts, rest ts)) (Err (refused due.Nothing ts))) x.0, x.1)

  pub number_read : (n : ℕ) (ts : Rest) (us : Text) → shown table ts ≡ symbols.digits n ∷ us
      → (k : ℕ) × ((expect_digits ts ≡ Ok (k, rest ts)) × ((number_view table k ≡ n) × (shown table (rest ts) ≡ us)))
  number_read n ts us e =
      let x = number_next n ts us e in
      (x.0, (ap (λ s. elim (digits s) [ Some m ↦ Ok (m, rest ts) | None ↦ Err (refused due.Nothing ts) ]) (x.1.0), x.1.1))

  -- a list is read whose members are, where each comma and what follows the list may follow a member
  commas_complete : {A B : Type 0} (one : Rest → Read A) (P : Text → Text → B → Type 0) (view : A → B) (Follows : Text → Type 0)
      → ((u : Text) → Follows (comma ∷ u)) → ((from to : Text) (w : B) → P from to w → Extends from to)
      → ((ts : Rest) (from to : Text) (w : B) → P from to w → shown table ts ≡ from → Follows to → Reads table (one ts) view to w)
      → (n : ℕ) (ts : Rest) (from to : Text) (ws : List B) → IsListed P from to ws → shown table ts ≡ from → Follows to → begins_with 44 to ≡ false
      → length from < n → Reads table (with_commas one n ts) (map view) to ws
  unfolding with_commas
  commas_complete one P view F comma_follows extends member zero ts from to ws l e f stop n = absurd (omega (arith, n))
  commas_complete one P view F comma_follows extends member (suc n) ts from to ws (last {x} p) e f stop bound =
      let m = member ts from to x p e f in
      let over = at_is table 44 m.left (omega arith) ∙ (ap (begins_with 44) m.shows ∙ stop) in
      record {
        value = m.value ∷ [];
        left = m.left;
        is = then_is (one ts) _ (m.value, m.left) _ m.is (false_is (is_at "," m.left) _ _ _ over refl);
        shows = m.shows;
        says = ap (λ w. w ∷ []) m.says;
      }
  commas_complete one P view F comma_follows extends member (suc n) ts from to ws (more {next} {x} {xs} p l) e f stop bound =
      let m = member ts from (comma ∷ next) x p e (comma_follows next) in
      let c = mark_next 44 m.left next m.shows in
      let less = no_longer (extends from (comma ∷ next) x p) in
      let others = commas_complete one P view F comma_follows extends member n (rest m.left) next to xs l c.1 f stop (omega (arith, less, bound)) in
      record {
        value = m.value ∷ others.value;
        left = others.left;
        is = then_is (one ts) _ (m.value, m.left) _ m.is (true_is (is_at "," m.left) _ _ _ (tested 44 (omega arith) m.left (comma ∷ next) true m.shows refl)
            (then_is (with_commas one n (rest m.left)) _ (others.value, others.left) _ others.is refl));
        shows = others.shows;
        says = rw (m.says, others.says) refl;
      }

  pub shown_length : (ts : Rest) → length (shown table ts) ≡ length ts
  shown_length [] = refl
  shown_length (t ∷ ts) = ap suc (shown_length ts)

  pub listed_complete : {A B : Type 0} (one : Rest → Read A) (P : Text → Text → B → Type 0) (view : A → B) (Follows : Text → Type 0)
      → ((u : Text) → Follows (comma ∷ u)) → ((from to : Text) (w : B) → P from to w → Extends from to)
      → ((ts : Rest) (from to : Text) (w : B) → P from to w → shown table ts ≡ from → Follows to → Reads table (one ts) view to w)
      → (ts : Rest) (from to : Text) (ws : List B) → IsListed P from to ws → shown table ts ≡ from → Follows to → begins_with 44 to ≡ false
      → Reads table (listed one ts) (map view) to ws
  listed_complete one P view F comma_follows extends member ts from to ws l e f stop =
      let long : length from ≡ length ts = ap length (sym e) ∙ shown_length ts in
      commas_complete one P view F comma_follows extends member (suc (length ts)) ts from to ws l e f stop (omega (arith, long))
