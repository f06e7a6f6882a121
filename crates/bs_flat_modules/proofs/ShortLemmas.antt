-- What is read counts no more than the lexemes that it takes, and leaves what keeps a property that each rest keeps.
use Rattle.std.proofs.Common.{◌≡◌, ℕ, zero, suc, ◌≤◌, ◌+◌, Bool, true, false, ◌&&◌, List, [], ◌∷◌, ◌++◌, length, refl, arith, sym, ◌∙◌, Option, Some, None, Ok, Err}
use Rattle.std.proofs.lemmas.Bool.{false≢true}
use Rattle.std.proofs.lemmas.List.Sums.{sum_by-cons}
use Rattle.std.specs.Prelude.{if◌then◌else◌}
use Rattle.std.specs.List.{AllByRecursion, sum_by}
use Prim.Native.String.{String}
use Rattle.bs_net.specs.declared.gate.Kind.{Kind}
use Rattle.bs_lex.specs.declared.lexeme.Cell.{Cell}
use Rattle.bs_lex.specs.declared.lexeme.Name.{Name}
use Rattle.bs_lex.specs.Lexemes.{is_name}
use Rattle.bs_verilog_syntax.specs.declared.fault.VerilogFault.TheVariants.{Syntax, Unsupported}
use Rattle.bs_verilog_syntax.specs.declared.fault.What.TheVariants as what
use Rattle.bs_verilog_syntax.specs.declared.reading.Due.{Due}
use Rattle.bs_verilog_syntax.specs.declared.reading.Due.TheVariants as due
use Rattle.bs_verilog_syntax.specs.declared.reading.AttributeStep.{AttributeStep}
use Rattle.bs_verilog_syntax.specs.declared.reading.AttributeStep.TheVariants.{On, Over, Unclosed}
use Rattle.bs_verilog_syntax.specs.declared.tree.Term as code_term
use Rattle.bs_verilog_syntax.specs.declared.tree.Term.TheVariants.{Constant, Named}
use Rattle.bs_verilog_syntax.specs.declared.tree.Connection.TheVariants.{Empty, Place, Pin}
use Rattle.bs_verilog_syntax.specs.declared.tree.Component.{Component}
use Rattle.bs_verilog_syntax.specs.declared.tree.Shape.TheVariants as shapes
use Rattle.bs_bits.specs.Reading.{◌>>=◌}
use Rattle.bs_verilog_syntax.specs.Reading.{Rest, Read, Skip, at, sort, rest, name, bit, digits, is_at, refused, expect, expect_name, expect_digits, with_commas, listed}
use Rattle.bs_verilog_syntax.specs.Terms.{index, term, num, time, timed, delay, attribute_step, attributes_from}
use Rattle.bs_verilog_syntax.specs.Parts as parts
use Rattle.bs_verilog_syntax.specs.Parts.{is_strength, instance_name, opened}
use Rattle.bs_flat_meaning.proofs.GivenLemmas.{Gives, gives_ok, gives_err, gives_on, gives_if}

-- ---- what is counted

abbrev pub Any : {A : Type 0} → A → Type 0
Any x = Unit {0}

abbrev pub none : {A : Type 0} → A → ℕ
none x = 0

abbrev pub one_each : {A : Type 0} → A → ℕ
one_each x = 1

-- what a list counts
abbrev pub total : {A : Type 0} → (A → ℕ) → List A → ℕ
total count [] = 0
total count (x ∷ xs) = count x + total count xs

pub total_ones : {A : Type 0} (xs : List A) → total one_each xs ≡ length xs
total_ones [] = refl
total_ones (x ∷ xs) = let e = total_ones xs in omega (arith, e)

pub total_append : {A : Type 0} (count : A → ℕ) (xs ys : List A) → total count (xs ++ ys) ≡ total count xs + total count ys
total_append count [] ys = omega arith
total_append count (x ∷ xs) ys = let e = total_append count xs ys in omega (arith, e)

pub sum_below : {A : Type 0} (f count : A → ℕ) → ((x : A) → f x ≤ count x) → (xs : List A) → sum_by f xs ≤ total count xs
sum_below f count h [] = omega arith
sum_below f count h (x ∷ xs) =
    let e = sum_by-cons f x xs in
    let a = h x in
    let b = sum_below f count h xs in
    omega (arith, e, a, b)

pub length_below : {A : Type 0} (count : A → ℕ) → ((x : A) → 1 ≤ count x) → (xs : List A) → length xs ≤ total count xs
length_below count h [] = omega arith
length_below count h (x ∷ xs) =
    let a = h x in
    let b = length_below count h xs in
    omega (arith, a, b)

-- a part counts one, and its connections
abbrev pub weight : Component → ℕ
weight p = suc (length p.connections)

-- ---- lexemes that are taken

pub rest_left : (ts : Rest) → length (rest ts) ≤ length ts
rest_left [] = omega arith
rest_left (t ∷ ts) = omega arith

at_taken : (s : String) (ts : Rest) → is_at s [] ≡ false → is_at s ts ≡ true → suc (length (rest ts)) ≤ length ts
at_taken s [] other here = absurd (false≢true (sym other ∙ here))
at_taken s (t ∷ ts) other here = omega arith

pub name_taken : (ts : Rest) → is_name (sort ts) ≡ true → suc (length (rest ts)) ≤ length ts
name_taken [] here = absurd (false≢true here)
name_taken (t ∷ ts) here = omega arith

bit_taken : (ts : Rest) (b : Bool) → bit (sort ts) ≡ Some b → suc (length (rest ts)) ≤ length ts
bit_taken [] b here = absurd cc
bit_taken (t ∷ ts) b here = omega arith

-- a property of the lexemes that are left, which what follows the first of them keeps
module _ (S : Rest → Type 0) (step : (ts : Rest) → S ts → S (rest ts)) where
  -- so many lexemes more are left at most
  abbrev pub Left : ℕ → ℕ → Rest → Type 0
  Left k n ts = (k + length ts ≤ n) × S ts

  -- What a value counts and the lexemes that are left are together at most so many, and the value has a property.
  abbrev pub Within : {A : Type 0} → ℕ → (A → ℕ) → (A → Type 0) → A × Rest → Type 0
  Within n count Q x = (count x.0 + length x.1 ≤ n) × S x.1 × Q x.0

  pub within_more : {A : Type 0} (n m : ℕ) (count : A → ℕ) (Q : A → Type 0) (r : Read A) → n ≤ m → Gives (Within n count Q) r → Gives (Within m count Q) r
  within_more n m count Q r le g = record { is = λ x e. let k = g.is x e in (omega (arith, le, k.0), k.1, k.2) }

  pub left_more : (n m : ℕ) (r : Skip) → n ≤ m → Gives (Left 0 n) r → Gives (Left 0 m) r
  left_more n m r le g = record { is = λ x e. let k = g.is x e in (omega (arith, le, k.0), k.1) }

  pub expect_left : (s : String) (d : Due) (ts : Rest) → S ts → Gives (Left 0 (length ts)) (expect s d ts)
  expect_left s d ts h =
      let R = Left 0 (length ts) in
      gives_if R (is_at s ts) (Ok (rest ts)) (Err (refused d ts)) (λ _. gives_ok R (rest ts) (let r = rest_left ts in (omega (arith, r), step ts h)))
      (λ _. gives_err R (refused d ts))

  expect_taken : (s : String) (d : Due) (ts : Rest) → is_at s [] ≡ false → S ts → Gives (Left 1 (length ts)) (expect s d ts)
  expect_taken s d ts other h =
      let R = Left 1 (length ts) in
      gives_if R (is_at s ts) (Ok (rest ts)) (Err (refused d ts))
      (λ e. gives_ok R (rest ts) (let r = at_taken s ts other e in (omega (arith, r), step ts h))) (λ _. gives_err R (refused d ts))

  pub name_left : (Q : Name → Type 0) (ts : Rest) → S ts → (is_name (sort ts) ≡ true → Q (name ts)) → Gives (Within (length ts) one_each Q) (expect_name ts)
  name_left Q ts h q =
      let R = Within (length ts) one_each Q in
      gives_if R (is_name (sort ts)) (Ok (name ts, rest ts)) (Err (refused due.Nothing ts))
      (λ e. gives_ok R (name ts, rest ts) (let t = name_taken ts e in (omega (arith, t), step ts h, q e))) (λ _. gives_err R (refused due.Nothing ts))

  pub digits_left : (ts : Rest) → S ts → Gives (Within (length ts) none Any) (expect_digits ts)
  digits_left ts h = by (digits (sort ts))
    where
      by : (o : Option ℕ)
          → Gives (Within (length ts) none Any) (elim o as (λ _. Read ℕ) [ Some n ↦ Ok (n, rest ts) | None ↦ Err (refused due.Nothing ts) ])
      by (Some n) = gives_ok (Within (length ts) none Any) (n, rest ts) (let t = rest_left ts in (omega (arith, t), step ts h, tt))
      by None = gives_err (Within (length ts) none Any) (refused due.Nothing ts)

  pub attributes_left : (n : ℕ) (inside : Bool) (ts : Rest) → length ts ≤ n → S ts → Gives (Left 0 n) (attributes_from inside ts)
  unfolding attributes_from
  attributes_left n inside [] le h = gives_ok (Left 0 n) [] (omega (arith, le), h)
  attributes_left n inside (t ∷ ts) le h =
      by (attribute_step inside t.sort) (λ next. attributes_left n next ts (omega (arith, le)) (step (t ∷ ts) h))
    where
      by : (s : AttributeStep) → ((next : Bool) → Gives (Left 0 n) (attributes_from next ts))
          → Gives (Left 0 n) (elim s as (λ _. Skip) [ On next ↦ attributes_from next ts | Over ↦ Ok (t ∷ ts) | Unclosed ↦ Err (Syntax t.at) ])
      by (On next) later = later next
      by Over later = gives_ok (Left 0 n) (t ∷ ts) (omega (arith, le), h)
      by Unclosed later = gives_err (Left 0 n) (Syntax t.at)

  -- Members of which each counts at most what it takes, or one more: a comma makes up for it.
  commas_left : {A : Type 0} (count : A → ℕ) (Q : A → Type 0) (slack : ℕ) → slack ≤ 1 → (one : Rest → Read A)
      → ((ts : Rest) → S ts → Gives (Within (length ts + slack) count Q) (one ts)) → (n : ℕ) (ts : Rest) → S ts
      → Gives (Within (length ts + slack) (total count) (AllByRecursion Q)) (with_commas one n ts)
  unfolding with_commas
  commas_left count Q slack le one g zero ts h = gives_err (Within (length ts + slack) (total count) (AllByRecursion Q)) (refused due.Nothing ts)
  commas_left count Q slack le one g (suc n) ts h =
      let R = Within (length ts + slack) (total count) (AllByRecursion Q) in
      gives_on (Within (length ts + slack) count Q) R (one ts) _ (g ts h)
      (λ first f.
      gives_if R (is_at "," first.1) _ _
      (λ e.
      let comma = at_taken "," first.1 refl e in
      gives_on (Within (length (rest first.1) + slack) (total count) (AllByRecursion Q)) R (with_commas one n (rest first.1)) _
      (commas_left count Q slack le one g n (rest first.1) (step first.1 f.1))
      (λ others o. gives_ok R (first.0 ∷ others.0, others.1) (omega (arith, le, f.0, o.0, comma), o.1, (f.2, o.2))))
      (λ _. gives_ok R (first.0 ∷ [], first.1) (omega (arith, f.0), f.1, (f.2, tt))))

  pub listed_left : {A : Type 0} (count : A → ℕ) (Q : A → Type 0) (one : Rest → Read A) → ((ts : Rest) → S ts → Gives (Within (length ts) count Q) (one ts))
      → (ts : Rest) → S ts
      → Gives (Within (length ts) (total count) (AllByRecursion Q)) (listed one ts)
  listed_left count Q one g ts h =
      within_more (length ts + 0) (length ts) (total count) (AllByRecursion Q) (listed one ts) (omega arith)
      (commas_left count Q 0 (omega arith) one (λ us u. within_more (length us) (length us + 0) count Q (one us) (omega arith) (g us u)) (suc (length ts)) ts h)

  -- members up to and with a closing symbol
  pub closed_left : {A : Type 0} (count : A → ℕ) (Q : A → Type 0) (s : String) (d : Due) (n : ℕ) (one : Rest → Read A)
      → ((us : Rest) → S us → Gives (Within (length us) count Q) (one us)) → (ts : Rest) → length ts ≤ n → S ts
      → Gives (Within n (total count) (AllByRecursion Q)) (listed one ts >>= λ all. expect s d all.1 >>= λ after. Ok (all.0, after))
  closed_left count Q s d n one g ts le h =
      let R = Within n (total count) (AllByRecursion Q) in
      gives_on (Within (length ts) (total count) (AllByRecursion Q)) R (listed one ts) _ (listed_left count Q one g ts h)
      (λ all l.
      gives_on (Left 0 (length all.1)) R (expect s d all.1) _ (expect_left s d all.1 l.1)
      (λ after a. gives_ok R (all.0, after) (omega (arith, le, l.0, a.0), a.1, l.2)))

  -- ---- terms and delays

  index_left : (ts : Rest) → S ts → Gives (Within (length ts) none Any) (index ts)
  unfolding index
  index_left ts h =
      let R = Within (length ts) none Any in
      gives_if R (is_at "[" ts) _ _
      (λ _.
      gives_on (Within (length (rest ts)) none Any) R (expect_digits (rest ts)) _ (digits_left (rest ts) (step ts h))
      (λ number k.
      gives_on (Left 0 (length number.1)) R (expect "]" due.AfterIndex number.1) _ (expect_left "]" due.AfterIndex number.1 k.1)
      (λ after a. gives_ok R (Some number.0, after) (let r = rest_left ts in (omega (arith, r, k.0, a.0), a.1, tt)))))
      (λ _. gives_ok R (None, ts) (omega arith, h, tt))

  pub term_left : (ts : Rest) → S ts → Gives (Within (length ts) one_each Any) (term ts)
  unfolding term
  term_left ts h = by (bit (sort ts)) refl
    where
      by : (o : Option Bool) → bit (sort ts) ≡ o → Gives (Within (length ts) one_each Any)
          (elim o as (λ _. Read code_term.Term) [
            | Some b ↦ Ok (Constant (at ts) b, rest ts)
            | None ↦
                if is_name (sort ts) then (do
                  i ← index (rest ts)
                  Ok (Named (name ts) i.0, i.1))
                else Err (refused due.Term ts)
          ])
      by (Some b) e = gives_ok (Within (length ts) one_each Any) (Constant (at ts) b, rest ts) (let t = bit_taken ts b e in (omega (arith, t), step ts h, tt))
      by None e =
          gives_if (Within (length ts) one_each Any) (is_name (sort ts)) _ _
          (λ is.
          gives_on (Within (length (rest ts)) none Any) (Within (length ts) one_each Any) (index (rest ts)) _ (index_left (rest ts) (step ts h))
          (λ i k.
          gives_ok (Within (length ts) one_each Any) (Named (name ts) i.0, i.1) (let t = name_taken ts is in (omega (arith, t, k.0), k.1, tt))))
          (λ _. gives_err (Within (length ts) one_each Any) (refused due.Term ts))

  num_left : (ts : Rest) → S ts → Gives (Left 0 (length ts)) (num ts)
  unfolding num
  num_left ts h =
      let R = Left 0 (length ts) in
      gives_on (Within (length ts) none Any) R (expect_digits ts) _ (digits_left ts h)
      (λ whole w.
      gives_if R (is_at "." whole.1) _ _
      (λ _.
      gives_on (Within (length (rest whole.1)) none Any) R (expect_digits (rest whole.1)) _ (digits_left (rest whole.1) (step whole.1 w.1))
      (λ part p. gives_ok R part.1 (let r = rest_left whole.1 in (omega (arith, w.0, r, p.0), p.1))))
      (λ _. gives_ok R whole.1 (omega (arith, w.0), w.1)))

  time_left : (ts : Rest) → S ts → Gives (Left 0 (length ts)) (time ts)
  unfolding time
  time_left ts h =
      let R = Left 0 (length ts) in
      gives_on R R (num ts) _ (num_left ts h)
      (λ low l.
      gives_if R (is_at ":" low) _ _
      (λ _.
      gives_on (Left 0 (length (rest low))) R (num (rest low)) _ (num_left (rest low) (step low l.1))
      (λ typical t.
      gives_on (Left 0 (length typical)) R (expect ":" due.Nothing typical) _ (expect_left ":" due.Nothing typical t.1)
      (λ colon c. left_more (length colon) (length ts) (num colon) (let r = rest_left low in omega (arith, l.0, r, t.0, c.0)) (num_left colon c.1))))
      (λ _. gives_ok R low (omega (arith, l.0), l.1)))

  timed_left : (ts : Rest) → S ts → Gives (Within (length ts) none Any) (timed ts)
  unfolding timed
  timed_left ts h =
      gives_on (Left 0 (length ts)) (Within (length ts) none Any) (time ts) _ (time_left ts h)
      (λ after a. gives_ok (Within (length ts) none Any) (true, after) (omega (arith, a.0), a.1, tt))

  delay_left : (ts : Rest) → S ts → Gives (Left 0 (length ts)) (delay ts)
  unfolding delay
  delay_left ts h =
      let R = Left 0 (length ts) in
      let r = rest_left ts in
      let rr = rest_left (rest ts) in
      gives_if R (is_at "#" ts) _ _
      (λ _.
      gives_if R (is_at "(" (rest ts)) _ _
      (λ _.
      gives_on (Within (length (rest (rest ts))) (total none) (AllByRecursion Any)) R (listed timed (rest (rest ts))) _
      (listed_left none Any timed timed_left (rest (rest ts)) (step (rest ts) (step ts h)))
      (λ times t.
      left_more (length times.1) (length ts) (expect ")" due.Nothing times.1) (omega (arith, r, rr, t.0)) (expect_left ")" due.Nothing times.1 t.1)))
      (λ _. left_more (length (rest ts)) (length ts) (time (rest ts)) r (time_left (rest ts) (step ts h))))
      (λ _. gives_ok R ts (omega arith, h))

  -- ---- parts

  by_place_left : (ts : Rest) → S ts → Gives (Within (length ts) one_each Any) (parts.by_place ts)
  unfolding parts.by_place
  by_place_left ts h =
      gives_on (Within (length ts) one_each Any) (Within (length ts) one_each Any) (term ts) _ (term_left ts h)
      (λ t k. gives_ok (Within (length ts) one_each Any) (Place t.0, t.1) (k.0, k.1, tt))

  -- a place that is empty takes nothing
  place_left : (ts : Rest) → S ts → Gives (Within (length ts + 1) one_each Any) (parts.place ts)
  unfolding parts.place
  place_left ts h =
      let R = Within (length ts + 1) one_each Any in
      gives_if R (is_at ",)" ts) _ _ (λ _. gives_ok R (Empty, ts) (omega arith, h, tt))
      (λ _. within_more (length ts) (length ts + 1) one_each Any (parts.by_place ts) (omega arith) (by_place_left ts h))

  pin_left : (ts : Rest) → S ts → Gives (Within (length ts) one_each Any) (parts.pin ts)
  unfolding parts.pin
  pin_left ts h =
      let R = Within (length ts) one_each Any in
      gives_on (Left 0 (length ts)) R (expect "." due.Nothing ts) _ (expect_left "." due.Nothing ts h)
      (λ dot d.
      gives_on (Within (length dot) one_each Any) R (expect_name dot) _ (name_left Any dot d.1 (λ _. tt))
      (λ n k.
      gives_on (Left 0 (length n.1)) R (expect "(" due.Nothing n.1) _ (expect_left "(" due.Nothing n.1 k.1)
      (λ inside i.
      gives_if R (is_at ")" inside) _ _
      (λ _. gives_ok R (Pin n.0 None, rest inside) (let r = rest_left inside in (omega (arith, d.0, k.0, i.0, r), step inside i.1, tt)))
      (λ _.
      gives_on (Within (length inside) one_each Any) R (term inside) _ (term_left inside i.1)
      (λ t l.
      gives_on (Left 0 (length t.1)) R (expect ")" due.AfterTerm t.1) _ (expect_left ")" due.AfterTerm t.1 l.1)
      (λ after a. gives_ok R (Pin n.0 (Some t.0), after) (omega (arith, d.0, k.0, i.0, l.0, a.0), a.1, tt)))))))

  pub connections_left : (ts : Rest) → S ts → Gives (Within (length ts) length Any) (parts.connections ts)
  unfolding parts.connections
  connections_left ts h =
      let R = Within (length ts) length Any in
      gives_if R (is_at ")" ts) _ _ (λ _. gives_ok R ([], rest ts) (let r = rest_left ts in (omega (arith, r), step ts h, tt)))
      (λ _.
      gives_if R (is_at "." ts) _ _
      (λ _.
      gives_on (Within (length ts) (total one_each) (AllByRecursion Any)) R (listed parts.pin ts) _ (listed_left one_each Any parts.pin pin_left ts h)
      (λ pins p.
      gives_on (Left 0 (length pins.1)) R (expect ")" due.Nothing pins.1) _ (expect_left ")" due.Nothing pins.1 p.1)
      (λ after a. gives_ok R (pins.0, after) (let e = total_ones pins.0 in (omega (arith, p.0, a.0, e), a.1, tt)))))
      (λ _.
      gives_on (Within (length ts + 1) (total one_each) (AllByRecursion Any)) R (listed parts.place ts) _
      (commas_left one_each Any 1 (omega arith) parts.place place_left (suc (length ts)) ts h)
      (λ places p.
      gives_on (Left 1 (length places.1)) R (expect ")" due.AfterTerm places.1) _ (expect_taken ")" due.AfterTerm places.1 refl p.1)
      (λ after a. gives_ok R (places.0, after) (let e = total_ones places.0 in (omega (arith, p.0, a.0, e), a.1, tt))))))

  instance_left : (ts : Rest) → S ts → Left 0 (length ts) (instance_name ts)
  instance_left ts h = by (is_name (sort ts))
    where
      by : (b : Bool) → Left 0 (length ts) (if b then rest ts else ts)
      by true = let r = rest_left ts in (omega (arith, r), step ts h)
      by false = (omega arith, h)

  opened_left : (ts : Rest) → S ts → Gives (Left 1 (length ts)) (opened ts (instance_name ts))
  opened_left ts h =
      record {
        is = λ x e.
            let i = instance_left ts h in
            let t = (expect_taken "(" (if is_name (sort ts) then due.AfterInstance else due.Nothing) (instance_name ts) refl i.1).is x e in
            (omega (arith, t.0, i.0), t.1);
      }

  gate_left : (kind : Kind) (ts : Rest) → S ts → Gives (Within (length ts) weight Any) (parts.gate kind ts)
  unfolding parts.gate
  gate_left kind ts h =
      let R = Within (length ts) weight Any in
      gives_on (Left 1 (length ts)) R (opened ts (instance_name ts)) _ (opened_left ts h)
      (λ inside i.
      gives_on (Within (length inside) (total one_each) (AllByRecursion Any)) R (listed parts.by_place inside) _
      (listed_left one_each Any parts.by_place by_place_left inside i.1)
      (λ terms t.
      gives_on (Left 0 (length terms.1)) R (expect ")" due.AfterTerm terms.1) _ (expect_left ")" due.AfterTerm terms.1 t.1)
      (λ after a.
      gives_ok R (record { shape = shapes.Gate kind; at = at (instance_name ts); connections = terms.0 }, after)
      (let e = total_ones terms.0 in (omega (arith, i.0, t.0, a.0, e), a.1, tt)))))

  cell_left : (cell : Cell) (ts : Rest) → S ts → Gives (Within (length ts) weight Any) (parts.instance cell ts)
  unfolding parts.instance
  cell_left cell ts h =
      let R = Within (length ts) weight Any in
      gives_on (Left 1 (length ts)) R (opened ts (instance_name ts)) _ (opened_left ts h)
      (λ inside i.
      gives_on (Within (length inside) length Any) R (parts.connections inside) _ (connections_left inside i.1)
      (λ all c.
      gives_ok R (record { shape = shapes.Cell cell; at = at (instance_name ts); connections = all.0 }, all.1) (omega (arith, i.0, c.0), c.1, tt)))

  assignment_left : (ts : Rest) → S ts → Gives (Within (length ts) weight Any) (parts.assignment ts)
  unfolding parts.assignment
  assignment_left ts h =
      let R = Within (length ts) weight Any in
      gives_on (Within (length ts) one_each Any) R (term ts) _ (term_left ts h)
      (λ left l.
      gives_on (Left 1 (length left.1)) R (expect "=" due.AfterTerm left.1) _ (expect_taken "=" due.AfterTerm left.1 refl l.1)
      (λ equals e.
      gives_on (Within (length equals) one_each Any) R (term equals) _ (term_left equals e.1)
      (λ right r.
      gives_ok R (record { shape = shapes.Assign; at = at ts; connections = Place left.0 ∷ Place right.0 ∷ [] }, right.1)
      (omega (arith, l.0, e.0, r.0), r.1, tt))))

  pub gates_left : (kind : Kind) (ts : Rest) → S ts → Gives (Within (length ts) (total weight) (AllByRecursion Any)) (parts.gates kind ts)
  unfolding parts.gates
  gates_left kind ts h =
      let R = Within (length ts) (total weight) (AllByRecursion Any) in
      gives_if R (is_at "(" ts && is_strength (sort (rest ts))) _ _ (λ _. gives_err R (Unsupported (at (rest ts)) what.Strength))
      (λ _.
      gives_on (Left 0 (length ts)) R (delay ts) _ (delay_left ts h)
      (λ first f. closed_left weight Any ";" due.Nothing (length ts) (parts.gate kind) (gate_left kind) first (omega (arith, f.0)) f.1))

  pub cells_left : (cell : Cell) (ts : Rest) → S ts → Gives (Within (length ts) (total weight) (AllByRecursion Any)) (parts.instances cell ts)
  unfolding parts.instances
  cells_left cell ts h =
      let R = Within (length ts) (total weight) (AllByRecursion Any) in
      gives_if R (is_at "#" ts) _ _ (λ _. gives_err R (Unsupported (at ts) what.Parameter))
      (λ _. closed_left weight Any ";" due.Nothing (length ts) (parts.instance cell) (cell_left cell) ts (omega arith) h)

  pub assignments_left : (ts : Rest) → S ts → Gives (Within (length ts) (total weight) (AllByRecursion Any)) (parts.assignments ts)
  unfolding parts.assignments
  assignments_left ts h =
      let R = Within (length ts) (total weight) (AllByRecursion Any) in
      gives_on (Left 0 (length ts)) R (delay ts) _ (delay_left ts h)
      (λ first f. closed_left weight Any ";" due.AfterTerm (length ts) parts.assignment assignment_left first (omega (arith, f.0)) f.1)
