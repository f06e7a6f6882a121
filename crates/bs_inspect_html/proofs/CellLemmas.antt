-- A cell shows what the signal has at each of its moments.
use Rattle.std.proofs.Common.{◌≡◌, ℕ, zero, suc, arith, ◌<◌, ◌≤◌, ◌+◌, ◌-◌, ◌==◌, Bool, true, false, not, ◌||◌, ◌&&◌, List, [], ◌∷◌, length, map, Option, Some, None, refl, ap, sym, subst, ◌∙◌}
use Rattle.std.specs.Prelude.{◌%◌, if◌then◌else◌}
use Rattle.std.specs.Bool.{beq}
use Rattle.std.specs.List.{find, list_all, range_with_len}
use Rattle.std.specs.Option.{unwrap_or}
use Rattle.std.proofs.lemmas.Bool.{eqb-true, eqb-false}
use Rattle.bs_inspect_html.specs.Cells.{Figure, begins, bit_of, bits_at, end_of, is_open, same_bits, same_shown}
use Rattle.bs_inspect_html.specs.CellLaw.{AreExact, CellsAreExact}

-- before the first number that passes a test none does
before_found : (p : ℕ → Bool) (a n k last : ℕ) → last ≡ a + n → a ≤ k → k < unwrap_or (find p (range_with_len a n)) last → p k ≡ false
before_found p a zero k last is le lt = let stop : k < last = lt in absurd (omega (arith, is, le, stop))
before_found p a (suc n) k last is le lt = by (p a) refl (λ below more. before_found p (a + 1) n k last (omega (arith, is)) below more)
  where
    later : (b : Bool) → (a == k) ≡ b → p a ≡ false → (a + 1 ≤ k → p k ≡ false) → p k ≡ false
    later true same e rest = subst (λ (m : ℕ). p m ≡ false) (eqb-true a k same) e
    later false other e rest = rest (let ne = eqb-false a k other in omega (arith, le, ne))

    by : (b : Bool) → p a ≡ b → (a + 1 ≤ k → k < unwrap_or (find p (range_with_len (a + 1) n)) last → p k ≡ false) → p k ≡ false
    by true e rest = let stop : k < a = rw e at lt in absurd (omega (arith, le, stop))
    by false e rest =
        let more : k < unwrap_or (find p (range_with_len (a + 1) n)) last = rw e at lt in later (a == k) refl e (λ below. rest below more)

not_false : (b : Bool) → not b ≡ false → b ≡ true
not_false true e = refl
not_false false e = let t : true ≡ false = e in absurd cc

left_true : (b c : Bool) → (b && c) ≡ true → b ≡ true
left_true true c e = refl
left_true false c e = let t : false ≡ true = e in absurd cc

right_true : (b c : Bool) → (b && c) ≡ true → c ≡ true
right_true true c e = e
right_true false c e = let t : false ≡ true = e in absurd cc

same_bool : (b c : Bool) → beq b c ≡ true → b ≡ c
same_bool true true e = refl
same_bool false false e = refl
same_bool true false e = let t : false ≡ true = e in absurd cc
same_bool false true e = let t : false ≡ true = e in absurd cc

all_same : (p q : ℕ → Bool) (xs : List ℕ) → list_all (λ x. beq (p x) (q x)) xs ≡ true → map p xs ≡ map q xs
all_same p q [] e = refl
all_same p q (x ∷ xs) e =
    let head : p x ≡ q x = same_bool (p x) (q x) (left_true (beq (p x) (q x)) (list_all (λ y. beq (p y) (q y)) xs) e) in
    let rest : map p xs ≡ map q xs = all_same p q xs (right_true (beq (p x) (q x)) (list_all (λ y. beq (p y) (q y)) xs) e) in
    λ k. head k ∷ rest k

-- where no cell begins, the same is shown as a moment before
shown_before : (f : Figure) (places : List ℕ) (j : ℕ) → begins f places j ≡ false → same_shown f places (j - 1) j ≡ true
shown_before f places j e = first (j == 0) refl
  where
    second : (b : Bool) → (j == 0) ≡ false → (j % 1000 == 0) ≡ b → same_shown f places (j - 1) j ≡ true
    second true z t = let no : true ≡ false = rw t at (rw z at e) in absurd cc
    second false z t = not_false (same_shown f places (j - 1) j) (rw t at (rw z at e))

    first : (b : Bool) → (j == 0) ≡ b → same_shown f places (j - 1) j ≡ true
    first true z = let no : true ≡ false = rw z at e in absurd cc
    first false z = second (j % 1000 == 0) z refl

-- no cell begins inside one
none_begins : (f : Figure) (places : List ℕ) (i j : ℕ) → i < length f.moments → i < j → j < end_of f places i → begins f places j ≡ false
none_begins f places i j there lt below =
    before_found (begins f places) (i + 1) (length f.moments - (i + 1)) j (length f.moments) (omega (arith, there)) (omega (arith, lt)) below

same_from : (f : Figure) (places : List ℕ) (i d : ℕ) → i < length f.moments → i + d < end_of f places i →
    (bits_at f places (i + d) ≡ bits_at f places i) × (is_open f places (i + d) ≡ is_open f places i)
same_from f places i zero there below =
    let e : i + zero ≡ i = omega arith in (ap (bits_at f places) e, ap (is_open f places) e)
same_from f places i (suc d) there below =
    let rest = same_from f places i d there (omega (arith, below)) in
    let shown = shown_before f places (i + suc d) (none_begins f places i (i + suc d) there (omega arith) below) in
    let before : i + suc d - 1 ≡ i + d = omega arith in
    let same : same_shown f places (i + d) (i + suc d) ≡ true = subst (λ (m : ℕ). same_shown f places m (i + suc d) ≡ true) before shown in
    let bits = left_true (same_bits f places (i + d) (i + suc d)) (beq (is_open f places (i + d)) (is_open f places (i + suc d))) same in
    let marks = right_true (same_bits f places (i + d) (i + suc d)) (beq (is_open f places (i + d)) (is_open f places (i + suc d))) same in (
      sym (all_same (bit_of f.moments (i + d)) (bit_of f.moments (i + suc d)) places bits) ∙ rest.0,
      sym (same_bool (is_open f places (i + d)) (is_open f places (i + suc d)) marks) ∙ rest.1,
    )

pub cells_are_exact : CellsAreExact
cells_are_exact f places = record {
  bits = λ i j there le below.
      let e : i + (j - i) ≡ j = omega (arith, le) in
      let own = same_from f places i (j - i) there (subst (λ (m : ℕ). m < end_of f places i) (sym e) below) in
      subst (λ (m : ℕ). bits_at f places m ≡ bits_at f places i) e own.0;
  marks = λ i j there le below.
      let e : i + (j - i) ≡ j = omega (arith, le) in
      let own = same_from f places i (j - i) there (subst (λ (m : ℕ). m < end_of f places i) (sym e) below) in
      subst (λ (m : ℕ). is_open f places m ≡ is_open f places i) e own.1;
}
