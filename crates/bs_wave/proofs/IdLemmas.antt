-- The ids of nets: one digit after another, no two alike, and no space in them.
use Rattle.std.proofs.Common.{◌≡◌, ℕ, zero, suc, ◌<◌, ◌≤◌, ◌+◌, ◌-◌, ◌*◌, ◌/◌, ◌%◌, Bool, true, false, cond, List, [], ◌∷◌, refl, arith, ap, sym, ◌∙◌, nat_lt}
use Rattle.std.proofs.lemmas.Bool.{ltb-true, ltb-false, lt-ltb}
use Rattle.std.proofs.lemmas.Bool.{ne_eqb}
use Rattle.bs_bits.proofs.LineTextLemmas.{Lacks}
use Rattle.bs_wave.specs.WaveText.{id_digits, id_of}

smaller : (n : ℕ) → 94 ≤ n → n / 94 < n
smaller n h = omega arith

parts : (n : ℕ) → n % 94 + 94 * (n / 94) ≡ n
parts n = omega arith

small : (n : ℕ) → n % 94 < 94
small n = omega arith

not_below : (n : ℕ) → 94 ≤ n → nat_lt n 94 ≡ false
not_below n le = by (nat_lt n 94) refl
  where
    by : (b : Bool) → nat_lt n 94 ≡ b → b ≡ false
    by true e = absurd (omega (arith, le, ltb-true n 94 e))
    by false e = refl

-- with enough places the digits are the same
fuel : (f g n : ℕ) → n < f → n < g → id_digits f n ≡ id_digits g n
fuel zero g n hf hg = absurd (omega arith)
fuel (suc f) zero n hf hg = absurd (omega arith)
fuel (suc f) (suc g) n hf hg = by (nat_lt n 94) refl (λ le. fuel f g (n / 94) (omega (arith, smaller n le)) (omega (arith, smaller n le)))
  where
    by : (b : Bool) → nat_lt n 94 ≡ b → (94 ≤ n → id_digits f (n / 94) ≡ id_digits g (n / 94)) →
        cond b ((33 + n) ∷ []) ((33 + n % 94) ∷ id_digits f (n / 94)) ≡ cond b ((33 + n) ∷ []) ((33 + n % 94) ∷ id_digits g (n / 94))
    by true e rec = refl
    by false e rec = ap (λ ds. (33 + n % 94) ∷ ds) (rec (ltb-false n 94 e))

pub last_digit : (n : ℕ) → n < 94 → id_of n ≡ (33 + n) ∷ []
unfolding id_of
last_digit n lt = ap (λ b. cond b ((33 + n) ∷ []) ((33 + n % 94) ∷ id_digits n (n / 94))) (lt-ltb n 94 lt)

pub next_digit : (n : ℕ) → 94 ≤ n → id_of n ≡ (33 + n % 94) ∷ id_of (n / 94)
unfolding id_of
next_digit n le =
    ap (λ b. cond b ((33 + n) ∷ []) ((33 + n % 94) ∷ id_digits n (n / 94))) (not_below n le)
    ∙ ap (λ ds. (33 + n % 94) ∷ ds) (fuel n (suc (n / 94)) (n / 94) (smaller n le) (omega arith))

-- ---- no two are alike

abbrev id_value : List ℕ → ℕ
id_value [] = 0
id_value (d ∷ ds) = (d - 33) + 94 * id_value ds

value_again : (f n : ℕ) → n < f → id_value (id_digits f n) ≡ n
value_again zero n h = absurd (omega arith)
value_again (suc f) n h = by (nat_lt n 94) refl (λ le. value_again f (n / 94) (omega (arith, smaller n le)))
  where
    by : (b : Bool) → nat_lt n 94 ≡ b → (94 ≤ n → id_value (id_digits f (n / 94)) ≡ n / 94) →
        id_value (cond b ((33 + n) ∷ []) ((33 + n % 94) ∷ id_digits f (n / 94))) ≡ n
    by true e rec = omega arith
    by false e rec =
        let later = rec (ltb-false n 94 e) in
        ap (λ v. (33 + n % 94 - 33) + 94 * v) later ∙ (omega (arith, parts n))

pub same_id : (m n : ℕ) → id_of m ≡ id_of n → m ≡ n
unfolding id_of
same_id m n e = sym (value_again (suc m) m (omega arith)) ∙ (ap id_value e ∙ value_again (suc n) n (omega arith))

-- ---- no byte below `!`

digits_lack : (byte f n : ℕ) → byte < 33 → Lacks byte (id_digits f n)
digits_lack byte zero n low = tt
digits_lack byte (suc f) n low = by (nat_lt n 94) (digits_lack byte f (n / 94) low)
  where
    by : (b : Bool) → Lacks byte (id_digits f (n / 94)) → Lacks byte (cond b ((33 + n) ∷ []) ((33 + n % 94) ∷ id_digits f (n / 94)))
    by true rest = (ne_eqb (33 + n) byte (λ (same : 33 + n ≡ byte). omega (arith, same, low)), tt)
    by false rest = (ne_eqb (33 + n % 94) byte (λ (same : 33 + n % 94 ≡ byte). omega (arith, same, low)), rest)

pub id_lacks : (byte n : ℕ) → byte < 33 → Lacks byte (id_of n)
unfolding id_of
id_lacks byte n low = digits_lack byte (suc n) n low
