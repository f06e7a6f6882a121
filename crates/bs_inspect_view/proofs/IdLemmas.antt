-- The id of a number, digit by digit.
use Rattle.std.proofs.Common.{◌≡◌, ℕ, ◌<◌, ◌≤◌, ◌+◌, ◌%◌, ◌/◌, Bool, true, false, List, [], ◌∷◌, ◌++◌, arith, nat_lt, ap, refl, sym, ◌∙◌}
use Rattle.std.proofs.lemmas.Bool.{ltb-true, ltb-false}
use Rattle.bs_wave.specs.WaveText.{id_of}
use Rattle.bs_wave.proofs.IdLemmas.{last_digit, next_digit}

-- the last digit
pub last : (left : ℕ) (all mid new : List ℕ) → left < 94 → mid ++ id_of left ≡ all → new ≡ mid ++ (33 + left) ∷ [] → new ≡ all
last left all mid new lt e goes = goes ∙ (ap (λ (t : List ℕ). mid ++ t) (sym (last_digit left lt)) ∙ e)

-- ---- the ids of `run` and `cycle` are those of no signal

not_empty : (n : ℕ) → id_of n ≡ [] → ⊥
not_empty n e = by (nat_lt n 94) refl
  where
    by : (b : Bool) → nat_lt n 94 ≡ b → ⊥
    by true h = let t : [] ≡ (33 + n) ∷ [] = sym e ∙ last_digit n (ltb-true n 94 h) in absurd cc
    by false h = let t : [] ≡ (33 + n % 94) ∷ id_of (n / 94) = sym e ∙ next_digit n (ltb-false n 94 h) in absurd cc

-- one digit, that of 0, is the id of the first signal alone
first_alone : (n : ℕ) → 0 < n → id_of n ≡ 33 ∷ [] → ⊥
first_alone n some e = by (nat_lt n 94) refl
  where
    by : (b : Bool) → nat_lt n 94 ≡ b → ⊥
    by true h =
        let t : 33 ∷ [] ≡ (33 + n) ∷ [] = sym e ∙ last_digit n (ltb-true n 94 h) in
        let same : 33 ≡ 33 + n = cc in
        omega (arith, some, same)
    by false h =
        let t : 33 ∷ [] ≡ (33 + n % 94) ∷ id_of (n / 94) = sym e ∙ next_digit n (ltb-false n 94 h) in
        let behind : id_of (n / 94) ≡ [] = cc in
        not_empty (n / 94) behind

pub no_signal : (n d : ℕ) → id_of n ≡ d ∷ 33 ∷ [] → ⊥
no_signal n d e = by (nat_lt n 94) refl
  where
    by : (b : Bool) → nat_lt n 94 ≡ b → ⊥
    by true h = let t : d ∷ 33 ∷ [] ≡ (33 + n) ∷ [] = sym e ∙ last_digit n (ltb-true n 94 h) in absurd cc
    by false h =
        let t : d ∷ 33 ∷ [] ≡ (33 + n % 94) ∷ id_of (n / 94) = sym e ∙ next_digit n (ltb-false n 94 h) in
        let behind : id_of (n / 94) ≡ 33 ∷ [] = cc in
        first_alone (n / 94) (omega (arith, ltb-false n 94 h)) behind
