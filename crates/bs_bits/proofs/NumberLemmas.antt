-- The number that digits stand for, digit by digit, and its one form.
use Rattle.std.proofs.Common.{◌≡◌, ◌≢◌, ℕ, suc, zero, ◌<◌, ◌≤◌, ◌+◌, ◌-◌, ◌*◌, ◌^◌, Bool, true, false, cond, not, ◌&&◌, ◌||◌, nat_lt, nat_le, Option}
use Rattle.std.proofs.Common.{Some, None, List, [], ◌∷◌, length, drop, get_or, fold, refl, arith, ap, sym, ◌∙◌}
use Rattle.std.specs.Prelude.{◌==◌}
use Rattle.std.specs.Prelude.{decimal, MatchOption}
use Rattle.std.proofs.lemmas.Bool.{ltb-true, ltb-false, leb-true, le-leb, eqb-true, eqb-false, ne_eqb, not-true, and_parts, and_from}
use Rattle.std.proofs.lemmas.Str.Parse.{IsDigitsTest, FoldsDigits, IsNumeralModel, numerals_by_fold}
use Rattle.std.proofs.lemmas.Fmt.{digits_decimal, digits_value-decimal, decimal-digits_value, decimal_nonempty, first_decimal, decimal_digit}
use Rattle.bs_bits.specs.Lines.{number_of, digits_in, is_digits, is_canonical}

-- the number that digits stand for behind those of n
abbrev pub after : ℕ → List ℕ → ℕ
after n digits = fold (λ n d. 10 * n + (d - 48)) n digits

-- more digits give no lower number
grows : (n : ℕ) (digits : List ℕ) → n ≤ after n digits
grows n [] = omega arith
grows n (d ∷ ds) = omega (arith, grows (10 * n + (d - 48)) ds)

grows_at : (n : ℕ) (digits : List ℕ) (i : ℕ) → i < length digits → 10 * n + (get_or digits i 0 - 48) ≤ after n (drop i digits)
grows_at n [] i h = absurd (omega arith)
grows_at n (d ∷ ds) zero h = grows (10 * n + (d - 48)) ds
grows_at n (d ∷ ds) (suc i) h = grows_at n ds i (omega arith)

-- the number so far with one digit more
pub one_more : (n : ℕ) (digits : List ℕ) (i : ℕ) → i < length digits → after (10 * n + (get_or digits i 0 - 48)) (drop (suc i) digits) ≡ after n (drop i digits)
one_more n [] i h = absurd (omega arith)
one_more n (d ∷ ds) zero h = refl
one_more n (d ∷ ds) (suc i) h = one_more n ds i (omega arith)

-- where the number so far is too large, the whole is
pub too_large : (n : ℕ) (digits : List ℕ) (i : ℕ) → i < length digits → after n (drop i digits) ≡ number_of digits →
    2 ^ 64 ≤ 10 * n + (get_or digits i 0 - 48) → None ≡ digits_in digits
too_large n digits i h whole large = by (nat_lt (number_of digits) (2 ^ 64)) refl
  where
    by : (b : Bool) → nat_lt (number_of digits) (2 ^ 64) ≡ b → None ≡ cond b (Some (number_of digits)) None
    by false e = refl
    by true e = absurd (omega (arith, ltb-true (number_of digits) (2 ^ 64) e, grows_at n digits i h, whole))

none_left : (i : ℕ) (digits : List ℕ) → length digits ≤ i → drop i digits ≡ []
none_left zero [] h = refl
none_left zero (d ∷ ds) h = absurd (omega arith)
none_left (suc i) [] h = refl
none_left (suc i) (d ∷ ds) h = none_left i ds (omega arith)

-- what is read at the end
pub all_read : (n : ℕ) (digits : List ℕ) (i : ℕ) → length digits ≤ i → after n (drop i digits) ≡ number_of digits → n < 2 ^ 64 → Some n ≡ digits_in digits
all_read n digits i h whole small =
    let no_more : drop i digits ≡ [] = none_left i digits h in
    let same : n ≡ number_of digits = ap (after n) (sym no_more) ∙ whole in
    rw (← same) (by (nat_lt n (2 ^ 64)) refl)
  where
    by : (b : Bool) → nat_lt n (2 ^ 64) ≡ b → Some n ≡ cond b (Some n) None
    by true e = refl
    by false e = absurd (omega (arith, ltb-false n (2 ^ 64) e, small))

-- ---- the one form of a number

is_digits_test : IsDigitsTest (λ ds. is_digits ds ≡ true)
is_digits_test = record {
  empty = refl;
  parts = λ c cs h.
      let both : (nat_le 48 c && nat_le c 57 ≡ true) × (is_digits cs ≡ true) = and_parts (nat_le 48 c && nat_le c 57) (is_digits cs) h in
      let range : (nat_le 48 c ≡ true) × (nat_le c 57 ≡ true) = and_parts (nat_le 48 c) (nat_le c 57) both.0 in
      ((leb-true 48 c range.0, leb-true c 57 range.1), both.1);
  more = λ c cs r h. and_from (nat_le 48 c && nat_le c 57) (is_digits cs) (and_from (nat_le 48 c) (nat_le c 57) (le-leb 48 c r.0) (le-leb c 57 r.1)) h;
}

after_folds : FoldsDigits after
after_folds = record {
  empty = λ n. refl;
  more = λ n c cs r. ap (λ m. after (m + (c - 48)) cs) (omega arith);
}

own : IsNumeralModel (λ ds. is_digits ds ≡ true) number_of
own = numerals_by_fold (λ ds. is_digits ds ≡ true) is_digits_test after after_folds

-- what `decimal` writes is canonical
pub decimal_canonical : (n : ℕ) → n < 2 ^ 64 → is_canonical (decimal n) ≡ true
decimal_canonical n h = by (decimal n) refl (digits_decimal own n h) (decimal_nonempty n h)
  where
    high : (d : ℕ) (ds : List ℕ) → decimal n ≡ d ∷ ds → (length ds == 0) ≡ false → not (d == 48) ≡ true
    high d ds e long = positive n refl
      where
        positive : (m : ℕ) → n ≡ m → not (d == 48) ≡ true
        positive zero z =
            let same : d ∷ ds ≡ 48 ∷ [] = sym e ∙ (ap decimal z ∙ decimal_digit 0 (omega arith)) in
            absurd (eqb-false (length ds) 0 long (omega (arith, ap length same)))
        positive (suc m) z =
            let first : 48 < get_or (decimal n) 0 0 = first_decimal n (omega (arith, z)) h in
            ap not (ne_eqb d 48 (λ q. omega (arith, first, ap (λ t. get_or t 0 0) e, q)))

    by : (t : List ℕ) → decimal n ≡ t → is_digits t ≡ true → 0 < length t → is_canonical t ≡ true
    by [] e digits some = absurd (omega arith)
    by (d ∷ ds) e digits some = and_from (is_digits (d ∷ ds)) ((length ds == 0) || not (d == 48)) digits (either (length ds == 0) refl)
      where
        either : (b : Bool) → (length ds == 0) ≡ b → (length ds == 0) || not (d == 48) ≡ true
        either true z = rw z refl
        either false z = rw z (high d ds e z)

-- it stands for the number that was written
pub number_of_decimal : (n : ℕ) → n < 2 ^ 64 → number_of (decimal n) ≡ n
number_of_decimal n h = digits_value-decimal own n h

-- a text that is not canonical is no number's form
pub not_canonical : (text : List ℕ) → is_canonical text ≡ false → (n : ℕ) → n < 2 ^ 64 → decimal n ≢ text
not_canonical text other n h e =
    let same : is_canonical text ≡ true = ap is_canonical (sym e) ∙ decimal_canonical n h in
    cc

-- a canonical text is the form of its number, where that is below 2 ^ 64
pub canonical : (text : List ℕ) (r : Option ℕ) → is_canonical text ≡ true → r ≡ digits_in text →
    MatchOption r ((n : ℕ) → n < 2 ^ 64 → decimal n ≢ text) (λ n. decimal n ≡ text)
canonical [] r form read = cc
canonical (d ∷ ds) r form read = rw read (by (nat_lt (number_of (d ∷ ds)) (2 ^ 64)) refl)
  where
    both : (is_digits (d ∷ ds) ≡ true) × ((length ds == 0) || not (d == 48) ≡ true)
    both = and_parts (is_digits (d ∷ ds)) ((length ds == 0) || not (d == 48)) form

    short : d ≡ 48 → length (d ∷ ds) ≡ 1
    short e = pick (length ds == 0) refl
      where
        pick : (b : Bool) → (length ds == 0) ≡ b → length (d ∷ ds) ≡ 1
        pick true z = omega (arith, eqb-true (length ds) 0 z)
        pick false z =
            let high : not (d == 48) ≡ true = sym (ap (λ b. b || not (d == 48)) z) ∙ both.1 in
            absurd (eqb-false d 48 (not-true (d == 48) high) e)

    by : (b : Bool) → nat_lt (number_of (d ∷ ds)) (2 ^ 64) ≡ b →
        MatchOption (cond b (Some (number_of (d ∷ ds))) None) ((n : ℕ) → n < 2 ^ 64 → decimal n ≢ d ∷ ds) (λ n. decimal n ≡ d ∷ ds)
    by true e = decimal-digits_value own (d ∷ ds) both.0 (omega arith) short (ltb-true (number_of (d ∷ ds)) (2 ^ 64) e)
    by false e = λ n h is. absurd (omega (arith, h, ltb-false (number_of (d ∷ ds)) (2 ^ 64) e, sym (digits_value-decimal own n h) ∙ ap number_of is))
