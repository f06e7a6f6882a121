-- The characters of a text of bits.
use Rattle.std.proofs.Common.{◌≡◌, arith, length, ℕ, Bool, true, false, ◌||◌, ◌&&◌, cond, List, [], ◌∷◌, map, refl, ap, sym, ◌∙◌, Some, None}
use Rattle.std.specs.Prelude.{◌==◌}
use Rattle.std.specs.List.{list_all}
use Rattle.std.proofs.lemmas.Bool.{and_parts, eqb-true, true≢false, false≢true}
use Rattle.bs_bits.specs.Text.{bits_of, bits_of_digits, bit_of, before, is_dot}
use Rattle.bs_stim.specs.Packing.{is_one}

abbrev is_digit : ℕ → Bool
is_digit c = (c == 48) || (c == 49)

digit_bit : (c : ℕ) → is_digit c ≡ true → Some (is_one c) ≡ bit_of c
digit_bit c h = by (c == 48) refl (c == 49) refl h
  where
    by : (z : Bool) → (c == 48) ≡ z → (o : Bool) → (c == 49) ≡ o → (z || o) ≡ true → Some o ≡ cond z (Some false) (cond o (Some true) None)
    by true z true o h = absurd (omega (arith, eqb-true c 48 z, eqb-true c 49 o))
    by true z false o h = refl
    by false z true o h = refl
    by false z false o h = absurd (false≢true h)

pub digits_bits : (cs : List ℕ) → list_all is_digit cs ≡ true → Some (map is_one cs) ≡ bits_of_digits cs
digits_bits [] h = refl
digits_bits (c ∷ cs) h =
    let both = and_parts (is_digit c) (list_all is_digit cs) h in
    ap (λ o. before o (Some (map is_one cs))) (digit_bit c both.0) ∙ ap (before (bit_of c)) (digits_bits cs both.1)

no_bit : (c : ℕ) → is_digit c ≡ false → None ≡ bit_of c
no_bit c h = by (c == 48) refl (c == 49) refl h
  where
    by : (z : Bool) → (c == 48) ≡ z → (o : Bool) → (c == 49) ≡ o → (z || o) ≡ false → None ≡ cond z (Some false) (cond o (Some true) None)
    by true z o e h = absurd (true≢false h)
    by false z true e h = absurd (true≢false h)
    by false z false e h = refl

pub no_bits : (cs : List ℕ) → list_all is_digit cs ≡ false → None ≡ bits_of_digits cs
no_bits [] h = absurd (true≢false h)
no_bits (c ∷ cs) h = by (is_digit c) refl h (no_bits cs)
  where
    by : (b : Bool) → is_digit c ≡ b → (b && list_all is_digit cs) ≡ false → (list_all is_digit cs ≡ false → None ≡ bits_of_digits cs) →
        None ≡ before (bit_of c) (bits_of_digits cs)
    by false e h rest = ap (λ o. before o (bits_of_digits cs)) (no_bit c e)
    by true e h rest = ap (λ o. before o None) (digit_bit c e) ∙ ap (before (bit_of c)) (rest h)

-- ---- a whole text

pub text_bits : (text : List ℕ) → (length text == 0) ≡ false → is_dot text ≡ false → list_all is_digit text ≡ true → Some (map is_one text) ≡ bits_of text
text_bits [] some dot h = absurd (true≢false some)
text_bits (c ∷ cs) some dot h = digits_bits (c ∷ cs) h ∙ sym (ap (λ b. cond b (Some []) (bits_of_digits (c ∷ cs))) dot)

pub no_text : (text : List ℕ) → (length text == 0) ≡ false → is_dot text ≡ false → list_all is_digit text ≡ false → None ≡ bits_of text
no_text [] some dot h = absurd (true≢false some)
no_text (c ∷ cs) some dot h = no_bits (c ∷ cs) h ∙ sym (ap (λ b. cond b (Some []) (bits_of_digits (c ∷ cs))) dot)
