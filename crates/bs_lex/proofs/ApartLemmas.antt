-- Numbers of digits are told apart as numbers.
use Rattle.std.proofs.Common.{◌≡◌, ◌≢◌, ℕ, zero, suc, ◌+◌, ◌-◌, ◌*◌, ◌<◌, ◌≤◌, ◌⊎◌, inl, inr, Bool, true, false, cond, List, [], ◌∷◌, length, get_or}
use Rattle.std.proofs.Common.{min, Some, None, refl, sym, ap, ◌∙◌, arith, nat_lt}
use Rattle.std.specs.Prelude.{◌==◌, ◌↔◌, if◌then◌else◌, nat_le, unwrap_or, slice_get, slice_index}
use Rattle.std.specs.List.{list_all}
use Rattle.std.specs.Str.{bytes_eq}
use Rattle.std.specs.Cmp.Lexicographic.{bytes_decides}
use Rattle.std.proofs.lemmas.Bool.{and_parts, cond_both, eqb-true, eqb-false, leb-true, ltb-true, ltb-false}
use Rattle.std.proofs.lemmas.Bool.Decides.{nat_tests}
use Rattle.std.proofs.lemmas.List.Quantifiers.{position-Some}
use Rattle.bs_net.specs.Names.{with_key, number_of}
use Rattle.bs_lex.specs.Bytes.{◌∈◌, is_digit}
use Rattle.bs_lex.specs.declared.token.Token.{Token}
use Rattle.bs_lex.specs.declared.token.TokenKind.TheVariants as kinds
use Rattle.bs_lex.specs.declared.lexeme.Sort.{Sort}
use Rattle.bs_lex.specs.declared.lexeme.Sort.TheVariants as sorts
use Rattle.bs_lex.specs.Lexemes.{is_name, sort_of, is_one_bit, is_great, has_leading_zero, without_zeros, decimal_from, spelling, token_sort}
use Rattle.bs_lex.specs.Lexemes.{name_text, with_name, names_from, names_of, number_in, numbered_sort}
use Rattle.bs_lex.specs.Apart.{IsDigits, value, seen, TellsNumbersApart}
use Rattle.bs_lex.proofs.NamingLemmas.{numbered, stays_from}

pub le_or : (n m : ℕ) → (n ≤ m) ⊎ (m < n)
le_or n m = by (nat_lt m n) refl
  where
    by : (b : Bool) → nat_lt m n ≡ b → (n ≤ m) ⊎ (m < n)
    by true e = inr (ltb-true m n e)
    by false e = inl (ltb-false m n e)

-- ---- digits without leading zeros are one text for each number

digit_range : (c : ℕ) → is_digit c ≡ true → (48 ≤ c) × (c ≤ 57)
digit_range c e =
    let both = and_parts (nat_le 48 c) (nat_le c 57) e in
    (leb-true 48 c both.0, leb-true c 57 both.1)

-- digits of one length that give one number behind two numbers
same_text : (n m : ℕ) (a b : List ℕ) → list_all is_digit a ≡ true → list_all is_digit b ≡ true → length a ≡ length b → decimal_from n a ≡ decimal_from m b
    → (n ≡ m) × (a ≡ b)
unfolding decimal_from
same_text n m [] [] da db long e = (e, refl)
same_text n m [] (d ∷ b) da db long e = absurd (omega (arith, long))
same_text n m (c ∷ a) [] da db long e = absurd (omega (arith, long))
same_text n m (c ∷ a) (d ∷ b) da db long e =
    let pa = and_parts (is_digit c) (list_all is_digit a) da in
    let pb = and_parts (is_digit d) (list_all is_digit b) db in
    let ca = digit_range c pa.0 in
    let cb = digit_range d pb.0 in
    let rest = same_text (10 * n + (c - 48)) (10 * m + (d - 48)) a b pa.1 pb.1 (omega (arith, long)) e in
    let before : n ≡ m = omega (arith, rest.0, ca.0, ca.1, cb.0, cb.1) in
    let first : c ≡ d = omega (arith, rest.0, ca.0, ca.1, cb.0, cb.1) in
    (before, ap (λ x. x ∷ a) first ∙ ap (λ t. d ∷ t) rest.1)

-- digits give less than as many behind a number above 0
lower : (m : ℕ) (a b : List ℕ) → 0 < m → length a ≤ length b → list_all is_digit a ≡ true → list_all is_digit b ≡ true → decimal_from 0 a ≡ decimal_from m b → ⊥
unfolding decimal_from
lower m a [] some long da db e =
    let same : 0 ≡ m = (same_text 0 m a [] da db (omega (arith, long)) e).0 in
    omega (arith, same, some)
lower m a (d ∷ b) some long da db e = elim (le_or (length a) (length b)) [
  | inl shorter ↦ lower (10 * m + (d - 48)) a b (omega (arith, some)) shorter da (and_parts (is_digit d) (list_all is_digit b) db).1 e
  | inr longer ↦
      let same : 0 ≡ m = (same_text 0 m a (d ∷ b) da db (omega (arith, long, longer)) e).0 in
      omega (arith, same, some)
]

longer : (a b : List ℕ) → length a < length b → list_all is_digit a ≡ true → list_all is_digit b ≡ true → has_leading_zero b ≡ false
    → decimal_from 0 a ≡ decimal_from 0 b → ⊥
unfolding decimal_from
longer a [] long da db high e = omega (arith, long)
longer a (d ∷ b) long da db high e =
    let pb = and_parts (is_digit d) (list_all is_digit b) db in
    let range = digit_range d pb.0 in
    let other : d ≢ 48 = eqb-false d 48 high in
    lower (10 * 0 + (d - 48)) a b (omega (arith, range.0, other)) (omega (arith, long)) da pb.1 e

one_text : (a b : List ℕ) → list_all is_digit a ≡ true → list_all is_digit b ≡ true → has_leading_zero a ≡ false → has_leading_zero b ≡ false
    → decimal_from 0 a ≡ decimal_from 0 b → a ≡ b
one_text a b da db ha hb e = elim (le_or (length a) (length b)) [
  | inl up ↦ elim (le_or (length b) (length a)) [
    | inl down ↦ (same_text 0 0 a b da db (omega (arith, up, down)) e).1
    | inr short ↦ absurd (longer a b short da db hb e)
  ]
  | inr short ↦ absurd (longer b a short db da ha (sym e))
]

no_zero_leads : (text : List ℕ) → has_leading_zero (without_zeros text) ≡ false
unfolding without_zeros
no_zero_leads [] = refl
no_zero_leads (c ∷ text) = by (c == 48) refl (no_zero_leads text)
  where
    by : (b : Bool) → (c == 48) ≡ b → has_leading_zero (without_zeros text) ≡ false → has_leading_zero (cond b (without_zeros text) (c ∷ text)) ≡ false
    by true e so_far = so_far
    by false e so_far = e

still_digits : (text : List ℕ) → list_all is_digit text ≡ true → list_all is_digit (without_zeros text) ≡ true
unfolding without_zeros
still_digits [] e = e
still_digits (c ∷ text) e =
    cond_both (c == 48) (without_zeros text) (c ∷ text) (λ t. list_all is_digit t ≡ true)
    (λ _. still_digits text (and_parts (is_digit c) (list_all is_digit text) e).1) (λ _. e)

pub same_value : (text : List ℕ) → decimal_from 0 (without_zeros text) ≡ decimal_from 0 text
unfolding without_zeros decimal_from
same_value [] = refl
same_value (c ∷ text) = by (c == 48) refl (same_value text)
  where
    by : (b : Bool) → (c == 48) ≡ b → decimal_from 0 (without_zeros text) ≡ decimal_from 0 text
        → decimal_from 0 (cond b (without_zeros text) (c ∷ text)) ≡ decimal_from 0 (c ∷ text)
    by true e so_far =
        let none : 0 ≡ 10 * 0 + (c - 48) = omega (arith, eqb-true c 48 e) in
        so_far ∙ ap (λ n. decimal_from n text) none
    by false e so_far = refl

texts_agree : (a b : List ℕ) → list_all is_digit a ≡ true → list_all is_digit b ≡ true → decimal_from 0 a ≡ decimal_from 0 b → without_zeros a ≡ without_zeros b
texts_agree a b da db e =
    one_text (without_zeros a) (without_zeros b) (still_digits a da) (still_digits b db) (no_zero_leads a) (no_zero_leads b)
    (same_value a ∙ (e ∙ sym (same_value b)))

values_agree : (a b : List ℕ) → without_zeros a ≡ without_zeros b → decimal_from 0 a ≡ decimal_from 0 b
values_agree a b e = sym (same_value a) ∙ (ap (decimal_from 0) e ∙ same_value b)

-- ---- what stands among the names

pub sees : (names : List (List ℕ)) (source : List ℕ) (ts : List Token) (i : ℕ) (t : Token) (key : List ℕ) → slice_get ts i ≡ Some t →
    name_text source t ≡ Some key
    → (k : ℕ) × (number_of (names_from names source ts) key ≡ Some k)
unfolding names_from
sees names source [] i t key e h = absurd cc
sees names source (u ∷ us) zero t key e h =
    let same : u ≡ t = ap (λ o. unwrap_or o u) e in
    let named : name_text source u ≡ Some key = ap (name_text source) same ∙ h in
    let has = numbered names key in
    (has.0, ap (λ o. number_of (names_from (with_name names o) source us) key) named ∙ stays_from (with_key names key) source us key has.0 has.1)
sees names source (u ∷ us) (suc i) t key e h = sees (with_name names (name_text source u)) source us i t key e h

one_name : (names : List (List ℕ)) (a b : List ℕ) (k : ℕ) → number_of names a ≡ Some k → number_of names b ≡ Some k → a ≡ b
one_name names a b k e f =
    (bytes_decides a (get_or names k [])).0 (position-Some (bytes_eq a) names k [] e).1
    ∙ sym ((bytes_decides b (get_or names k [])).0 (position-Some (bytes_eq b) names k [] f).1)

-- ---- what is seen of a number

number_sort : (text : List ℕ) → list_all is_digit text ≡ true → sort_of kinds.Number text ≡ sorts.Digits (min (decimal_from 0 text) 65536)
unfolding sort_of
number_sort text e = ap (λ b. cond b (sorts.Digits (min (decimal_from 0 text) 65536)) (if is_one_bit text then sorts.Bit
    (slice_index text 3 ∈ "1") else sorts.Number)) e

digit_sort : (source : List ℕ) (t : Token) → IsDigits source t → token_sort source t ≡ sorts.Digits (min (value source t) 65536)
digit_sort source t d = ap (λ kind. sort_of kind (spelling source t)) d.number ∙ number_sort (spelling source t) d.digits

small_sort : (k n : ℕ) → n ≤ 65535 → numbered_sort k (sorts.Digits (min n 65536)) ≡ sorts.Digits n
small_sort k n h =
    let same : min n 65536 ≡ n = omega (arith, h) in
    let low : nat_lt 65535 n ≡ false = grind (arith, nat_tests) in
    ap (λ m. numbered_sort k (sorts.Digits m)) same ∙ ap (λ b. cond b (sorts.Digits (65536 + k)) (sorts.Digits n)) low

great_sort : (k n : ℕ) → 65535 < n → numbered_sort k (sorts.Digits (min n 65536)) ≡ sorts.Digits (65536 + k)
great_sort k n h =
    let same : min n 65536 ≡ 65536 = omega (arith, h) in
    ap (λ m. numbered_sort k (sorts.Digits m)) same

great_name : (source : List ℕ) (t : Token) → IsDigits source t → 65535 < value source t → name_text source t ≡ Some (without_zeros (spelling source t))
unfolding name_text
great_name source t d h =
    let same : min (value source t) 65536 ≡ 65536 = omega (arith, h) in
    ap (λ s. if is_name s then Some (spelling source t) else (if is_great s then Some (without_zeros (spelling source t)) else None))
    (digit_sort source t d ∙ ap (λ n. sorts.Digits n) same)

-- the number of a token among the names
abbrev pub place : List ℕ → List Token → Token → ℕ
place source tokens t = number_in (names_of source tokens) (name_text source t)

pub is_small : (source : List ℕ) (tokens : List Token) (t : Token) → IsDigits source t → value source t ≤ 65535
    → seen source tokens t ≡ sorts.Digits (value source t)
is_small source tokens t d h = ap (numbered_sort (place source tokens t)) (digit_sort source t d) ∙ small_sort (place source tokens t) (value source t) h

pub is_greater : (source : List ℕ) (tokens : List Token) (t : Token) → IsDigits source t → 65535 < value source t
    → seen source tokens t ≡ sorts.Digits (65536 + place source tokens t)
is_greater source tokens t d h = ap (numbered_sort (place source tokens t)) (digit_sort source t d) ∙ great_sort (place source tokens t) (value source t) h

abbrev digits_of : Sort → ℕ
digits_of (sorts.Digits n) = n
digits_of _ = 0

-- the place of a great number among the names
pub placed : (source : List ℕ) (tokens : List Token) (i : ℕ) (t : Token) → slice_get tokens i ≡ Some t → IsDigits source t → 65535 < value source t
    → number_of (names_of source tokens) (without_zeros (spelling source t)) ≡ Some (place source tokens t)
placed source tokens i t e d h =
    let name = great_name source t d h in
    let at = sees [] source tokens i t (without_zeros (spelling source t)) e name in
    let number : place source tokens t ≡ at.0 = ap (number_in (names_of source tokens)) name ∙ ap (λ o. unwrap_or o 0) at.1 in
    at.1 ∙ ap (λ k. Some k) (sym number)

told : (source : List ℕ) (tokens : List Token) (i j : ℕ) (s t : Token) → slice_get tokens i ≡ Some s → slice_get tokens j ≡ Some t → IsDigits source s
    → IsDigits source t
    → (value source s ≤ 65535) ⊎ (65535 < value source s) → (value source t ≤ 65535) ⊎ (65535 < value source t)
    → (seen source tokens s ≡ seen source tokens t) ↔ (value source s ≡ value source t)
told source tokens i j s t e f ds dt (inl a) (inl b) =
    let sa = is_small source tokens s ds a in
    let sb = is_small source tokens t dt b in
    (λ same. ap digits_of (sym sa ∙ (same ∙ sb)), λ same. sa ∙ (ap (λ n. sorts.Digits n) same ∙ sym sb))
told source tokens i j s t e f ds dt (inl a) (inr b) =
    let sa = is_small source tokens s ds a in
    let sb = is_greater source tokens t dt b in (
      λ same. let n : value source s ≡ 65536 + place source tokens t = ap digits_of (sym sa
          ∙ (same ∙ sb)) in absurd (omega (arith, n, a)),
      λ same. absurd (omega (arith, same, a, b)),
    )
told source tokens i j s t e f ds dt (inr a) (inl b) =
    let sa = is_greater source tokens s ds a in
    let sb = is_small source tokens t dt b in (
      λ same. let n : 65536 + place source tokens s ≡ value source t = ap digits_of (sym sa
          ∙ (same ∙ sb)) in absurd (omega (arith, n, b)),
      λ same. absurd (omega (arith, same, a, b)),
    )
told source tokens i j s t e f ds dt (inr a) (inr b) =
    let sa = is_greater source tokens s ds a in
    let sb = is_greater source tokens t dt b in
    let names = names_of source tokens in
    let forth : seen source tokens s ≡ seen source tokens t → value source s ≡ value source t =
    λ same.
    let sum : 65536 + place source tokens s ≡ 65536 + place source tokens t = ap digits_of (sym sa ∙ (same ∙ sb)) in
    let number : place source tokens s ≡ place source tokens t = omega (arith, sum) in
    values_agree (spelling source s) (spelling source t)
    (one_name names (without_zeros (spelling source s)) (without_zeros (spelling source t)) (place source tokens t)
    (placed source tokens i s e ds a ∙ ap (λ k. Some k) number) (placed source tokens j t f dt b)) in
    let back : value source s ≡ value source t → seen source tokens s ≡ seen source tokens t =
    λ same.
    let text = texts_agree (spelling source s) (spelling source t) ds.digits dt.digits same in
    let number : place source tokens s ≡ place source tokens t =
    ap (number_in names) (great_name source s ds a ∙ (ap (λ k. Some k) text ∙ sym (great_name source t dt b))) in
    sa ∙ (ap (λ k. sorts.Digits (65536 + k)) number ∙ sym sb) in
    (forth, back)

pub tells_apart : (source : List ℕ) (tokens : List Token) → TellsNumbersApart source tokens
tells_apart source tokens = record {
  small = λ t d h. is_small source tokens t d h;
  great = λ t d h. (65536 + place source tokens t, (omega arith, is_greater source tokens t d h));
  apart = λ i j s t e f ds dt. told source tokens i j s t e f ds dt (le_or (value source s) 65535) (le_or (value source t) 65535);
}
