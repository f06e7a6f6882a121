-- The words that ids and literals are, and a text as its words.
use Rattle.std.proofs.Common.{◌≡◌, ◌≢◌, ℕ, ◌<◌, ◌≤◌, ◌^◌, arith, Bool, true, false, not, ◌&&◌, ◌||◌, cond, List, [], ◌∷◌, ◌++◌, length, refl, sym, ap}
use Rattle.std.proofs.Common.{subst, ◌∙◌, Option, Some, None, eqb, get_or}
use Rattle.std.specs.Prelude.{◌==◌, nat_lt, nat_le, decimal, codes, MatchOption}
use Rattle.std.specs.List.{list_all, AllByRecursion}
use Rattle.std.proofs.lemmas.Bool.{and_parts, and_from, eqb-true, eqb-false, ne_eqb, ltb-true, lt-ltb, leb-true, le-leb, not-true}
use Rattle.std.proofs.lemmas.Fmt.{decimal_injective, first_decimal}
use Rattle.bs_bits.specs.Lines.{words_of, onto_first, number_in, number_of, digits_in, is_canonical, is_digits}
use Rattle.bs_bits.proofs.NumberLemmas.{canonical, not_canonical}
use Rattle.bs_clause.specs.declared.literal.TheConstants.{VARIABLE_LIMIT}
use Rattle.bs_clause.specs.Literal.{Literal, IsVariable}
use Rattle.bs_log.specs.LineReading.{from_one, id_in, variable_of, signed, literal_in, is_letter}
use Rattle.bs_log.specs.LineForms.{IsId, HasVariable}

-- ---- numbers

number_exact : (text : List ℕ) → MatchOption (number_in text) ((n : ℕ) → n < 2 ^ 64 → decimal n ≢ text) (λ n. decimal n ≡ text)
number_exact text = by (is_canonical text) refl
  where
    by : (b : Bool) → is_canonical text ≡ b → MatchOption (cond b (digits_in text) None) ((n : ℕ) → n < 2 ^ 64 → decimal n ≢ text) (λ n. decimal n ≡ text)
    by true e = canonical text (digits_in text) e refl
    by false e = not_canonical text e

pub number_text : (text : List ℕ) (n : ℕ) → number_in text ≡ Some n → decimal n ≡ text
number_text text n e = subst (λ (o : Option ℕ). MatchOption o ((m : ℕ) → m < 2 ^ 64 → decimal m ≢ text) (λ m. decimal m ≡ text)) e (number_exact text)

pub number_below : (text : List ℕ) (n : ℕ) → number_in text ≡ Some n → n < 2 ^ 64
number_below text n e = by (is_canonical text) (nat_lt (number_of text) (2 ^ 64)) refl e
  where
    by : (b c : Bool) → nat_lt (number_of text) (2 ^ 64) ≡ c →
        cond {A = Option ℕ} b (cond {A = Option ℕ} c (Some (number_of text)) None) None ≡ Some n → n < 2 ^ 64
    by true true small e = let same : number_of text ≡ n = cc in omega (arith, same, ltb-true (number_of text) (2 ^ 64) small)
    by true false small e = cc
    by false c small e = cc

number_of_decimal : (n : ℕ) → n < 2 ^ 64 → number_in (decimal n) ≡ Some n
number_of_decimal n h = by (number_in (decimal n)) refl
  where
    by : (o : Option ℕ) → number_in (decimal n) ≡ o → o ≡ Some n
    by None e =
        absurd (subst (λ (o : Option ℕ). MatchOption o ((m : ℕ) → m < 2 ^ 64 → decimal m ≢ decimal n) (λ m. decimal m ≡ decimal n)) e
        (number_exact (decimal n)) n h refl)
    by (Some m) e = ap (λ k. Some k) (decimal_injective m n (number_below (decimal n) m e) h (number_text (decimal n) m e))

number_digits : (w : List ℕ) (n : ℕ) → number_in w ≡ Some n → is_digits w ≡ true
number_digits w n e = by (is_canonical w) refl e
  where
    digits : (v : List ℕ) → is_canonical v ≡ true → is_digits v ≡ true
    digits [] h = cc
    digits (d ∷ ds) h = (and_parts (is_digits (d ∷ ds)) ((length ds == 0) || not (d == 48)) h).0

    by : (b : Bool) → is_canonical w ≡ b → cond {A = Option ℕ} b (digits_in w) None ≡ Some n → is_digits w ≡ true
    by true c e = digits w c
    by false c e = cc

-- ---- ids

id_from : (w : List ℕ) (m n : ℕ) (b : Bool) → number_in w ≡ Some m → eqb m 0 ≡ b → cond {A = Option ℕ} b None (Some m) ≡ Some n → IsId n × (decimal n ≡ w)
id_from w m n true is z e = cc
id_from w m n false is z e =
    let same : m ≡ n = cc in
    let some : m ≢ 0 = eqb-false m 0 z in
    subst (λ (k : ℕ). IsId k × (decimal k ≡ w)) same ((omega (arith, some), number_below w m is), number_text w m is)

pub id_is : (w : List ℕ) (n : ℕ) → id_in w ≡ Some n → IsId n × (decimal n ≡ w)
id_is w n e = by (number_in w) refl e
  where
    by : (o : Option ℕ) → number_in w ≡ o → from_one o ≡ Some n → IsId n × (decimal n ≡ w)
    by None is e = cc
    by (Some m) is e = id_from w m n (eqb m 0) is refl e

pub id_of_decimal : (n : ℕ) → IsId n → id_in (decimal n) ≡ Some n
id_of_decimal n h =
    let some : n ≢ 0 = λ z. omega (arith, h.0, z) in
    ap from_one (number_of_decimal n h.1) ∙ ap (λ b. cond {A = Option ℕ} b None (Some n)) (ne_eqb n 0 some)

-- ---- literals

abbrev pub literal_word : Literal → List ℕ
literal_word l = cond l.positive [] (codes "-") ++ decimal l.variable

variable_from : (w : List ℕ) (m n : ℕ) (b : Bool) → number_in w ≡ Some m → (nat_le 1 m && nat_lt m VARIABLE_LIMIT) ≡ b →
    cond {A = Option ℕ} b (Some m) None ≡ Some n → IsVariable n × (decimal n ≡ w)
variable_from w m n false is z e = cc
variable_from w m n true is z e =
    let same : m ≡ n = cc in
    let parts : (nat_le 1 m ≡ true) × (nat_lt m VARIABLE_LIMIT ≡ true) = and_parts (nat_le 1 m) (nat_lt m VARIABLE_LIMIT) z in
    subst (λ (k : ℕ). IsVariable k × (decimal k ≡ w)) same ((leb-true 1 m parts.0, ltb-true m VARIABLE_LIMIT parts.1), number_text w m is)

variable_is : (w : List ℕ) (n : ℕ) → variable_of (number_in w) ≡ Some n → IsVariable n × (decimal n ≡ w)
variable_is w n e = by (number_in w) refl e
  where
    by : (o : Option ℕ) → number_in w ≡ o → variable_of o ≡ Some n → IsVariable n × (decimal n ≡ w)
    by None is e = cc
    by (Some m) is e = variable_from w m n (nat_le 1 m && nat_lt m VARIABLE_LIMIT) is refl e

variable_of_decimal : (n : ℕ) → IsVariable n → variable_of (number_in (decimal n)) ≡ Some n
variable_of_decimal n h =
    ap variable_of (number_of_decimal n (let small = h.1 in omega (arith, small))) ∙
    ap (λ b. cond {A = Option ℕ} b (Some n) None) (and_from (nat_le 1 n) (nat_lt n VARIABLE_LIMIT) (le-leb 1 n h.0) (lt-ltb n VARIABLE_LIMIT h.1))

record IsSigned (s : Bool) (w : List ℕ) (l : Literal) : Type 0 where
  range : HasVariable l
  sign : l.positive ≡ s
  digits : decimal l.variable ≡ w

signed_is : (s : Bool) (w : List ℕ) (l : Literal) → signed s (variable_of (number_in w)) ≡ Some l → IsSigned s w l
signed_is s w l e = by (variable_of (number_in w)) refl e
  where
    by : (o : Option ℕ) → variable_of (number_in w) ≡ o → signed s o ≡ Some l → IsSigned s w l
    by None is e = cc
    by (Some v) is e =
        let x : Literal = record { variable = v; positive = s } in
        let same : x ≡ l = cc in
        let found : IsVariable v × (decimal v ≡ w) = variable_is w v is in
        let here : IsSigned s w x = record { range = found.0; sign = refl; digits = found.1 } in
        subst (IsSigned s w) same here

pub literal_is : (w : List ℕ) (l : Literal) → literal_in w ≡ Some l → HasVariable l × (literal_word l ≡ w)
literal_is [] l e = cc
literal_is (b ∷ bs) l e = by (eqb b 45) refl e
  where
    by : (t : Bool) → eqb b 45 ≡ t →
        cond {A = Option Literal} t (signed false (variable_of (number_in bs))) (signed true (variable_of (number_in (b ∷ bs)))) ≡ Some l →
        HasVariable l × (literal_word l ≡ b ∷ bs)
    by true minus e =
        let s : IsSigned false bs l = signed_is false bs l e in
        (s.range, ap (λ p. cond p [] (codes "-") ++ decimal l.variable) s.sign ∙ ap (λ ds. 45 ∷ ds) s.digits ∙ ap (λ c. c ∷ bs) (sym (eqb-true b 45 minus)))
    by false other e =
        let s : IsSigned true (b ∷ bs) l = signed_is true (b ∷ bs) l e in
        (s.range, ap (λ p. cond p [] (codes "-") ++ decimal l.variable) s.sign ∙ s.digits)

positive_in : (w : List ℕ) → 48 < get_or w 0 0 → literal_in w ≡ signed true (variable_of (number_in w))
positive_in [] h = absurd (omega arith)
positive_in (b ∷ bs) h =
    ap (λ t. cond {A = Option Literal} t (signed false (variable_of (number_in bs))) (signed true (variable_of (number_in (b ∷ bs)))))
    (ne_eqb b 45 (λ e. omega (arith, e, h)))

pub literal_of_word : (l : Literal) → HasVariable l → literal_in (literal_word l) ≡ Some l
literal_of_word l h = by l.positive refl
  where
    by : (s : Bool) → l.positive ≡ s → literal_in (cond s [] (codes "-") ++ decimal l.variable) ≡ Some l
    by true e =
        let same : record { variable = l.variable; positive = true } ≡ l = λ i. record { variable = l.variable; positive = sym e i } in
        positive_in (decimal l.variable) (first_decimal l.variable (let low = h.0 in omega (arith, low)) (let small = h.1 in omega (arith, small))) ∙
        ap (signed true) (variable_of_decimal l.variable h) ∙ ap (λ x. Some x) same
    by false e =
        let same : record { variable = l.variable; positive = false } ≡ l = λ i. record { variable = l.variable; positive = sym e i } in
        ap (signed false) (variable_of_decimal l.variable h) ∙ ap (λ x. Some x) same

-- ---- words without a space

abbrev pub IsWord : List ℕ → Type 0
IsWord w = list_all (λ b. not (eqb b 32)) w ≡ true

digits_word : (ds : List ℕ) → is_digits ds ≡ true → IsWord ds
digits_word [] h = refl
digits_word (d ∷ ds) h =
    let parts : (nat_le 48 d && nat_le d 57 ≡ true) × (is_digits ds ≡ true) = and_parts (nat_le 48 d && nat_le d 57) (is_digits ds) h in
    let low : 48 ≤ d = leb-true 48 d (and_parts (nat_le 48 d) (nat_le d 57) parts.0).0 in
    and_from (not (eqb d 32)) (list_all (λ b. not (eqb b 32)) ds) (ap not (ne_eqb d 32 (λ e. omega (arith, low, e)))) (digits_word ds parts.1)

pub id_word : (n : ℕ) → IsId n → IsWord (decimal n)
id_word n h = digits_word (decimal n) (number_digits (decimal n) n (number_of_decimal n h.1))

pub literal_is_word : (l : Literal) → HasVariable l → IsWord (literal_word l)
literal_is_word l h =
    by l.positive (digits_word (decimal l.variable)
    (number_digits (decimal l.variable) l.variable (number_of_decimal l.variable (let small = h.1 in omega (arith, small)))))
  where
    by : (s : Bool) → IsWord (decimal l.variable) → IsWord (cond s [] (codes "-") ++ decimal l.variable)
    by true w = w
    by false w = w

-- an id is no letter
pub no_letter : (c : ℕ) (n : ℕ) → 57 < c → IsId n → is_letter c (decimal n) ≡ false
no_letter c n high h = by (decimal n) (number_digits (decimal n) n (number_of_decimal n h.1))
  where
    by : (w : List ℕ) → is_digits w ≡ true → is_letter c w ≡ false
    by [] d = refl
    by (b ∷ []) d =
        let digit : (nat_le 48 b && nat_le b 57) ≡ true = (and_parts (nat_le 48 b && nat_le b 57) true d).0 in
        let low : b ≤ 57 = leb-true b 57 (and_parts (nat_le 48 b) (nat_le b 57) digit).1 in
        ne_eqb b c (λ e. omega (arith, low, high, e))
    by (b ∷ d ∷ ds) h = refl

-- ---- a text and its words

-- words with a space between each two
abbrev pub joined : List (List ℕ) → List ℕ
joined [] = []
joined (w ∷ []) = w
joined (w ∷ v ∷ ws) = w ++ 32 ∷ joined (v ∷ ws)

onto_joined : (b : ℕ) (w : List ℕ) (ws : List (List ℕ)) → joined ((b ∷ w) ∷ ws) ≡ b ∷ joined (w ∷ ws)
onto_joined b w [] = refl
onto_joined b w (v ∷ vs) = refl

first_onto : (b : ℕ) (ws : List (List ℕ)) → ws ≢ [] → joined (onto_first b ws) ≡ b ∷ joined ws
first_onto b [] some = absurd (some refl)
first_onto b (w ∷ ws) some = onto_joined b w ws

empty_first : (ws : List (List ℕ)) → ws ≢ [] → joined ([] ∷ ws) ≡ 32 ∷ joined ws
empty_first [] some = absurd (some refl)
empty_first (w ∷ ws) some = refl

onto_there : (b : ℕ) (ws : List (List ℕ)) → onto_first b ws ≢ []
onto_there b [] e = cc
onto_there b (w ∷ ws) e = cc

words_there : (text : List ℕ) → words_of text ≢ []
words_there [] e = cc
words_there (b ∷ bs) e = by (eqb b 32) e
  where
    by : (t : Bool) → cond t ([] ∷ words_of bs) (onto_first b (words_of bs)) ≢ []
    by true e = cc
    by false e = onto_there b (words_of bs) e

pub joined_words : (text : List ℕ) → joined (words_of text) ≡ text
joined_words [] = refl
joined_words (b ∷ bs) = by (eqb b 32) refl (words_there bs) (joined_words bs)
  where
    by : (t : Bool) → eqb b 32 ≡ t → words_of bs ≢ [] → joined (words_of bs) ≡ bs → joined (cond t ([] ∷ words_of bs) (onto_first b (words_of bs))) ≡ b ∷ bs
    by true space some rest = empty_first (words_of bs) some ∙ ap (λ r. 32 ∷ r) rest ∙ ap (λ c. c ∷ bs) (sym (eqb-true b 32 space))
    by false other some rest = first_onto b (words_of bs) some ∙ ap (λ r. b ∷ r) rest

word_then : (w t : List ℕ) → IsWord w → words_of (w ++ 32 ∷ t) ≡ w ∷ words_of t
word_then [] t h = refl
word_then (b ∷ bs) t h =
    let parts : (not (eqb b 32) ≡ true) × (IsWord bs) = and_parts (not (eqb b 32)) (list_all (λ c. not (eqb c 32)) bs) h in
    ap (λ c. cond c ([] ∷ words_of (bs ++ 32 ∷ t)) (onto_first b (words_of (bs ++ 32 ∷ t)))) (not-true (eqb b 32) parts.0)
    ∙ ap (onto_first b) (word_then bs t parts.1)

word_only : (w : List ℕ) → IsWord w → words_of w ≡ w ∷ []
word_only [] h = refl
word_only (b ∷ bs) h =
    let parts : (not (eqb b 32) ≡ true) × (IsWord bs) = and_parts (not (eqb b 32)) (list_all (λ c. not (eqb c 32)) bs) h in
    ap (λ c. cond c ([] ∷ words_of bs) (onto_first b (words_of bs))) (not-true (eqb b 32) parts.0) ∙ ap (onto_first b) (word_only bs parts.1)

pub words_joined : (w : List ℕ) (ws : List (List ℕ)) → AllByRecursion IsWord (w ∷ ws) → words_of (joined (w ∷ ws)) ≡ w ∷ ws
words_joined w [] h = word_only w h.0
words_joined w (v ∷ vs) h = word_then w (joined (v ∷ vs)) h.0 ∙ ap (λ r. w ∷ r) (words_joined v vs h.1)

pub joined_onto : (w : List ℕ) (ws : List (List ℕ)) → ws ≢ [] → joined (w ∷ ws) ≡ w ++ 32 ∷ joined ws
joined_onto w [] some = absurd (some refl)
joined_onto w (v ∷ vs) some = refl

pub ending : (xs : List (List ℕ)) (v : List ℕ) (vs : List (List ℕ)) → xs ++ v ∷ vs ≢ []
ending [] v vs e = cc
ending (x ∷ xs) v vs e = cc
