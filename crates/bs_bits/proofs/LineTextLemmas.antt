-- Lines and words that are written are read again.
use Rattle.std.proofs.Common.{◌≡◌, ◌⊎◌, inl, inr, ℕ, ◌<◌, Bool, true, false, cond, ◌&&◌, List, [], ◌∷◌, ◌++◌, map, length, refl, arith, ap, ◌∙◌}
use Rattle.std.proofs.lemmas.List.{length-append}
use Rattle.std.specs.Prelude.{◌==◌, ◌^◌, nat_le, decimal}
use Rattle.std.specs.List.{AllByRecursion as Each, flat_map}
use Rattle.std.proofs.lemmas.Bool.{and_parts, eqb-true, leb-true, ne_eqb}
use Rattle.bs_bits.specs.Text.{bits_text, digit_of}
use Rattle.bs_bits.specs.Lines.{line, lines_of, pieces_of, words_of, onto_first, is_visible, is_digits, is_canonical}
use Rattle.bs_bits.proofs.NumberLemmas.{decimal_canonical}

-- a byte does not occur
abbrev pub Lacks : ℕ → List ℕ → Type 0
Lacks byte text = Each (λ b. (b == byte) ≡ false) text

pub lacks_append : (byte : ℕ) (a b : List ℕ) → Lacks byte a → Lacks byte b → Lacks byte (a ++ b)
lacks_append byte [] b ha hb = hb
lacks_append byte (x ∷ a) b ha hb = (ha.0, lacks_append byte a b ha.1 hb)

-- ---- lines

-- a line that is written is the first line
pub line_first : (a rest : List ℕ) → Lacks 10 a → lines_of (line a ++ rest) ≡ a ∷ lines_of rest
line_first [] rest h = refl
line_first (b ∷ bs) rest h =
    ap (λ t. cond t ([] ∷ lines_of (line bs ++ rest)) (onto_first b (lines_of (line bs ++ rest)))) h.0 ∙ ap (onto_first b) (line_first bs rest h.1)

-- and the first whole line
pub piece_first : (a rest : List ℕ) → Lacks 10 a → pieces_of (line a ++ rest) ≡ a ∷ pieces_of rest
piece_first [] rest h = refl
piece_first (b ∷ bs) rest h =
    ap (λ t. cond t ([] ∷ pieces_of (line bs ++ rest)) (onto_first b (pieces_of (line bs ++ rest)))) h.0
    ∙ ap (onto_first b) (piece_first bs rest h.1)

-- a text is its lines, each ended by a line feed, which the last one may want
pub lines_again : (text : List ℕ) → (text ≡ flat_map line (lines_of text)) ⊎ (line text ≡ flat_map line (lines_of text))
lines_again [] = inl refl
lines_again (b ∷ bs) = by (b == 10) refl (lines_of bs) (lines_again bs)
  where
    Again : List ℕ → List (List ℕ) → Type 0
    Again text lines = (text ≡ flat_map line lines) ⊎ (line text ≡ flat_map line lines)

    fed : (lines : List (List ℕ)) → b ≡ 10 → Again bs lines → Again (b ∷ bs) ([] ∷ lines)
    fed lines same (inl e) = inl (rw (same, e) refl)
    fed lines same (inr e) = inr (rw (same) (ap (λ t. 10 ∷ t) e))

    joined : (lines : List (List ℕ)) → Again bs lines → Again (b ∷ bs) (onto_first b lines)
    joined [] (inl e) = inr (rw (e) refl)
    joined [] (inr e) = absurd (omega (arith, ap length e, length-append bs (10 ∷ [])))
    joined (first ∷ others) (inl e) = inl (ap (λ t. b ∷ t) e)
    joined (first ∷ others) (inr e) = inr (ap (λ t. b ∷ t) e)

    by : (z : Bool) → (b == 10) ≡ z → (lines : List (List ℕ)) → Again bs lines → Again (b ∷ bs) (cond z ([] ∷ lines) (onto_first b lines))
    by true feed lines again = fed lines (eqb-true b 10 feed) again
    by false feed lines again = joined lines again

-- ---- bits

digit_lacks : (byte : ℕ) (b : Bool) → byte < 46 → (digit_of b == byte) ≡ false
digit_lacks byte false low = ne_eqb 48 byte (λ (same : 48 ≡ byte). omega (arith, same, low))
digit_lacks byte true low = ne_eqb 49 byte (λ (same : 49 ≡ byte). omega (arith, same, low))

all_digits_lack : (byte : ℕ) (bs : List Bool) → byte < 46 → Lacks byte (map digit_of bs)
all_digits_lack byte [] low = tt
all_digits_lack byte (b ∷ bs) low = (digit_lacks byte b low, all_digits_lack byte bs low)

-- the text of bits has no byte below `.`
pub bits_lack : (byte : ℕ) (bs : List Bool) → byte < 46 → Lacks byte (bits_text bs)
bits_lack byte [] low = (ne_eqb 46 byte (λ (same : 46 ≡ byte). omega (arith, same, low)), tt)
bits_lack byte (b ∷ bs) low = all_digits_lack byte (b ∷ bs) low

pub bits_lack_feed : (bs : List Bool) → Lacks 10 (bits_text bs)
bits_lack_feed bs = bits_lack 10 bs (omega arith)

-- ---- words

-- a word that a space ends is the first word
pub word_first : (a rest : List ℕ) → Lacks 32 a → words_of (a ++ 32 ∷ rest) ≡ a ∷ words_of rest
word_first [] rest h = refl
word_first (b ∷ bs) rest h =
    ap (λ t. cond t ([] ∷ words_of (bs ++ 32 ∷ rest)) (onto_first b (words_of (bs ++ 32 ∷ rest)))) h.0 ∙ ap (onto_first b) (word_first bs rest h.1)

pub word_only : (a : List ℕ) → Lacks 32 a → words_of a ≡ a ∷ []
word_only [] h = refl
word_only (b ∷ bs) h = ap (λ t. cond t ([] ∷ words_of bs) (onto_first b (words_of bs))) h.0 ∙ ap (onto_first b) (word_only bs h.1)

-- ---- names and numbers

-- what is visible has no byte below 33
pub visible_lacks : (byte : ℕ) (text : List ℕ) → byte < 33 → is_visible text ≡ true → Lacks byte text
visible_lacks byte [] low e = tt
visible_lacks byte (b ∷ bs) low e =
    let both = and_parts (nat_le 33 b && nat_le b 126) (is_visible bs) e in
    let range = and_parts (nat_le 33 b) (nat_le b 126) both.0 in
    (ne_eqb b byte (λ (same : b ≡ byte). omega (arith, leb-true 33 b range.0, same, low)), visible_lacks byte bs low both.1)

pub digits_lack : (byte : ℕ) (text : List ℕ) → byte < 48 → is_digits text ≡ true → Lacks byte text
digits_lack byte [] low e = tt
digits_lack byte (b ∷ bs) low e =
    let both = and_parts (nat_le 48 b && nat_le b 57) (is_digits bs) e in
    let range = and_parts (nat_le 48 b) (nat_le b 57) both.0 in
    (ne_eqb b byte (λ (same : b ≡ byte). omega (arith, leb-true 48 b range.0, same, low)), digits_lack byte bs low both.1)

pub canonical_digits : (text : List ℕ) → is_canonical text ≡ true → is_digits text ≡ true
canonical_digits [] e = cc
canonical_digits (d ∷ ds) e = (and_parts (is_digits (d ∷ ds)) _ e).0

-- a number in decimal has no byte below `0`
pub number_lacks : (byte n : ℕ) → byte < 48 → n < 2 ^ 64 → Lacks byte (decimal n)
number_lacks byte n low h = digits_lack byte (decimal n) low (canonical_digits (decimal n) (decimal_canonical n h))
