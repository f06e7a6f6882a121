-- The words of a line of a signature file.
use Rattle.std.proofs.Common.{◌≡◌, ℕ, suc, ◌≤◌, Bool, true, false, cond, ◌&&◌, ◌||◌, List, [], ◌∷◌, length, arith, ap, sym, ◌∙◌, Option, Some, None}
use Rattle.std.specs.Prelude.{◌==◌, codes, nat_le}
use Rattle.std.specs.List.{list_all}
use Rattle.std.specs.Str.{bytes_eq}
use Rattle.std.proofs.lemmas.Bool.{ne_eqb, le-leb}
use Rattle.bs_bits.specs.Lines.{words_of, onto_first, is_name}
use Rattle.bs_stim.proofs.HeadLemmas.{some_word}
use Rattle.bs_scan.specs.ChoiceText.{is_item}
use Rattle.bs_scan.specs.Reading.{words_left}

-- no word is left
pub single : (ws : List (List ℕ)) (w : List ℕ) (o : Option (List ℕ)) → ws ≡ w ∷ words_left o → o ≡ None → true ≡ (length ws == 1)
single ws w o e none = sym (ap (λ l. length l == 1) (e ∙ ap (λ o. w ∷ words_left o) none))

-- a word is left
pub several : (ws : List (List ℕ)) (w : List ℕ) (o : Option (List ℕ)) (text : List ℕ) → ws ≡ w ∷ words_left o → o ≡ Some text → false ≡ (length ws == 1)
several ws w o text e some =
    let s = some_word text in
    let two : length ws ≡ suc (suc (length s.1)) = ap length (e ∙ (ap (λ o. w ∷ words_left o) some ∙ ap (λ ws. w ∷ ws) s.2)) in
    sym (ne_eqb (length ws) 1 (λ (one : length ws ≡ 1). omega (arith, one, two)))

-- there is a word at least
pub some_words : (text : List ℕ) → true ≡ nat_le 1 (length (words_of text))
some_words text =
    let s = some_word text in
    let more : length (words_of text) ≡ suc (length s.1) = ap length s.2 in
    sym (le-leb 1 (length (words_of text)) (omega (arith, more)))

-- a line has at most one word more than bytes
pub words_within : (text : List ℕ) → length (words_of text) ≤ suc (length text)
words_within [] = omega arith
words_within (b ∷ bs) = by (b == 32) (words_of bs) (words_within bs)
  where
    by : (z : Bool) (ws : List (List ℕ)) → length ws ≤ suc (length bs) → length (cond z ([] ∷ ws) (onto_first b ws)) ≤ suc (suc (length bs))
    by true ws h = omega arith
    by false [] h = omega arith
    by false (w ∷ ws) h = omega arith

-- the words behind the first are no more than the line's bytes
pub short_behind : (line names w : List ℕ) → words_of line ≡ w ∷ words_of names → length (words_of names) ≤ length line
short_behind line names w e =
    let one_more : length (words_of line) ≡ suc (length (words_of names)) = ap length e in
    omega (arith, one_more, words_within line)

-- `xor` and names are an item
pub any_item : (word : List ℕ) (text : List ℕ) (r : Bool) → list_all is_name (words_of text) ≡ true → bytes_eq word (codes "xor") ≡ true → r ≡ true →
    r ≡ is_item word (words_of text)
any_item word text r named any e =
    e
    ∙ sym (ap (λ b. b && ((bytes_eq word (codes "xor") && nat_le 1 (length (words_of text))) || (bytes_eq word
    (codes "bit") && (length (words_of text) == 1)))) named
    ∙ (ap (λ b. (b && nat_le 1 (length (words_of text))) || (bytes_eq word (codes "bit") && (length (words_of text) == 1))) any
    ∙ ap (λ b. b || (bytes_eq word (codes "bit") && (length (words_of text) == 1))) (sym (some_words text))))
