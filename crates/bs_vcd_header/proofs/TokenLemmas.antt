-- The first word of a text.
use Rattle.std.proofs.Common.{◌≡◌, ℕ, suc, zero, ◌<◌, ◌≤◌, true, false, not, cond, List, [], ◌∷◌, length, take, drop, get_or, refl, arith, ap, sym, ◌∙◌}
use Rattle.std.specs.Prelude.{◌==◌}
use Rattle.std.proofs.lemmas.Bool.{true≢false}
use Rattle.bs_vcd_header.specs.Tokens.{VcdToken, is_white, line_behind, goes_on, onto_word, tokens_from}

-- white space is passed over
pub white_first : (line b : ℕ) (bs : List ℕ) → is_white b ≡ true → tokens_from line (b ∷ bs) ≡ tokens_from (line_behind line b) bs
white_first line b bs e = ap (λ t. cond t (tokens_from (line_behind line b) bs) (onto_word line b (goes_on bs) (tokens_from line bs))) e

-- a byte of a word
word_first : (line b : ℕ) (bs : List ℕ) → is_white b ≡ false → tokens_from line (b ∷ bs) ≡ onto_word line b (goes_on bs) (tokens_from line bs)
word_first line b bs e = ap (λ t. cond t (tokens_from (line_behind line b) bs) (onto_word line b (goes_on bs) (tokens_from line bs))) e

abbrev pub token : ℕ → List ℕ → VcdToken
token line text = record { line = line; text = text }

something_left : (rest : List ℕ) → (length rest == 0) ≡ false → 0 < length rest
something_left [] e = absurd (true≢false e)
something_left (b ∷ bs) e = omega arith

-- a text that begins with a word, up to its end
pub word_here : (line : ℕ) (bs : List ℕ) (at : ℕ) → 0 < at → at ≤ length bs → ((k : ℕ) → k < at → is_white (get_or bs k 0) ≡ false) →
    (at < length bs → is_white (get_or bs at 0) ≡ true) → tokens_from line bs ≡ token line (take at bs) ∷ tokens_from line (drop at bs)
word_here line [] at some le none here = absurd (omega (arith, some, le))
word_here line (b ∷ bs) zero some le none here = absurd (omega (arith, some))
word_here line (b ∷ []) (suc at) some le none here =
    let last : at ≡ 0 = omega (arith, le) in
    rw (last) (word_first line b [] (none 0 (omega arith)))
word_here line (b ∷ c ∷ cs) (suc zero) some le none here =
    word_first line b (c ∷ cs) (none 0 (omega arith))
    ∙ ap (λ t. onto_word line b (not t) (tokens_from line (c ∷ cs))) (here (omega arith))
word_here line (b ∷ c ∷ cs) (suc (suc at)) some le none here =
    word_first line b (c ∷ cs) (none 0 (omega arith))
    ∙ (ap (λ t. onto_word line b (not t) (tokens_from line (c ∷ cs))) (none 1 (omega arith))
    ∙ ap (onto_word line b true)
    (word_here line (c ∷ cs) (suc at) (omega arith) (omega (arith, le)) (λ k lt. none (suc k) (omega (arith, lt)))
    (λ lt. here (omega (arith, lt)))))

pub no_tokens : (line : ℕ) (bs : List ℕ) → length bs ≡ 0 → tokens_from line bs ≡ []
no_tokens line [] e = refl
no_tokens line (b ∷ bs) e = absurd (omega (arith, e))

-- a word is not empty where the text goes on at its first byte
pub word_some : (bs : List ℕ) (at : ℕ) → goes_on bs ≡ true → (at < length bs → is_white (get_or bs at 0) ≡ true) → 0 < at
word_some [] at on here = absurd (true≢false (sym on))
word_some (b ∷ bs) zero on here = absurd (true≢false (sym on ∙ ap not (here (omega arith))))
word_some (b ∷ bs) (suc at) on here = omega arith

-- the first word of a text, behind its white space
pub first_token : (line next : ℕ) (text rest word behind : List ℕ) (at : ℕ) → tokens_from line text ≡ tokens_from next rest →
    (0 < length rest → goes_on rest ≡ true) → (length rest == 0) ≡ false → at ≤ length rest →
    ((k : ℕ) → k < at → is_white (get_or rest k 0) ≡ false) → (at < length rest → is_white (get_or rest at 0) ≡ true) →
    word ≡ take at rest → behind ≡ drop at rest → tokens_from line text ≡ token next word ∷ tokens_from next behind
first_token line next text rest word behind at same on some le none here w b =
    let long : 0 < length rest = something_left rest some in
    same ∙ (word_here next rest at (word_some rest at (on long) here) le none here
    ∙ λ i. token next (sym w i) ∷ tokens_from next (sym b i))
