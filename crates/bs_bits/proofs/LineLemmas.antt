-- The first line of a text, and the first word of a line.
use Rattle.std.proofs.Common.{◌≡◌, ℕ, suc, zero, ◌<◌, ◌≤◌, ◌-◌, true, false, cond, List, [], ◌∷◌, length, take, drop, get_or, refl, arith, ap, ◌∙◌}
use Rattle.std.specs.Prelude.{◌==◌}
use Rattle.std.proofs.lemmas.Bool.{true≢false, eqb-true}
use Rattle.std.proofs.lemmas.List.{take_all, length-drop}
use Rattle.bs_bits.specs.Lines.{lines_of, onto_first, words_of}

-- a byte that is no line feed goes onto the first line
onto : (b : ℕ) (bs : List ℕ) → b == 10 ≡ false → lines_of (b ∷ bs) ≡ onto_first b (lines_of bs)
onto b bs e = ap (λ t. cond t ([] ∷ lines_of bs) (onto_first b (lines_of bs))) e

-- a text with a line feed at a place, and none before it
pub first_line : (bs : List ℕ) (at : ℕ) → at < length bs → ((k : ℕ) → k < at → (get_or bs k 0 == 10) ≡ false) → (get_or bs at 0 == 10) ≡ true →
    lines_of bs ≡ take at bs ∷ lines_of (drop (suc at) bs)
first_line [] at h none here = absurd (omega arith)
first_line (b ∷ bs) zero h none here = ap (λ t. cond t ([] ∷ lines_of bs) (onto_first b (lines_of bs))) here
first_line (b ∷ bs) (suc at) h none here =
    onto b bs (none 0 (omega arith)) ∙ ap (onto_first b) (first_line bs at (omega arith) (λ k lt. none (suc k) (omega arith)) here)

-- a text without a line feed
pub only_line : (b : ℕ) (bs : List ℕ) → ((k : ℕ) → k < length (b ∷ bs) → (get_or (b ∷ bs) k 0 == 10) ≡ false) → lines_of (b ∷ bs) ≡ (b ∷ bs) ∷ []
only_line b [] none = onto b [] (none 0 (omega arith))
only_line b (c ∷ cs) none = onto b (c ∷ cs) (none 0 (omega arith)) ∙ ap (onto_first b) (only_line c cs (λ k lt. none (suc k) (omega arith)))

pub drop_next : (n : ℕ) (bs : List ℕ) → drop 1 (drop n bs) ≡ drop (suc n) bs
drop_next zero bs = refl
drop_next (suc n) [] = refl
drop_next (suc n) (b ∷ bs) = drop_next n bs

pub nothing_left : (rest : List ℕ) → (length rest == 0) ≡ true → rest ≡ []
nothing_left [] e = refl
nothing_left (b ∷ bs) e = let none : length (b ∷ bs) ≡ 0 = eqb-true _ _ e in absurd (omega arith)

pub something_left : (rest : List ℕ) → (length rest == 0) ≡ false → 0 < length rest
something_left [] e = absurd (true≢false e)
something_left (b ∷ bs) e = omega arith

-- cut where no byte is left
pub cut_at_end : (bs front rest : List ℕ) (n : ℕ) → n ≤ length bs → ((k : ℕ) → k < n → (get_or bs k 0 == 10) ≡ false) → front ≡ take n bs →
    rest ≡ drop n bs → (length bs == 0) ≡ false → (length rest == 0) ≡ true →
    lines_of bs ≡ front ∷ lines_of rest
cut_at_end [] front rest n le none f r some empty = absurd (true≢false some)
cut_at_end (b ∷ bs) front rest n le none f r some empty =
    let no_rest : rest ≡ [] = nothing_left rest empty in
    let all : n ≡ length (b ∷ bs) = omega (arith, length-drop n (b ∷ bs), ap length r, ap length no_rest) in
    let whole : take n (b ∷ bs) ≡ b ∷ bs = take_all n (b ∷ bs) (omega arith) in
    rw (no_rest, f, whole) (only_line b bs (λ k lt. none k (omega arith)))

-- cut at a line feed
pub cut_at_feed : (bs front rest : List ℕ) (n : ℕ) → n ≤ length bs → ((k : ℕ) → k < n → (get_or bs k 0 == 10) ≡ false) →
    (n < length bs → (get_or bs n 0 == 10) ≡ true) →
    front ≡ take n bs → rest ≡ drop n bs → (length rest == 0) ≡ false →
    lines_of bs ≡ front ∷ lines_of (take (length rest - 1) (drop 1 rest))
cut_at_feed bs front rest n le none here f r some =
    let lt : n < length bs = omega (arith, length-drop n bs, ap length r, something_left rest some) in
    let whole : take (length rest - 1) (drop 1 rest) ≡ drop 1 rest = take_all (length rest - 1) (drop 1 rest) (omega (arith, length-drop 1 rest)) in
    let behind : drop 1 rest ≡ drop (suc n) bs = ap (drop 1) r ∙ drop_next n bs in
    rw (whole, behind, f) (first_line bs n lt none (here lt))

-- ---- the first word of a line

onto_word : (b : ℕ) (bs : List ℕ) → b == 32 ≡ false → words_of (b ∷ bs) ≡ onto_first b (words_of bs)
onto_word b bs e = ap (λ t. cond t ([] ∷ words_of bs) (onto_first b (words_of bs))) e

-- a line with a space at a place, and none before it
first_word : (bs : List ℕ) (at : ℕ) → at < length bs → ((k : ℕ) → k < at → (get_or bs k 0 == 32) ≡ false) → (get_or bs at 0 == 32) ≡ true →
    words_of bs ≡ take at bs ∷ words_of (drop (suc at) bs)
first_word [] at h none here = absurd (omega arith)
first_word (b ∷ bs) zero h none here = ap (λ t. cond t ([] ∷ words_of bs) (onto_first b (words_of bs))) here
first_word (b ∷ bs) (suc at) h none here =
    onto_word b bs (none 0 (omega arith)) ∙ ap (onto_first b) (first_word bs at (omega arith) (λ k lt. none (suc k) (omega arith)) here)

-- a line without a space
only_word : (bs : List ℕ) → ((k : ℕ) → k < length bs → (get_or bs k 0 == 32) ≡ false) → words_of bs ≡ bs ∷ []
only_word [] none = refl
only_word (b ∷ bs) none = onto_word b bs (none 0 (omega arith)) ∙ ap (onto_first b) (only_word bs (λ k lt. none (suc k) (omega arith)))

-- cut where no byte is left
pub word_at_end : (bs front rest : List ℕ) (n : ℕ) → n ≤ length bs → ((k : ℕ) → k < n → (get_or bs k 0 == 32) ≡ false) → front ≡ take n bs →
    rest ≡ drop n bs → (length rest == 0) ≡ true →
    words_of bs ≡ front ∷ []
word_at_end bs front rest n le none f r empty =
    let no_rest : rest ≡ [] = nothing_left rest empty in
    let all : n ≡ length bs = omega (arith, length-drop n bs, ap length r, ap length no_rest) in
    let whole : take n bs ≡ bs = take_all n bs (omega arith) in
    rw (f, whole) (only_word bs (λ k lt. none k (omega arith)))

-- cut at a space
pub word_at_space : (bs front rest : List ℕ) (n : ℕ) → n ≤ length bs → ((k : ℕ) → k < n → (get_or bs k 0 == 32) ≡ false) →
    (n < length bs → (get_or bs n 0 == 32) ≡ true) →
    front ≡ take n bs → rest ≡ drop n bs → (length rest == 0) ≡ false →
    words_of bs ≡ front ∷ words_of (take (length rest - 1) (drop 1 rest))
word_at_space bs front rest n le none here f r some =
    let lt : n < length bs = omega (arith, length-drop n bs, ap length r, something_left rest some) in
    let whole : take (length rest - 1) (drop 1 rest) ≡ drop 1 rest = take_all (length rest - 1) (drop 1 rest) (omega (arith, length-drop 1 rest)) in
    let behind : drop 1 rest ≡ drop (suc n) bs = ap (drop 1) r ∙ drop_next n bs in
    rw (whole, behind, f) (first_word bs n lt none (here lt))
