-- The whole lines of a text.
use Rattle.std.proofs.Common.{◌≡◌, ℕ, suc, zero, ◌<◌, ◌≤◌, ◌-◌, true, false, cond, List, [], ◌∷◌, length, take, drop, get_or, refl, arith, ap, ◌∙◌}
use Rattle.std.specs.Prelude.{◌==◌}
use Rattle.std.proofs.lemmas.List.{take_all, length-drop}
use Rattle.bs_bits.specs.Lines.{onto_first, pieces_of}
use Rattle.bs_bits.proofs.LineLemmas.{drop_next, nothing_left, something_left}

onto : (b : ℕ) (bs : List ℕ) → b == 10 ≡ false → pieces_of (b ∷ bs) ≡ onto_first b (pieces_of bs)
onto b bs e = ap (λ t. cond t ([] ∷ pieces_of bs) (onto_first b (pieces_of bs))) e

-- a text with a line feed at a place, and none before it
first_piece : (bs : List ℕ) (at : ℕ) → at < length bs → ((k : ℕ) → k < at → (get_or bs k 0 == 10) ≡ false) → (get_or bs at 0 == 10) ≡ true →
    pieces_of bs ≡ take at bs ∷ pieces_of (drop (suc at) bs)
first_piece [] at h none here = absurd (omega arith)
first_piece (b ∷ bs) zero h none here = ap (λ t. cond t ([] ∷ pieces_of bs) (onto_first b (pieces_of bs))) here
first_piece (b ∷ bs) (suc at) h none here =
    onto b bs (none 0 (omega arith)) ∙ ap (onto_first b) (first_piece bs at (omega arith) (λ k lt. none (suc k) (omega arith)) here)

-- a text without a line feed
only_piece : (bs : List ℕ) → ((k : ℕ) → k < length bs → (get_or bs k 0 == 10) ≡ false) → pieces_of bs ≡ bs ∷ []
only_piece [] none = refl
only_piece (b ∷ bs) none = onto b bs (none 0 (omega arith)) ∙ ap (onto_first b) (only_piece bs (λ k lt. none (suc k) (omega arith)))

-- cut where no byte is left
pub piece_at_end : (bs rest : List ℕ) (n : ℕ) → n ≤ length bs → ((k : ℕ) → k < n → (get_or bs k 0 == 10) ≡ false) → rest ≡ drop n bs →
    (length rest == 0) ≡ true → pieces_of bs ≡ bs ∷ []
piece_at_end bs rest n le none r empty =
    let no_rest : rest ≡ [] = nothing_left rest empty in
    only_piece bs (λ k lt. none k (omega (arith, length-drop n bs, ap length r, ap length no_rest, le, lt)))

-- cut at a line feed
pub piece_at_feed : (bs front rest : List ℕ) (n : ℕ) → n ≤ length bs → ((k : ℕ) → k < n → (get_or bs k 0 == 10) ≡ false) →
    (n < length bs → (get_or bs n 0 == 10) ≡ true) →
    front ≡ take n bs → rest ≡ drop n bs → (length rest == 0) ≡ false →
    pieces_of bs ≡ front ∷ pieces_of (take (length rest - 1) (drop 1 rest))
piece_at_feed bs front rest n le none here f r some =
    let lt : n < length bs = omega (arith, length-drop n bs, ap length r, something_left rest some) in
    let whole : take (length rest - 1) (drop 1 rest) ≡ drop 1 rest = take_all (length rest - 1) (drop 1 rest) (omega (arith, length-drop 1 rest)) in
    let at_rest : drop 1 rest ≡ drop (suc n) bs = ap (drop 1) r ∙ drop_next n bs in
    rw (whole, at_rest, f) (first_piece bs n lt none (here lt))
