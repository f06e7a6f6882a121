-- The lines of a text that is written, one after another.
use Rattle.std.proofs.Common.{◌≡◌, ℕ, suc, zero, ◌+◌, ◌<◌, true, false, cond, List, [], ◌∷◌, length, take, drop, get_or, refl, sym, ◌∙◌, ap, subst, arith}
use Rattle.std.specs.Prelude.{◌==◌}
use Rattle.std.proofs.lemmas.List.{take_all, drop_all}
use Rattle.std.proofs.lemmas.Bool.{eqb-true}
use Rattle.bs_bits.specs.Lines.{onto_first}
use Rattle.bs_outside.specs.Delivery.{put_lines_of}

onto : (b : ℕ) (bs : List ℕ) → b == 10 ≡ false → put_lines_of (b ∷ bs) ≡ onto_first b (put_lines_of bs)
onto b bs e = ap (λ t. cond t ((10 ∷ []) ∷ put_lines_of bs) (onto_first b (put_lines_of bs))) e

-- a text with a line feed at a place, and none before it
first_line : (bs : List ℕ) (at : ℕ) → at < length bs → ((k : ℕ) → k < at → (get_or bs k 0 == 10) ≡ false) → (get_or bs at 0 == 10) ≡ true →
    put_lines_of bs ≡ take (suc at) bs ∷ put_lines_of (drop (suc at) bs)
first_line [] at h none here = absurd (omega arith)
first_line (b ∷ bs) zero h none here =
    ap (λ t. cond t ((10 ∷ []) ∷ put_lines_of bs) (onto_first b (put_lines_of bs))) here ∙ ap (λ (c : ℕ). (c ∷ []) ∷ put_lines_of bs) (sym (eqb-true b 10 here))
first_line (b ∷ bs) (suc at) h none here =
    onto b bs (none 0 (omega arith)) ∙ ap (onto_first b) (first_line bs at (omega arith) (λ k lt. none (suc k) (omega arith)) here)

-- a text without a line feed
only_line : (b : ℕ) (bs : List ℕ) → ((k : ℕ) → k < length (b ∷ bs) → (get_or (b ∷ bs) k 0 == 10) ≡ false) → put_lines_of (b ∷ bs) ≡ (b ∷ bs) ∷ []
only_line b [] none = onto b [] (none 0 (omega arith))
only_line b (c ∷ cs) none = onto b (c ∷ cs) (none 0 (omega arith)) ∙ ap (onto_first b) (only_line c cs (λ k lt. none (suc k) (omega arith)))

-- the first line ends at the first line feed, or with the text
pub line_at_feed : (bs : List ℕ) (at : ℕ) → at < length bs → ((k : ℕ) → k < at → (get_or bs k 0 == 10) ≡ false) → (get_or bs at 0 == 10) ≡ true →
    put_lines_of bs ≡ take (at + 1) bs ∷ put_lines_of (drop (at + 1) bs)
line_at_feed bs at h none here =
    let same : suc at ≡ at + 1 = omega arith in
    subst (λ (n : ℕ). put_lines_of bs ≡ take n bs ∷ put_lines_of (drop n bs)) same (first_line bs at h none here)

pub line_at_end : (bs : List ℕ) → 0 < length bs → ((k : ℕ) → k < length bs → (get_or bs k 0 == 10) ≡ false) →
    put_lines_of bs ≡ take (length bs) bs ∷ put_lines_of (drop (length bs) bs)
line_at_end [] some none = absurd (omega arith)
line_at_end (b ∷ bs) some none =
    only_line b bs none ∙ sym (rw (take_all (length (b ∷ bs)) (b ∷ bs) (omega arith), drop_all (length (b ∷ bs)) (b ∷ bs) (omega arith)) refl)
