-- The word with a number.
use Rattle.std.proofs.Common.{◌≡◌, ℕ, zero, suc, ◌<◌, ◌≤◌, ◌-◌, List, [], ◌∷◌, length, map, get_or, refl, ap, sym, ◌∙◌, arith}
use Rattle.std.specs.Borrow.{Bor}
use Rattle.bs_inspect_seen.specs.Readings.{word_at}

there : (words : List (Bor (List ℕ))) (i : ℕ) (word : Bor (List ℕ)) → i < length words → word ≡ get_or words i word →
    word.now ≡ get_or (map (λ s. s.now) words) i []
there [] i word lt e = absurd (omega (arith, lt))
there (w ∷ words) zero word lt e = ap (λ (b : Bor (List ℕ)). b.now) e
there (w ∷ words) (suc i) word lt e = there words i word (omega (arith, lt)) e

past : (words : List (Bor (List ℕ))) (i : ℕ) → length words ≤ i → [] ≡ get_or (map (λ s. s.now) words) i []
past [] i le = refl
past (w ∷ words) zero le = absurd (omega (arith, le))
past (w ∷ words) (suc i) le = past words i (omega (arith, le))

pub word_there : (words : List (Bor (List ℕ))) (number : ℕ) (word : Bor (List ℕ)) → number - 1 < length words → word ≡ get_or words (number - 1) word →
    word.now ≡ word_at (map (λ s. s.now) words) number
word_there words number word lt e = there words (number - 1) word lt e

pub word_past : (words : List (Bor (List ℕ))) (number : ℕ) → length words ≤ number - 1 → [] ≡ word_at (map (λ s. s.now) words) number
word_past words number le = past words (number - 1) le
