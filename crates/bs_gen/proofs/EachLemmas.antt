-- Pieces that are appended number by number.
use Rattle.std.proofs.Common.{◌≡◌, ℕ, suc, zero, ◌+◌, List, ◌++◌, ap, sym, ◌∙◌, arith, append_assoc}
use Rattle.std.specs.List.{flat_map, range_with_len}
use Rattle.std.proofs.lemmas.List.{append-nil}
use Rattle.rand_pcg.specs.Lcg.{Lcg}
use Rattle.bs_bits.proofs.RangeLemmas.{flat_more}
use Rattle.bs_gen.specs.Draws.{after}
use Rattle.bs_gen.specs.Each.{each}

each_more : (f : ℕ → List ℕ) (a n i m : ℕ) → a + n ≡ i → suc n ≡ m → each f a m ≡ each f a n ++ f i
unfolding each
each_more f a n i m at more =
    ap (λ (k : ℕ). flat_map f (range_with_len a k)) (sym more)
    ∙ (flat_more f a n ∙ ap (λ (k : ℕ). flat_map f (range_with_len a n) ++ f k) at)

-- nothing for no number
pub each_none : (f : ℕ → List ℕ) (a : ℕ) (old : List ℕ) → old ≡ old ++ each f a 0
unfolding each
each_none f a old = sym (append-nil old)

-- what a number appends
pub each_step : (f : ℕ → List ℕ) (a n i m : ℕ) (old before new : List ℕ) → before ≡ old ++ each f a n → new ≡ before ++ f i → a + n ≡ i → suc n ≡ m
    → new ≡ old ++ each f a m
each_step f a n i m old before new e g at more =
    g ∙ (ap (λ (t : List ℕ). t ++ f i) e ∙ (append_assoc old (each f a n) (f i) ∙ ap (λ (t : List ℕ). old ++ t) (sym (each_more f a n i m at more))))

-- the same, counted from 0
pub each_step0 : (f : ℕ → List ℕ) (i : ℕ) (old before new : List ℕ) → before ≡ old ++ each f 0 i → new ≡ before ++ f i → new ≡ old ++ each f 0 (i + 1)
each_step0 f i old before new e g = each_step f 0 i i (i + 1) old before new e g (omega arith) (omega arith)

-- what a number appends, where it is drawn
pub drawn_step : (f : Lcg → ℕ → List ℕ) (place : ℕ → ℕ) (i : ℕ) (draws now : Lcg) (old before new : List ℕ)
    → before ≡ old ++ each (λ j. f (after (place j) draws) j) 0 i → now ≡ after (place i) draws → new ≡ before ++ f now i
    → new ≡ old ++ each (λ j. f (after (place j) draws) j) 0 (i + 1)
drawn_step f place i draws now old before new e is g =
    each_step0 (λ j. f (after (place j) draws) j) i old before new e (g ∙ ap (λ (d : Lcg). before ++ f d i) is)
