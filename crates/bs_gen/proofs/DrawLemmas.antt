-- Draws one after another.
use Rattle.std.proofs.Common.{◌≡◌, ℕ, zero, suc, ◌+◌, ◌%◌, refl, ap, ◌∙◌, arith}
use Rattle.rand_pcg.specs.Lcg.{Lcg, next_state, state_after}
use Rattle.rand_pcg.specs.Pcg.{multiplier_64, pcg32}
use Rattle.bs_gen.specs.Draws.{after, draw, pick}

-- what a draw gives
pub pick_is : (inside draws left : Lcg) (word n : ℕ) → inside ≡ draws → (word, left) ≡ pcg32 inside → word % n ≡ pick draws n
unfolding draw
pick_is inside draws left word n same e = ap (λ (p : ℕ × Lcg). p.0 % n) e ∙ ap (λ (d : Lcg). pick d n) same

-- what a draw leaves
pub left_is : (inside draws left : Lcg) (word : ℕ) → inside ≡ draws → (word, left) ≡ pcg32 inside → left ≡ after 1 draws
unfolding after state_after
left_is inside draws left word same e = ap (λ (p : ℕ × Lcg). p.1) e ∙ ap (after 1) same

state_after_sum : (w m p n k s : ℕ) → state_after w m p k (state_after w m p n s) ≡ state_after w m p (n + k) s
unfolding state_after
state_after_sum w m p zero k s = ap (λ (i : ℕ). state_after w m p i s) (let e : k ≡ 0 + k = omega arith in e)
state_after_sum w m p (suc n) k s =
    state_after_sum w m p n k (next_state w m p s)
    ∙ ap (λ (i : ℕ). state_after w m p i s) (let e : suc (n + k) ≡ suc n + k = omega arith in e)

-- no draws leave the draws as they are
pub after_none : (draws : Lcg) → draws ≡ after 0 draws
unfolding after state_after
after_none draws = refl

after_sum : (n k : ℕ) (draws : Lcg) → after k (after n draws) ≡ after (n + k) draws
unfolding after
after_sum n k draws =
    ap (λ (s : ℕ). record draws { state = s }) (state_after_sum 64 multiplier_64 draws.increment n k draws.state)

-- some draws, and then more
pub after_more : (n k all : ℕ) (draws then later : Lcg) → then ≡ after n draws → later ≡ after k then → n + k ≡ all → later ≡ after all draws
after_more n k all draws then later e g sum =
    g ∙ (ap (after k) e ∙ (after_sum n k draws ∙ ap (λ (i : ℕ). after i draws) sum))

-- two draws
pub after_two : (draws first second : Lcg) → first ≡ after 1 draws → second ≡ after 1 first → second ≡ after 2 draws
after_two draws first second e g = after_more 1 1 2 draws first second e g refl

-- three draws
pub after_three : (draws first second third : Lcg) → first ≡ after 1 draws → second ≡ after 1 first → third ≡ after 1 second → third ≡ after 3 draws
after_three draws first second third e g h = after_more 2 1 3 draws second third (after_two draws first second e g) h refl
