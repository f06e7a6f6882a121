-- Digits as a number that stops at a bound.
use Rattle.std.proofs.Common.{◌≡◌, ℕ, ◌+◌, ◌-◌, ◌*◌, ◌<◌, ◌≤◌, List, [], ◌∷◌, length, get_or, drop, min, refl, sym, ap, ◌∙◌, arith}
use Rattle.std.proofs.lemmas.List.{at_drop_more, drop_all}
use Rattle.bs_lex.specs.Lexemes.{decimal_from}

-- one digit after numbers that are the same up to the bound
same_step : (k a b d : ℕ) → min a k ≡ min b k → min (10 * a + d) k ≡ min (10 * b + d) k
same_step k a b d e = omega (arith, e)

same_digits : (k a b : ℕ) (text : List ℕ) → min a k ≡ min b k → min (decimal_from a text) k ≡ min (decimal_from b text) k
unfolding decimal_from
same_digits k a b [] e = e
same_digits k a b (c ∷ text) e = same_digits k (10 * a + (c - 48)) (10 * b + (c - 48)) text (same_step k a b (c - 48) e)

bounded : (n k : ℕ) → min (min n k) k ≡ min n k
bounded n k = omega arith

one_more : (n c k : ℕ) (text : List ℕ) → min (decimal_from (min (10 * n + (c - 48)) k) text) k ≡ min (decimal_from n (c ∷ text)) k
unfolding decimal_from
one_more n c k text = same_digits k (min (10 * n + (c - 48)) k) (10 * n + (c - 48)) text (bounded (10 * n + (c - 48)) k)

-- the digit at a place
pub next_digit : (digits : List ℕ) (i n c d k total : ℕ) → i < length digits → c ≡ get_or digits i d → min (decimal_from n (drop i digits)) k ≡ total
    → min (decimal_from (min (10 * n + (c - 48)) k) (drop (i + 1) digits)) k ≡ total
next_digit digits i n c d k total h is so_far =
    one_more n c k (drop (i + 1) digits)
    ∙ (ap (λ d. min (decimal_from n (d ∷ drop (i + 1) digits)) k) is
    ∙ (sym (at_drop_more (λ text. min (decimal_from n text) k) digits i d h) ∙ so_far))

no_digits : (n : ℕ) → decimal_from n [] ≡ n
unfolding decimal_from
no_digits n = refl

pub last_digit : (digits : List ℕ) (i n k total : ℕ) → length digits ≤ i → n ≤ k → min (decimal_from n (drop i digits)) k ≡ total → n ≡ total
last_digit digits i n k total h low so_far =
    let all : decimal_from n (drop i digits) ≡ n = ap (decimal_from n) (drop_all i digits h) ∙ no_digits n in
    let same : min n k ≡ total = ap (λ m. min m k) (sym all) ∙ so_far in
    omega (arith, same, low)
