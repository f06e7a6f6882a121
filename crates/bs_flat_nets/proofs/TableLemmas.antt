-- Tables that are filled along an order, and what their bounded sums and heights say.
use Rattle.std.proofs.Common.{◌≡◌, ℕ, ◌<◌, ◌+◌, max, List, [], ◌∷◌, ◌++◌, length, get_or, take, refl, arith, ap, ◌∙◌}
use Rattle.std.proofs.lemmas.List.{take_more}
use Rattle.bs_flat_meaning.specs.Counts.{sum_of, tallest}
use Rattle.bs_flat_meaning.proofs.CountLemmas.{sum_append}

-- ---- one member more

tallest_append : {A : Type 0} (f : A → ℕ) (xs ys : List A) → tallest f (xs ++ ys) ≡ max (tallest f xs) (tallest f ys)
unfolding tallest
tallest_append f [] ys = omega arith
tallest_append f (x ∷ xs) ys = let rest = tallest_append f xs ys in omega (arith, rest)

tallest_one : {A : Type 0} (f : A → ℕ) (x : A) → tallest f (x ∷ []) ≡ 1 + f x
unfolding tallest
tallest_one f x = omega arith

pub tallest_more : {A : Type 0} (f : A → ℕ) (xs : List A) (i : ℕ) (d : A) → i < length xs →
    tallest f (take (i + 1) xs) ≡ max (tallest f (take i xs)) (1 + f (get_or xs i d))
tallest_more f xs i d lt =
    ap (tallest f) (take_more xs i d lt)
    ∙ (tallest_append f (take i xs) (get_or xs i d ∷ []) ∙ ap (max (tallest f (take i xs))) (tallest_one f (get_or xs i d)))

pub tallest_none : {A : Type 0} (f : A → ℕ) → tallest f [] ≡ 0
unfolding tallest
tallest_none f = refl

sum_one : {A : Type 0} (f : A → ℕ) (x : A) → sum_of f (x ∷ []) ≡ f x
unfolding sum_of
sum_one f x = omega arith

pub sum_more : {A : Type 0} (f : A → ℕ) (xs : List A) (i : ℕ) (d : A) → i < length xs →
    sum_of f (take (i + 1) xs) ≡ sum_of f (take i xs) + f (get_or xs i d)
sum_more f xs i d lt =
    ap (sum_of f) (take_more xs i d lt)
    ∙ (sum_append f (take i xs) (get_or xs i d ∷ []) ∙ ap (λ n. sum_of f (take i xs) + n) (sum_one f (get_or xs i d)))

pub sum_none : {A : Type 0} (f : A → ℕ) → sum_of f [] ≡ 0
unfolding sum_of
sum_none f = refl
