-- The first place that does not go, as far as a loop has come.
use Rattle.std.proofs.Common.{◌≡◌, ℕ, zero, suc, ◌<◌, ◌+◌, List, [], ◌∷◌, ◌++◌, map, take, drop, length, get_or, Option, Some, None, refl, sym, ap, ◌∙◌}
use Rattle.std.specs.List.{flat_map}
use Rattle.std.proofs.lemmas.List.{take_more, drop_more, map-append}
use Rattle.bs_flat_meaning.specs.Reading.{first_of}

first_append : (xs ys : List (Option ℕ)) → first_of xs ≡ None → first_of (xs ++ ys) ≡ first_of ys
unfolding first_of
first_append [] ys e = refl
first_append (None ∷ xs) ys e = first_append xs ys e
first_append (Some n ∷ xs) ys e = absurd cc

first_one : (o : Option ℕ) → first_of (o ∷ []) ≡ o
unfolding first_of
first_one None = refl
first_one (Some n) = refl

first_ahead : (xs ys : List (Option ℕ)) (n : ℕ) → first_of xs ≡ Some n → first_of (xs ++ ys) ≡ Some n
unfolding first_of
first_ahead [] ys n e = absurd cc
first_ahead (None ∷ xs) ys n e = first_ahead xs ys n e
first_ahead (Some m ∷ xs) ys n e = e

halves : {X : Type 0} (xs : List X) (i : ℕ) → xs ≡ take i xs ++ drop i xs
halves [] zero = refl
halves [] (suc i) = refl
halves (x ∷ xs) zero = refl
halves (x ∷ xs) (suc i) = ap (λ l. x ∷ l) (halves xs i)

-- none so far, and none here
pub none_more : {X : Type 0} (f : X → Option ℕ) (xs : List X) (i : ℕ) (d : X) → i < length xs → first_of (map f (take i xs)) ≡ None →
    f (get_or xs i d) ≡ None → first_of (map f (take (i + 1) xs)) ≡ None
none_more f xs i d lt before here =
    ap (λ l. first_of (map f l)) (take_more xs i d lt)
    ∙ (ap first_of (map-append f (take i xs) (get_or xs i d ∷ []))
    ∙ (first_append (map f (take i xs)) (f (get_or xs i d) ∷ []) before ∙ (first_one (f (get_or xs i d)) ∙ here)))

-- none so far, and one here
pub first_here : {X : Type 0} (f : X → Option ℕ) (xs : List X) (i : ℕ) (d : X) (n : ℕ) → i < length xs → first_of (map f (take i xs)) ≡ None →
    f (get_or xs i d) ≡ Some n → first_of (map f xs) ≡ Some n
first_here f xs i d n lt before here =
    let rest = map f (drop (i + 1) xs) in
    ap (λ l. first_of (map f l)) (halves xs i ∙ ap (λ l. take i xs ++ l) (drop_more xs i d lt))
    ∙ (ap first_of (map-append f (take i xs) (get_or xs i d ∷ drop (i + 1) xs))
    ∙ (first_append (map f (take i xs)) (f (get_or xs i d) ∷ rest) before ∙ first_ahead (f (get_or xs i d) ∷ []) rest n (first_one (f (get_or xs i d)) ∙ here)))

-- the first of all is the first of the firsts
pub first_each : {X : Type 0} (f : X → List (Option ℕ)) (xs : List X) → first_of (flat_map f xs) ≡ first_of (map (λ x. first_of (f x)) xs)
unfolding first_of
first_each f [] = refl
first_each f (x ∷ xs) = by (first_of (f x)) refl (first_each f xs)
  where
    by : (o : Option ℕ) → first_of (f x) ≡ o → first_of (flat_map f xs) ≡ first_of (map (λ x. first_of (f x)) xs) →
        first_of (f x ++ flat_map f xs) ≡ first_of (first_of (f x) ∷ map (λ x. first_of (f x)) xs)
    by None e rest = first_append (f x) (flat_map f xs) e ∙ (rest ∙ sym (ap (λ o. first_of (o ∷ map (λ x. first_of (f x)) xs)) e))
    by (Some n) e rest = first_ahead (f x) (flat_map f xs) n e ∙ sym (ap (λ o. first_of (o ∷ map (λ x. first_of (f x)) xs)) e)
