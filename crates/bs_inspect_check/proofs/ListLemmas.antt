-- The first of a list that passes a test, and those before it, where one more stands at the end.
use Rattle.std.proofs.Common.{◌≡◌, ◌+◌, Bool, true, false, cond, not, List, [], ◌∷◌, ◌++◌, length, take, filter, take_while, refl, ap, sym, ◌∙◌}
use Rattle.std.specs.Prelude.{◌==◌}
use Rattle.std.proofs.lemmas.Bool.{false≢true}
use Rattle.std.proofs.lemmas.List.Elements.{filter-append}
use Rattle.std.proofs.lemmas.List.Sums.{take_while-cons}

module _ {X : Type 0} (p : X → Bool) where
  -- the first that passes, if one does
  abbrev pub first : List X → List X
  first xs = take 1 (filter p xs)

  abbrev pub none_passes : List X → Bool
  none_passes xs = length (first xs) == 0

  abbrev fails : X → Bool
  fails x = not (p x)

  -- those before it
  abbrev pub before_first : List X → List X
  before_first xs = take_while fails xs

  one_at_most : (b : Bool) (x : X) → take 1 (cond b (x ∷ []) []) ≡ cond b (x ∷ []) []
  one_at_most true x = refl
  one_at_most false x = refl

  first_of : (b : Bool) (x : X) (ys : List X) →
      take 1 (ys ++ cond b (x ∷ []) []) ≡ cond (length (take 1 ys) == 0) (cond b (x ∷ []) []) (take 1 ys)
  first_of b x [] = one_at_most b x
  first_of b x (y ∷ ys) = refl

  pub first_push : (xs : List X) (x : X) →
      take 1 (filter p (xs ++ x ∷ [])) ≡ cond (none_passes xs) (cond (p x) (x ∷ []) []) (take 1 (filter p xs))
  first_push xs x = ap (take 1) (filter-append p xs (x ∷ [])) ∙ first_of (p x) x (filter p xs)

  put_in : (q : Bool) (y : X) (us vs : List X) → y ∷ cond q us vs ≡ cond q (y ∷ us) (y ∷ vs)
  put_in true y us vs = refl
  put_in false y us vs = refl

  last_alone : (b : Bool) (x : X) → take (cond (not b) (1 + 0) 0) (x ∷ []) ≡ cond b [] (x ∷ [])
  last_alone true x = refl
  last_alone false x = refl

  step : (b : Bool) (y x : X) (c : Bool) (more own passing : List X) →
      more ≡ cond (length (take 1 passing) == 0) (own ++ cond c [] (x ∷ [])) own →
      cond (not b) (y ∷ more) []
      ≡ cond (length (take 1 (cond b (y ∷ passing) passing)) == 0) (cond (not b) (y ∷ own) [] ++ cond c [] (x ∷ [])) (cond (not b) (y ∷ own) [])
  step true y x c more own passing e = refl
  step false y x c more own passing e =
      ap (λ (l : List X). y ∷ l) e ∙ put_in (length (take 1 passing) == 0) y (own ++ cond c [] (x ∷ [])) own

  pub before_push : (xs : List X) (x : X) →
      before_first (xs ++ x ∷ []) ≡ cond (none_passes xs) (before_first xs ++ cond (p x) [] (x ∷ [])) (before_first xs)
  before_push [] x = last_alone (p x) x
  before_push (y ∷ xs) x =
      take_while-cons fails y (xs ++ x ∷ [])
      ∙ (step (p y) y x (p x) (before_first (xs ++ x ∷ [])) (before_first xs) (filter p xs) (before_push xs x)
      ∙ ap (λ (l : List X). cond (none_passes (y ∷ xs)) (l ++ cond (p x) [] (x ∷ [])) l) (sym (take_while-cons fails y xs)))

  all_by : (b : Bool) (y : X) (own xs passing : List X) → (length (take 1 passing) == 0 ≡ true → own ≡ xs) →
      length (take 1 (cond b (y ∷ passing) passing)) == 0 ≡ true → cond (not b) (y ∷ own) [] ≡ y ∷ xs
  all_by true y own xs passing h e = absurd (false≢true e)
  all_by false y own xs passing h e = ap (λ (l : List X). y ∷ l) (h e)

  -- where none passes, all stand before the first one
  pub before_all : (xs : List X) → none_passes xs ≡ true → before_first xs ≡ xs
  before_all [] e = refl
  before_all (y ∷ xs) e = take_while-cons fails y xs ∙ all_by (p y) y (before_first xs) xs (filter p xs) (before_all xs) e

  first_none : (ys : List X) → length (take 1 ys) == 0 ≡ true → take 1 ys ≡ []
  first_none [] e = refl
  first_none (y ∷ ys) e = absurd (false≢true e)

  pub none_first : (xs : List X) → none_passes xs ≡ true → take 1 (filter p xs) ≡ []
  none_first xs e = first_none (filter p xs) e
