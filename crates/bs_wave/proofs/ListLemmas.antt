-- Lists read by their places.
use Rattle.std.proofs.Common.{◌≡◌, ℕ, zero, suc, ◌<◌, ◌+◌, Bool, true, false, ◌||◌, List, [], ◌∷◌, ◌++◌, map, length, take, get_or, refl, arith, ap}
use Rattle.std.proofs.Common.{sym, ◌∙◌, Some, nat_eq}
use Rattle.std.specs.Prelude.{slice_get}
use Rattle.std.specs.List.{list_any}
use Rattle.std.proofs.lemmas.Bool.{eq-eqb}
use Rattle.std.proofs.lemmas.Option.{get_or_from_slice_get}

pub taken_last : {X : Type 0} (xs : List X) (k : ℕ) (d : X) → k < length xs → take (k + 1) xs ≡ take k xs ++ get_or xs k d ∷ []
taken_last xs k d lt = let e : k + 1 ≡ suc k = omega arith in ap (λ n. take n xs) e ∙ by xs k lt
  where
    by : (ys : List _) (j : ℕ) → j < length ys → take (suc j) ys ≡ take j ys ++ get_or ys j d ∷ []
    by [] j h = absurd (omega (arith, h))
    by (y ∷ ys) zero h = refl
    by (y ∷ ys) (suc j) h = ap (λ zs. y ∷ zs) (by ys j (omega (arith, h)))

below_from_get : {X : Type 0} (xs : List X) (k : ℕ) (x : X) → slice_get xs k ≡ Some x → k < length xs
below_from_get [] k x e = absurd cc
below_from_get (y ∷ ys) zero x e = omega arith
below_from_get (y ∷ ys) (suc k) x e = omega (arith, below_from_get ys k x e)

-- the member at a place goes behind those before it
pub one_more_taken : {X : Type 0} (xs : List X) (k : ℕ) (x : X) → slice_get xs k ≡ Some x → take k xs ++ x ∷ [] ≡ take (k + 1) xs
one_more_taken xs k x e =
    ap (λ y. take k xs ++ y ∷ []) (sym (get_or_from_slice_get xs k x x e)) ∙ sym (taken_last xs k x (below_from_get xs k x e))

pub any_append : (f : ℕ → Bool) (xs ys : List ℕ) → list_any f (xs ++ ys) ≡ list_any f xs || list_any f ys
any_append f [] ys = refl
any_append f (x ∷ xs) ys = by (f x) (any_append f xs ys)
  where
    by : (b : Bool) → list_any f (xs ++ ys) ≡ list_any f xs || list_any f ys → b || list_any f (xs ++ ys) ≡ (b || list_any f xs) || list_any f ys
    by true h = refl
    by false h = h

-- a member is there
pub any_at : {X : Type 0} (f : X → ℕ) (xs : List X) (j : ℕ) (d : X) → j < length xs → list_any (λ m. nat_eq (f (get_or xs j d)) m) (map f xs) ≡ true
any_at f [] j d lt = absurd (omega arith)
any_at f (x ∷ xs) zero d lt = ap (λ b. b || list_any (λ m. nat_eq (f x) m) (map f xs)) (eq-eqb (f x) (f x) refl)
any_at f (x ∷ xs) (suc j) d lt = by (nat_eq (f (get_or xs j d)) (f x)) (any_at f xs j d (omega arith))
  where
    by : (b : Bool) → list_any (λ m. nat_eq (f (get_or xs j d)) m) (map f xs) ≡ true → b || list_any (λ m. nat_eq (f (get_or xs j d)) m) (map f xs) ≡ true
    by true h = refl
    by false h = h
