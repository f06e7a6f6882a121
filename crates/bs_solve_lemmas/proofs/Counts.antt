-- How many of a list pass a test.
use Rattle.std.proofs.Common.{◌≡◌, ◌≢◌, ℕ, zero, suc, ◌+◌, ◌<◌, ◌≤◌, arith, Bool, true, false, cond, List, [], ◌∷◌, drop, refl, ap, ◌∙◌, inl, inr, Some}
use Rattle.std.specs.Prelude.{slice_get, count_by}
use Rattle.std.proofs.lemmas.Bool.{cases_Bool}
use Rattle.std.proofs.lemmas.List.Sums.{sum_by-cons}
use Rattle.bs_watch.proofs.Gets.{none_is_not_some, same_some}

-- the element behind a front
pub get_drop : {X : Type 0} (n : ℕ) (xs : List X) (k : ℕ) → slice_get (drop n xs) k ≡ slice_get xs (n + k)
get_drop zero xs k = ap (slice_get xs) (let e : k ≡ 0 + k = omega arith in e)
get_drop (suc n) [] k = refl
get_drop (suc n) (x ∷ xs) k = get_drop n xs k ∙ ap (slice_get (x ∷ xs)) (let e : suc (n + k) ≡ suc n + k = omega arith in e)

abbrev digit : Bool → ℕ
digit b = cond b 1 0

at_most_one : (b : Bool) → digit b ≤ 1
at_most_one true = omega arith
at_most_one false = omega arith

pub count_same : {X : Type 0} (f g : X → Bool) (xs : List X) → ((k : ℕ) (x : X) → slice_get xs k ≡ Some x → f x ≡ g x) → count_by f xs ≡ count_by g xs
count_same f g [] same = refl
count_same f g (x ∷ xs) same =
    let here : digit (f x) ≡ digit (g x) = ap digit (same 0 x refl) in
    let rest : count_by f xs ≡ count_by g xs = count_same f g xs (λ k y at. same (suc k) y at) in
    omega (arith, here, rest, sum_by-cons (λ z. digit (f z)) x xs, sum_by-cons (λ z. digit (g z)) x xs)

pub count_none : {X : Type 0} (f : X → Bool) (xs : List X) → ((x : X) → f x ≡ false) → count_by f xs ≡ 0
count_none f [] off = refl
count_none f (x ∷ xs) off =
    let here : digit (f x) ≡ 0 = ap digit (off x) in
    let rest : count_by f xs ≡ 0 = count_none f xs off in
    omega (arith, here, rest, sum_by-cons (λ z. digit (f z)) x xs)

-- one element is counted more
pub count_one : {X : Type 0} (f g : X → Bool) (xs : List X) (k : ℕ) (x : X) → slice_get xs k ≡ Some x → f x ≡ false → g x ≡ true →
    ((j : ℕ) (y : X) → slice_get xs j ≡ Some y → j ≢ k → f y ≡ g y) → count_by g xs ≡ suc (count_by f xs)
count_one f g [] k x e off on same = absurd (none_is_not_some x e)
count_one f g (y ∷ xs) zero x e off on same =
    let is = same_some y x e in
    let rest : count_by f xs ≡ count_by g xs = count_same f g xs (λ j z at. same (suc j) z at (λ (c : suc j ≡ 0). omega (arith, c))) in
    let here : digit (g y) ≡ 1 = ap digit (ap g is ∙ on) in
    let before : digit (f y) ≡ 0 = ap digit (ap f is ∙ off) in
    omega (arith, rest, here, before, sum_by-cons (λ z. digit (f z)) y xs, sum_by-cons (λ z. digit (g z)) y xs)
count_one f g (y ∷ xs) (suc k) x e off on same =
    let rest : count_by g xs ≡ suc (count_by f xs) =
    count_one f g xs k x e off on (λ j z at d. same (suc j) z at (λ (c : suc j ≡ suc k). d (let r : j ≡ k = omega (arith, c) in r))) in
    let here : digit (f y) ≡ digit (g y) = ap digit (same 0 y refl (λ (c : 0 ≡ suc k). omega (arith, c))) in
    omega (arith, rest, here, sum_by-cons (λ z. digit (f z)) y xs, sum_by-cons (λ z. digit (g z)) y xs)

pub count_some : {X : Type 0} (f : X → Bool) (xs : List X) (k : ℕ) (x : X) → slice_get xs k ≡ Some x → f x ≡ true → 0 < count_by f xs
count_some f [] k x e t = absurd (none_is_not_some x e)
count_some f (y ∷ xs) zero x e t =
    let here : digit (f y) ≡ 1 = ap digit (ap f (same_some y x e) ∙ t) in omega (arith, here, sum_by-cons (λ z. digit (f z)) y xs)
count_some f (y ∷ xs) (suc k) x e t = let rest : 0 < count_by f xs = count_some f xs k x e t in omega (arith, rest, sum_by-cons (λ z. digit (f z)) y xs)

-- an element that passes
pub record Passing {X : Type 0} (f : X → Bool) (xs : List X) : Type 0 where
  pub at : ℕ
  pub value : X
  pub there : slice_get xs at ≡ Some value
  pub passes : f value ≡ true

later : {X : Type 0} (f : X → Bool) (y : X) (xs : List X) → Passing f xs → Passing f (y ∷ xs)
later f y xs p = record { at = suc p.at; value = p.value; there = p.there; passes = p.passes }

pub count_first : {X : Type 0} (f : X → Bool) (xs : List X) → 0 < count_by f xs → Passing f xs
count_first f [] h = absurd (omega (arith, h))
count_first f (y ∷ xs) h = elim (cases_Bool (f y)) [
  | inl t ↦ record { at = 0; value = y; there = refl; passes = t }
  | inr off ↦
      let here : digit (f y) ≡ 0 = ap digit off in
      later f y xs (count_first f xs (omega (arith, h, here, sum_by-cons (λ z. digit (f z)) y xs)))
]

-- another one than that at a place
pub record OtherPassing {X : Type 0} (f : X → Bool) (xs : List X) (i : ℕ) : Type 0 where
  pub one : Passing f xs
  pub apart : one.at ≢ i

pub count_other : {X : Type 0} (f : X → Bool) (xs : List X) (i : ℕ) → 1 < count_by f xs → OtherPassing f xs i
count_other f [] i h = absurd (omega (arith, h))
count_other f (y ∷ xs) zero h =
    let p : Passing f xs = count_first f xs (omega (arith, h, at_most_one (f y), sum_by-cons (λ z. digit (f z)) y xs)) in
    record { one = record { at = suc p.at; value = p.value; there = p.there; passes = p.passes }; apart = λ c. omega (arith, c) }
count_other f (y ∷ xs) (suc i) h = elim (cases_Bool (f y)) [
  | inl t ↦ record { one = record { at = 0; value = y; there = refl; passes = t }; apart = λ c. omega (arith, c) }
  | inr off ↦
      let here : digit (f y) ≡ 0 = ap digit off in
      let r : OtherPassing f xs i = count_other f xs i (omega (arith, h, here, sum_by-cons (λ z. digit (f z)) y xs)) in
      record {
        one = record { at = suc r.one.at; value = r.one.value; there = r.one.there; passes = r.one.passes };
        apart = λ c. r.apart (let e : r.one.at ≡ i = omega (arith, c) in e);
      }
]

-- two that pass
pub count_pair : {X : Type 0} (f : X → Bool) (xs : List X) (i j : ℕ) (x y : X) → slice_get xs i ≡ Some x → slice_get xs j ≡ Some y → f x ≡ true →
    f y ≡ true → i ≢ j → 1 < count_by f xs
count_pair f [] i j x y a b t u d = absurd (none_is_not_some x a)
count_pair f (z ∷ xs) zero zero x y a b t u d = absurd (d refl)
count_pair f (z ∷ xs) zero (suc j) x y a b t u d =
    let here : digit (f z) ≡ 1 = ap digit (ap f (same_some z x a) ∙ t) in
    let rest : 0 < count_by f xs = count_some f xs j y b u in
    omega (arith, here, rest, sum_by-cons (λ z. digit (f z)) z xs)
count_pair f (z ∷ xs) (suc i) zero x y a b t u d =
    let here : digit (f z) ≡ 1 = ap digit (ap f (same_some z y b) ∙ u) in
    let rest : 0 < count_by f xs = count_some f xs i x a t in
    omega (arith, here, rest, sum_by-cons (λ z. digit (f z)) z xs)
count_pair f (z ∷ xs) (suc i) (suc j) x y a b t u d =
    let rest : 1 < count_by f xs = count_pair f xs i j x y a b t u (λ e. d (ap suc e)) in
    omega (arith, rest, sum_by-cons (λ z. digit (f z)) z xs)
