-- What stands in a list, a mapped one and a filtered one.
use Rattle.std.proofs.Common.{◌≡◌, ℕ, zero, suc, ◌<◌, arith, Bool, true, false, cond, List, [], ◌∷◌, map, refl, sym, ap, subst, ◌∙◌, inl, inr, ◌⊎◌}
use Rattle.std.specs.Prelude.{Contains}
use Rattle.std.specs.List.{filter}
use Rattle.std.proofs.lemmas.Bool.{false≢true}

pub nothing_in : {X : Type 0} (x : X) → ¬ Contains [] x
nothing_in x c = let h : c.0 < 0 = c.1 in omega arith

pub contains_first : {X : Type 0} (x : X) (xs : List X) → Contains (x ∷ xs) x
contains_first x xs = (0, omega arith, refl)

pub cons_contains : {X : Type 0} (x : X) (xs : List X) (y : X) → Contains xs y → Contains (x ∷ xs) y
cons_contains x xs y c = (suc c.0, omega (arith, c.1), c.2)

pub contains_cases : {X : Type 0} (x : X) (xs : List X) (y : X) → Contains (x ∷ xs) y → (x ≡ y) ⊎ Contains xs y
contains_cases x xs y (zero, h, e) = inl e
contains_cases x xs y (suc k, h, e) = inr (k, omega (arith, h), e)

pub map_cases : {X Y : Type 0} (f : X → Y) (xs : List X) (y : Y) → Contains (map f xs) y → (x : X) × Contains xs x × (f x ≡ y)
map_cases f [] y c = absurd (nothing_in y c)
map_cases f (x ∷ xs) y c = elim (contains_cases (f x) (map f xs) y c) [
  | inl same ↦ (x, contains_first x xs, same)
  | inr there ↦ let r = map_cases f xs y there in (r.0, cons_contains x xs r.0 r.1, r.2)
]

pub map_contains : {X Y : Type 0} (f : X → Y) (xs : List X) (x : X) → Contains xs x → Contains (map f xs) (f x)
map_contains f [] x c = absurd (nothing_in x c)
map_contains f (y ∷ xs) x c = elim (contains_cases y xs x c) [
  | inl same ↦ subst (λ z. Contains (f y ∷ map f xs) (f z)) same (contains_first (f y) (map f xs))
  | inr there ↦ cons_contains (f y) (map f xs) (f x) (map_contains f xs x there)
]

pub filter_cases : {X : Type 0} (q : X → Bool) (xs : List X) (y : X) → Contains (filter q xs) y → Contains xs y × (q y ≡ true)
filter_cases q [] y c = absurd (nothing_in y c)
filter_cases q (x ∷ xs) y c = by (q x) refl c (filter_cases q xs y)
  where
    by : (b : Bool) → q x ≡ b → Contains (cond b (x ∷ filter q xs) (filter q xs)) y → (Contains (filter q xs) y → Contains xs y × (q y ≡ true)) →
        Contains (x ∷ xs) y × (q y ≡ true)
    by true e c rest = elim (contains_cases x (filter q xs) y c) [
      | inl same ↦ (subst (Contains (x ∷ xs)) same (contains_first x xs), ap q (sym same) ∙ e)
      | inr there ↦ let r = rest there in (cons_contains x xs y r.0, r.1)
    ]
    by false e c rest = let r = rest c in (cons_contains x xs y r.0, r.1)

pub filter_from : {X : Type 0} (q : X → Bool) (xs : List X) (y : X) → Contains xs y → q y ≡ true → Contains (filter q xs) y
filter_from q [] y c t = absurd (nothing_in y c)
filter_from q (x ∷ xs) y c t = by (q x) refl (contains_cases x xs y c) (λ there. filter_from q xs y there t)
  where
    by : (b : Bool) → q x ≡ b → (x ≡ y) ⊎ Contains xs y → (Contains xs y → Contains (filter q xs) y) → Contains (cond b (x ∷ filter q xs) (filter q xs)) y
    by true e (inl same) rest = subst (Contains (x ∷ filter q xs)) same (contains_first x (filter q xs))
    by true e (inr there) rest = cons_contains x (filter q xs) y (rest there)
    by false e (inl same) rest = absurd (false≢true (sym e ∙ ap q same ∙ t))
    by false e (inr there) rest = rest there
