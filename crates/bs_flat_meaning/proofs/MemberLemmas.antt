-- Members of lists, by recursion.
use Rattle.std.proofs.Common.{◌≡◌, ℕ, zero, suc, ◌<◌, ◌≤◌, ◌+◌, Bool, true, false, not, cond, List, [], ◌∷◌, ◌++◌, map, length, get_or, refl, arith, subst}
use Rattle.std.proofs.Common.{ap, sym, ◌∙◌, ◌⊎◌, inl, inr, ⊎_elim, nat_eq, Some, None}
use Rattle.std.specs.Prelude.{find, filter}
use Rattle.std.specs.List.{AllByRecursion, range_with_len, flat_map, Contains, position_or_len}
use Rattle.std.proofs.lemmas.Bool.{false≢true, eqb-true, eqb-false}

abbrev pub Member : {X : Type 0} → X → List X → Type 0
Member v [] = ⊥
Member v (x ∷ xs) = (v ≡ x) ⊎ Member v xs

pub all_member : {X : Type 0} (P : X → Type 0) (xs : List X) (v : X) → AllByRecursion P xs → Member v xs → P v
all_member P [] v h m = absurd m
all_member {X} P (x ∷ xs) v h m =
    ⊎_elim (λ (e : v ≡ x). subst P (sym e) h.0) (λ (k : Member v xs). all_member P xs v h.1 k) m

pub all_of : {X : Type 0} (P : X → Type 0) (xs : List X) → ((v : X) → Member v xs → P v) → AllByRecursion P xs
all_of P [] f = tt
all_of P (x ∷ xs) f = (f x (inl refl), all_of P xs (λ v m. f v (inr m)))

pub member_at : {X : Type 0} (xs : List X) (k : ℕ) (d : X) → k < length xs → Member (get_or xs k d) xs
member_at [] k d lt = absurd (omega (arith, lt))
member_at (x ∷ xs) zero d lt = inl refl
member_at (x ∷ xs) (suc k) d lt = inr (member_at xs k d (omega (arith, lt)))

pub contained : {X : Type 0} (xs : List X) (x : X) → Contains xs x → Member x xs
contained xs x c = subst (λ y. Member y xs) c.2 (member_at xs c.0 x c.1)

pub contains : {X : Type 0} (xs : List X) (x : X) → Member x xs → Contains xs x
contains [] x m = absurd m
contains {X} (y ∷ ys) x m =
    ⊎_elim
    (λ (e : x ≡ y). (0, omega arith, sym e))
    (λ (k : Member x ys). let c = contains ys x k in (suc c.0, omega (arith, c.1), c.2))
    m

pub member_left : {X : Type 0} (v : X) (xs ys : List X) → Member v xs → Member v (xs ++ ys)
member_left v [] ys h = absurd h
member_left v (x ∷ xs) ys h = ⊎_elim (λ e. inl e) (λ k. inr (member_left v xs ys k)) h

pub member_right : {X : Type 0} (v : X) (xs ys : List X) → Member v ys → Member v (xs ++ ys)
member_right v [] ys h = h
member_right v (x ∷ xs) ys h = inr (member_right v xs ys h)

pub member_split : {X : Type 0} (v : X) (xs ys : List X) → Member v (xs ++ ys) → Member v xs ⊎ Member v ys
member_split v [] ys h = inr h
member_split {X} v (x ∷ xs) ys h =
    ⊎_elim
    (λ (e : v ≡ x). inl (inl e))
    (λ (k : Member v (xs ++ ys)). ⊎_elim (λ (l : Member v xs). inl (inr l)) (λ (r : Member v ys). inr r) (member_split v xs ys k))
    h

pub member_map : {X Y : Type 0} (f : X → Y) (v : X) (xs : List X) → Member v xs → Member (f v) (map f xs)
member_map f v [] h = h
member_map f v (x ∷ xs) h = ⊎_elim (λ e. inl (ap f e)) (λ k. inr (member_map f v xs k)) h

pub mapped : {X Y : Type 0} (f : X → Y) (y : Y) (xs : List X) → Member y (map f xs) → (x : X) × Member x xs × (y ≡ f x)
mapped f y [] h = absurd h
mapped {X} {Y} f y (x ∷ xs) h =
    ⊎_elim
    (λ (e : y ≡ f x). (x, inl refl, e))
    (λ (k : Member y (map f xs)). let r = mapped f y xs k in (r.0, inr r.1, r.2))
    h

pub member_flat : {X Y : Type 0} (f : X → List Y) (x : X) (y : Y) (xs : List X) → Member x xs → Member y (f x) → Member y (flat_map f xs)
member_flat f x y [] h m = absurd h
member_flat {X} {Y} f x y (z ∷ xs) h m =
    ⊎_elim
    (λ (e : x ≡ z). member_left y (f z) (flat_map f xs) (subst (λ (u : X). Member y (f u)) e m))
    (λ (k : Member x xs). member_right y (f z) (flat_map f xs) (member_flat f x y xs k m))
    h

pub flattened : {X Y : Type 0} (f : X → List Y) (y : Y) (xs : List X) → Member y (flat_map f xs) → (x : X) × Member x xs × Member y (f x)
flattened f y [] h = absurd h
flattened {X} {Y} f y (x ∷ xs) h =
    ⊎_elim
    (λ (l : Member y (f x)). (x, inl refl, l))
    (λ (r : Member y (flat_map f xs)). let k = flattened f y xs r in (k.0, inr k.1, k.2))
    (member_split y (f x) (flat_map f xs) h)

pub member_filter : {X : Type 0} (p : X → Bool) (v : X) (xs : List X) → Member v xs → p v ≡ true → Member v (filter p xs)
member_filter p v [] h t = absurd h
member_filter {X} p v (x ∷ xs) h t =
    ⊎_elim
    (λ (e : v ≡ x). kept (p x) (sym (ap p e) ∙ t) e)
    (λ (k : Member v xs). later (p x) (member_filter p v xs k t))
    h
  where
    kept : (b : Bool) → b ≡ true → v ≡ x → Member v (cond b (x ∷ filter p xs) (filter p xs))
    kept true e same = inl same
    kept false e same = absurd (false≢true e)

    later : (b : Bool) → Member v (filter p xs) → Member v (cond b (x ∷ filter p xs) (filter p xs))
    later true m = inr m
    later false m = m

pub filtered : {X : Type 0} (p : X → Bool) (v : X) (xs : List X) → Member v (filter p xs) → Member v xs × (p v ≡ true)
filtered p v [] h = absurd h
filtered {X} p v (x ∷ xs) h = by (p x) refl h (filtered p v xs)
  where
    by : (b : Bool) → p x ≡ b → Member v (cond b (x ∷ filter p xs) (filter p xs)) → (Member v (filter p xs) → Member v xs × (p v ≡ true)) →
        Member v (x ∷ xs) × (p v ≡ true)
    by true e k rest =
        ⊎_elim
        (λ (same : v ≡ x). (inl same, ap p same ∙ e))
        (λ (m : Member v (filter p xs)). let r = rest m in (inr r.0, r.1))
        k
    by false e k rest = let r = rest k in (inr r.0, r.1)

pub found : {X : Type 0} (p : X → Bool) (xs : List X) (v : X) → find p xs ≡ Some v → Member v xs × (p v ≡ true)
found p [] v e = absurd cc
found {X} p (x ∷ xs) v e = by (p x) refl e (found p xs v)
  where
    by : (b : Bool) → p x ≡ b → cond b (Some x) (find p xs) ≡ Some v → (find p xs ≡ Some v → Member v xs × (p v ≡ true)) → Member v (x ∷ xs) × (p v ≡ true)
    by true t k rest = let same : v ≡ x = cc in (inl same, ap p same ∙ t)
    by false t k rest = let r = rest k in (inr r.0, r.1)

pub missed : {X : Type 0} (p : X → Bool) (xs : List X) (v : X) → find p xs ≡ None → Member v xs → p v ≡ false
missed p [] v e m = absurd m
missed {X} p (x ∷ xs) v e m = by (p x) refl e (missed p xs v)
  where
    by : (b : Bool) → p x ≡ b → cond b (Some x) (find p xs) ≡ None → (find p xs ≡ None → Member v xs → p v ≡ false) → p v ≡ false
    by true t k rest = absurd cc
    by false t k rest = ⊎_elim (λ (same : v ≡ x). ap p same ∙ t) (λ (l : Member v xs). rest k l) m

-- the first place that passes is within the list, and passes
pub first_passes : {X : Type 0} (p : X → Bool) (xs : List X) (v d : X) → Member v xs → p v ≡ true → (position_or_len p xs < length xs)
    × (p (get_or xs (position_or_len p xs) d) ≡ true)
first_passes p [] v d m t = absurd m
first_passes {X} p (x ∷ xs) v d m t = by (p x) refl (first_passes p xs v d)
  where
    by : (b : Bool) → p x ≡ b → (Member v xs → p v ≡ true → (position_or_len p xs < length xs) × (p (get_or xs (position_or_len p xs) d) ≡ true)) →
        (cond (not b) (1 + position_or_len p xs) 0 < length (x ∷ xs)) × (p (get_or (x ∷ xs) (cond (not b) (1 + position_or_len p xs) 0) d) ≡ true)
    by true e rest = (omega arith, e)
    by false e rest =
        let later : Member v xs = ⊎_elim (λ (same : v ≡ x). absurd (false≢true (sym e ∙ (sym (ap p same) ∙ t)))) (λ (l : Member v xs). l) m in
        let r = rest later t in
        let n = position_or_len p xs in
        let one : 1 + n ≡ suc n = omega arith in
        (omega (arith, r.0), subst (λ (k : ℕ). p (get_or (x ∷ xs) k d) ≡ true) (sym one) r.1)

pub in_range : (a k n : ℕ) → a ≤ n → n < a + k → Member n (range_with_len a k)
in_range a zero n le lt = absurd (omega (arith, le, lt))
in_range a (suc k) n le lt = by (nat_eq n a) refl (in_range (a + 1) k n)
  where
    by : (b : Bool) → nat_eq n a ≡ b → (a + 1 ≤ n → n < (a + 1) + k → Member n (range_with_len (a + 1) k)) → (n ≡ a) ⊎ Member n (range_with_len (a + 1) k)
    by true e rest = inl (eqb-true n a e)
    by false e rest = let apart = eqb-false n a e in inr (rest (omega (arith, le, apart)) (omega (arith, lt)))

pub ranged : (a k n : ℕ) → Member n (range_with_len a k) → (a ≤ n) × (n < a + k)
ranged a zero n m = absurd m
ranged a (suc k) n m =
    ⊎_elim
    (λ (e : n ≡ a). (omega (arith, e), omega (arith, e)))
    (λ (l : Member n (range_with_len (a + 1) k)). let r = ranged (a + 1) k n l in (omega (arith, r.0), omega (arith, r.1)))
    m

-- a list that is mapped twice
pub map_twice : {X Y Z : Type 0} (f : X → Y) (g : Y → Z) (xs : List X) → map g (map f xs) ≡ map (λ x. g (f x)) xs
map_twice f g [] = refl
map_twice f g (x ∷ xs) = ap (λ u. g (f x) ∷ u) (map_twice f g xs)

pub map_same : {X Y : Type 0} (f g : X → Y) (xs : List X) → ((x : X) → Member x xs → f x ≡ g x) → map f xs ≡ map g xs
map_same f g [] h = refl
map_same f g (x ∷ xs) h =
    ap (λ u. u ∷ map f xs) (h x (inl refl)) ∙ ap (λ u. g x ∷ u) (map_same f g xs (λ y m. h y (inr m)))

pub filter_same : {X : Type 0} (p q : X → Bool) (xs : List X) → ((x : X) → Member x xs → p x ≡ q x) → filter p xs ≡ filter q xs
filter_same p q [] h = refl
filter_same p q (x ∷ xs) h =
    ap (λ b. cond b (x ∷ filter p xs) (filter p xs)) (h x (inl refl))
    ∙ ap (λ u. cond (q x) (x ∷ u) u) (filter_same p q xs (λ y m. h y (inr m)))

pub filter_map_comm : {X Y : Type 0} (f : X → Y) (p : Y → Bool) (xs : List X) → filter p (map f xs) ≡ map f (filter (λ x. p (f x)) xs)
filter_map_comm f p [] = refl
filter_map_comm {X} {Y} f p (x ∷ xs) = by (p (f x)) (filter_map_comm f p xs)
  where
    by : (b : Bool) → filter p (map f xs) ≡ map f (filter (λ y. p (f y)) xs) →
        cond b (f x ∷ filter p (map f xs)) (filter p (map f xs)) ≡ map f (cond b (x ∷ filter (λ y. p (f y)) xs) (filter (λ y. p (f y)) xs))
    by true e = ap (λ u. f x ∷ u) e
    by false e = e
