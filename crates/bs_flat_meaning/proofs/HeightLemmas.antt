-- Whether a path is too long, by heights of modules.
use Rattle.std.proofs.Common.{◌≡◌, ℕ, zero, suc, ◌<◌, ◌+◌, max, min, Bool, true, false, ◌||◌, List, [], ◌∷◌, ◌++◌, length, get_or, nat_lt, refl, arith, ap}
use Rattle.std.proofs.Common.{sym, ◌∙◌, lt-ltb, le-ltb, zero-add}
use Rattle.std.specs.List.{list_any, flat_map, range_with_len}
use Rattle.std.proofs.lemmas.Bool.{ltb-true, ltb-false}
use Rattle.std.proofs.lemmas.List.{get_or_at, length_push, append_assoc}
use Rattle.bs_flat_meaning.specs.Design.{Design, Module, Instance, Path, no_instance, instance_in, module_in, module_at, paths_from}
use Rattle.bs_flat_meaning.specs.Counts.{tallest, height, IsHeight, DepthIsHeight}
use Rattle.bs_flat_meaning.specs.declared.limits.TheConstants.{MAX_DEPTH}
use Rattle.bs_flat_meaning.proofs.CountLemmas.{module_below}

-- ---- bits

or_zero : (p : Bool) → (p || false) ≡ p
or_zero true = refl
or_zero false = refl

or_swap : (p q r : Bool) → (p || (q || r)) ≡ (q || (p || r))
or_swap true true r = refl
or_swap true false r = refl
or_swap false q r = refl

or_assoc : (p q r : Bool) → ((p || q) || r) ≡ (p || (q || r))
or_assoc true q r = refl
or_assoc false q r = refl

-- a sum with the greater of two is above a number where one of the sums is
above_max : (b a x y : ℕ) → nat_lt b (a + max x y) ≡ (nat_lt b (a + x) || nat_lt b (a + y))
above_max b a x y = by (nat_lt b (a + x)) (nat_lt b (a + y)) refl refl
  where
    by : (p q : Bool) → nat_lt b (a + x) ≡ p → nat_lt b (a + y) ≡ q → nat_lt b (a + max x y) ≡ (p || q)
    by true q e f = let lt = ltb-true b (a + x) e in lt-ltb b (a + max x y) (omega (arith, lt))
    by false true e f = let lt = ltb-true b (a + y) f in lt-ltb b (a + max x y) (omega (arith, lt))
    by false false e f =
        let le = ltb-false b (a + x) e in
        let ge = ltb-false b (a + y) f in
        le-ltb b (a + max x y) (omega (arith, le, ge))

any_append : {A : Type 0} (t : A → Bool) (xs ys : List A) → list_any t (xs ++ ys) ≡ (list_any t xs || list_any t ys)
any_append t [] ys = refl
any_append t (x ∷ xs) ys = ap (λ b. t x || b) (any_append t xs ys) ∙ sym (or_assoc (t x) (list_any t xs) (list_any t ys))

any_flat : {A B : Type 0} (t : A → Bool) (f : B → List A) (xs : List B) → list_any t (flat_map f xs) ≡ list_any (λ x. list_any t (f x)) xs
any_flat t f [] = refl
any_flat t f (x ∷ xs) = any_append t (f x) (flat_map f xs) ∙ ap (λ b. list_any t (f x) || b) (any_flat t f xs)

any_same : {A : Type 0} (s t : A → Bool) (xs : List A) → ((x : A) → s x ≡ t x) → list_any s xs ≡ list_any t xs
any_same s t [] h = refl
any_same s t (x ∷ xs) h = ap (λ b. b || list_any s xs) (h x) ∙ ap (λ b. t x || b) (any_same s t xs h)

any_places : {A : Type 0} (t : A → Bool) (d : A) (xs front : List A) (a : ℕ) → length front ≡ a →
    list_any (λ i. t (get_or (front ++ xs) i d)) (range_with_len a (length xs)) ≡ list_any t xs
any_places t d [] front a e = refl
any_places {A} t d (x ∷ xs) front a e =
    let next : length (front ++ x ∷ []) ≡ a + 1 = length_push front x ∙ ap (λ n. n + 1) e in
    ap (λ y. t y || list_any (λ i. t (get_or (front ++ x ∷ xs) i d)) (range_with_len (a + 1) (length xs))) (get_or_at front x xs d a e)
    ∙ ap (λ b. t x || b) (ap (λ (l : List A). list_any (λ i. t (get_or l i d)) (range_with_len (a + 1) (length xs))) (sym (append_assoc front (x ∷ []) xs))
    ∙ any_places t d xs (front ++ x ∷ []) (a + 1) next)

any_tallest : {A : Type 0} (b a : ℕ) (f : A → ℕ) (xs : List A) → (nat_lt b a || list_any (λ x. nat_lt b (suc a + f x)) xs) ≡ nat_lt b (a + tallest f xs)
unfolding tallest
any_tallest b a f [] = let none : a ≡ a + 0 = omega arith in or_zero (nat_lt b a) ∙ ap (nat_lt b) none
any_tallest b a f (x ∷ xs) =
    let one : suc a + f x ≡ a + (1 + f x) = omega arith in
    or_swap (nat_lt b a) (nat_lt b (suc a + f x)) (list_any (λ y. nat_lt b (suc a + f y)) xs)
    ∙ (ap (λ p. nat_lt b (suc a + f x) || p) (any_tallest b a f xs)
    ∙ (ap (λ n. nat_lt b n || nat_lt b (a + tallest f xs)) one ∙ sym (above_max b a (1 + f x) (tallest f xs))))

-- ---- paths

no_paths : (d : Design) (p : Path) (t : Path → Bool) (is : List ℕ) → list_any t (flat_map (λ i. paths_from 0 d (i ∷ p)) is) ≡ false
unfolding paths_from
no_paths d p t [] = refl
no_paths d p t (i ∷ is) = no_paths d p t is

-- a path below one is longer than a number where the height of its module makes it so
pub deep_is : (b n : ℕ) (d : Design) (p : Path) →
    list_any (λ (r : Path). nat_lt b (length r)) (paths_from (suc n) d p) ≡ nat_lt b (length p + height n d (module_at d p))
unfolding paths_from height
deep_is b zero d p =
    let none : length p ≡ length p + 0 = omega arith in
    ap (λ q. nat_lt b (length p) || q) (no_paths d p (λ (r : Path). nat_lt b (length r)) (range_with_len 0 (length (module_at d p).instances)))
    ∙ (or_zero (nat_lt b (length p)) ∙ ap (nat_lt b) none)
deep_is b (suc n) d p =
    let t : Path → Bool = λ r. nat_lt b (length r) in
    let m = module_at d p in
    ap (λ q. nat_lt b (length p) || q)
    (any_flat t (λ i. paths_from (suc n) d (i ∷ p)) (range_with_len 0 (length m.instances))
    ∙ (any_same (λ i. list_any t (paths_from (suc n) d (i ∷ p))) (λ i. nat_lt b (suc (length p) + height n d (module_in d (instance_in m i).of)))
    (range_with_len 0 (length m.instances))
    (λ i. deep_is b n d (i ∷ p) ∙ ap (λ (k : Module). nat_lt b (suc (length p) + height n d k)) (module_below d p i))
    ∙ any_places (λ (x : Instance). nat_lt b (suc (length p) + height n d (module_in d x.of))) no_instance m.instances [] 0 refl))
    ∙ any_tallest b (length p) (λ (x : Instance). height n d (module_in d x.of)) m.instances

pub tallest_same : {A : Type 0} (f g : A → ℕ) (xs : List A) (d : A) → ((i : ℕ) → i < length xs → f (get_or xs i d) ≡ g (get_or xs i d)) →
    tallest f xs ≡ tallest g xs
unfolding tallest
tallest_same f g [] d h = refl
tallest_same f g (x ∷ xs) d h =
    ap (λ n. max (1 + n) (tallest f xs)) (h 0 (omega arith)) ∙ ap (max (1 + g x)) (tallest_same f g xs d (λ i lt. h (suc i) (omega (arith, lt))))

lower_tallest : {A : Type 0} (n : ℕ) (f : A → ℕ) (xs : List A) → tallest (λ x. min n (f x)) xs ≡ min (suc n) (tallest f xs)
unfolding tallest
lower_tallest n f [] = omega arith
lower_tallest n f (x ∷ xs) = ap (max (1 + min n (f x))) (lower_tallest n f xs) ∙ both (f x) (tallest f xs)
  where
    both : (a t : ℕ) → max (1 + min n a) (min (suc n) t) ≡ min (suc n) (max (1 + a) t)
    both a t = omega arith

-- heights that are right for the instances are the heights, as far as the levels go
pub height_is : (d : Design) (v : ℕ → ℕ) → IsHeight d v → (n k : ℕ) → height n d (module_in d k) ≡ min n (v k)
unfolding height
height_is d v h zero k = omega arith
height_is d v h (suc n) k =
    let m = module_in d k in
    tallest_same (λ (i : Instance). height n d (module_in d i.of)) (λ (i : Instance). min n (v i.of)) m.instances no_instance
    (λ i li. height_is d v h n (instance_in m i).of)
    ∙ (lower_tallest n (λ (i : Instance). v i.of) m.instances ∙ ap (min (suc n)) (sym (h.tall k)))

-- ---- the whole design

-- a number that is capped above another is above it as before
capped : (b x : ℕ) → nat_lt b (min (b + 1) x) ≡ nat_lt b x
capped b x = by (nat_lt b x) refl
  where
    by : (p : Bool) → nat_lt b x ≡ p → nat_lt b (min (b + 1) x) ≡ p
    by true e = let lt = ltb-true b x e in lt-ltb b (min (b + 1) x) (omega (arith, lt))
    by false e = let le = ltb-false b x e in le-ltb b (min (b + 1) x) (omega (arith, le))

top_height : (d : Design) (v : ℕ → ℕ) → IsHeight d v → (n : ℕ) → height n d (module_at d []) ≡ min n (v d.top)
unfolding module_at
top_height d v h n = height_is d v h n d.top

deep_from : (b : ℕ) (d : Design) (v : ℕ → ℕ) → IsHeight d v → list_any (λ (r : Path). nat_lt b (length r)) (paths_from (b + 2) d []) ≡ nat_lt b (v d.top)
deep_from b d v h =
    let levels : b + 2 ≡ suc (b + 1) = omega arith in
    ap (λ n. list_any (λ (r : Path). nat_lt b (length r)) (paths_from n d [])) levels
    ∙ (deep_is b (b + 1) d []
    ∙ (ap (nat_lt b) (zero-add (height (b + 1) d (module_at d [])) ∙ top_height d v h (b + 1)) ∙ capped b (v d.top)))

pub depth_is_height : DepthIsHeight
depth_is_height d v h = deep_from MAX_DEPTH d v h
