-- Places that are shared, and ranges of places.
use Rattle.std.proofs.Common.{◌≡◌, ℕ, suc, zero, ◌<◌, ◌≤◌, ◌+◌, Bool, true, false, not, cond, ◌&&◌, List, [], ◌∷◌, ◌++◌, length, map, take, get_or}
use Rattle.std.proofs.Common.{set, replicate, refl, arith, ap, ap₂, sym, subst, ◌∙◌, ⊎_elim, add-one, length-set, get_or-set_same, get_or-set_other}
use Rattle.std.specs.Prelude.{filter}
use Rattle.std.specs.Bool.{beq}
use Rattle.std.specs.List.{All, list_all, range_with_len}
use Rattle.std.proofs.lemmas.Bool.{cases_eq}
use Rattle.std.proofs.lemmas.List.{take_all, length-replicate, get_or-replicate}
use Rattle.std.proofs.lemmas.List.FromFn.{length-map-range_with_len, get_or-map-range_with_len, fill_by_all}
use Rattle.bs_break.specs.Places.{is_shared, Narrows}

-- ---- flags

-- so many of the flags are narrowed
pub record Narrowed (old new first other : List Bool) (i : ℕ) : Type 0 where
  pub size : length new ≡ length old
  pub done : (k : ℕ) → k < length old → k < i → get_or new k false ≡ (get_or old k false && beq (get_or other k false) (get_or first k false))
  pub rest : (k : ℕ) → i ≤ k → get_or new k false ≡ get_or old k false

pub none_narrowed : (old first other : List Bool) → Narrowed old old first other 0
none_narrowed old first other = record { size = refl; done = λ k h lt. absurd (omega (arith, lt)); rest = λ k le. refl }

turned : (a b : Bool) → beq a b ≡ beq b a
turned true true = refl
turned true false = refl
turned false true = refl
turned false false = refl

pub one_more_narrowed : (old mid first other : List Bool) (i : ℕ) (flag a b new : Bool) → i < length old → flag ≡ get_or mid i false →
    a ≡ get_or first i false → b ≡ get_or other i false → new ≡ (flag && beq a b) →
    Narrowed old mid first other i → Narrowed old (set mid i new) first other (i + 1)
one_more_narrowed old mid first other i flag a b new lt e f g is h =
    let here : get_or (set mid i new) i false ≡ (get_or old i false && beq (get_or other i false) (get_or first i false)) =
    get_or-set_same mid i new false (omega (arith, lt, h.size))
    ∙ (is
    ∙ (ap₂ (λ t u. t && u) (e ∙ h.rest i (omega arith)) (turned a b ∙ ap₂ beq g f))) in
    record {
      size = length-set mid i new ∙ h.size;
      done = λ k small less.
          ⊎_elim
          (λ (same : k ≡ i).
          let P : ℕ → Type 0 = λ j. get_or (set mid i new) j false ≡ (get_or old j false && beq (get_or other j false) (get_or first j false)) in
          subst P (sym same) here)
          (λ (apart : k ≡ i → ⊥). get_or-set_other mid i k new false apart ∙ h.done k small (omega (arith, less, apart)))
          (cases_eq k i);
      rest = λ k le. get_or-set_other mid i k new false (λ same. omega (arith, same, le)) ∙ h.rest k (omega (arith, le));
    }

pub all_narrowed : (old new first other : List Bool) (i : ℕ) → length old ≤ i → Narrowed old new first other i → Narrows old new first other
all_narrowed old new first other i le h = record { size = h.size; each = λ k lt. h.done k lt (omega (arith, lt, le)) }

-- ---- flags of many states

-- the flags say which bits so many of the states share with the first
pub record AreShared (flags : List Bool) (width : ℕ) (first : List Bool) (states : List (List Bool)) : Type 0 where
  pub size : length flags ≡ width
  pub each : (k : ℕ) → k < width → get_or flags k false ≡ list_all (λ s. beq (get_or s k false) (get_or first k false)) states

pub none_shared : (flags : List Bool) (width : ℕ) (first : List Bool) → flags ≡ replicate width true → AreShared flags width first []
none_shared flags width first e =
    record {
      size = ap length e ∙ length-replicate width true;
      each = λ k lt. ap (λ bits. get_or bits k false) e ∙ get_or-replicate width k true false lt;
    }

all_more : {X : Type 0} (p : List Bool → Bool) (f : X → List Bool) (xs : List X) (i : ℕ) (x : X) → i < length xs → x ≡ get_or xs i x →
    list_all p (map f (take (i + 1) xs)) ≡ (list_all p (map f (take i xs)) && p (f x))
all_more {X} p f xs i x lt e = let step : i + 1 ≡ suc i = omega arith in ap (λ n. list_all p (map f (take n xs))) step ∙ by xs i lt e
  where
    last : (t : Bool) → (t && true) ≡ t
    last true = refl
    last false = refl

    grouped : (a b c : Bool) → (a && (b && c)) ≡ ((a && b) && c)
    grouped true b c = refl
    grouped false b c = refl

    by : (ys : List X) (j : ℕ) → j < length ys → x ≡ get_or ys j x → list_all p (map f (take (suc j) ys)) ≡ (list_all p (map f (take j ys)) && p (f x))
    by [] j h q = absurd (omega (arith, h))
    by (y ∷ ys) zero h q = last (p (f y)) ∙ ap (λ z. p (f z)) (sym q)
    by (y ∷ ys) (suc j) h q =
        ap (λ t. p (f y) && t) (by ys j (omega (arith, h)) q) ∙ grouped (p (f y)) (list_all p (map f (take j ys))) (p (f x))

pub one_more_shared : {X : Type 0} (f : X → List Bool) (xs : List X) (i width : ℕ) (x y : X) (old new first other : List Bool) → i < length xs →
    x ≡ get_or xs i x → y ≡ get_or xs 0 y → other ≡ f x → first ≡ f y → AreShared old width (get_or (map f xs) 0 []) (map f (take i xs)) →
    Narrows old new first other → AreShared new width (get_or (map f xs) 0 []) (map f (take (i + 1) xs))
one_more_shared {X} f xs i width x y old new first other lt e d same_other same_first h n =
    record {
      size = n.size ∙ h.size;
      each = λ k small.
          let head : List Bool = get_or (map f xs) 0 [] in
          let test : List Bool → Bool = λ s. beq (get_or s k false) (get_or head k false) in
          n.each k (omega (arith, small, h.size))
          ∙ (ap₂ (λ t u. t && u) (h.each k small)
          (ap₂ (λ (s t : List Bool). beq (get_or s k false) (get_or t k false)) same_other (same_first ∙ head_is xs lt d))
          ∙ sym (all_more test f xs i x lt e));
    }
  where
    head_is : (ys : List X) → i < length ys → y ≡ get_or ys 0 y → f y ≡ get_or (map f ys) 0 []
    head_is [] h q = absurd (omega (arith, h))
    head_is (z ∷ zs) h q = ap f q

pub all_shared : {X : Type 0} (f : X → List Bool) (xs : List X) (i width : ℕ) (flags : List Bool) → length xs ≤ i →
    AreShared flags width (get_or (map f xs) 0 []) (map f (take i xs)) → flags ≡ map (is_shared (map f xs)) (range_with_len 0 width)
all_shared f xs i width flags le h =
    fill_by_all (is_shared (map f xs)) flags width false h.size
    (λ k lt.
    h.each k lt
    ∙ ap (λ ys. list_all (λ s. beq (get_or s k false) (get_or (get_or (map f xs) 0 []) k false)) (map f ys)) (take_all i xs le))

-- ---- places in a range

pub filter_range_more : (p : ℕ → Bool) (a n j : ℕ) → a + n ≡ j → filter p (range_with_len a (n + 1)) ≡ filter p (range_with_len a n) ++ cond (p j) (j ∷ []) []
filter_range_more p a n j e = ap (λ m. filter p (range_with_len a m)) (add-one n) ∙ by a n e
  where
    first : (b : Bool) (x : ℕ) → cond b (x ∷ []) [] ≡ [] ++ cond b (x ∷ []) []
    first b x = refl

    onto : (b : Bool) (x : ℕ) (xs ys : List ℕ) → cond b (x ∷ (xs ++ ys)) (xs ++ ys) ≡ cond b (x ∷ xs) xs ++ ys
    onto true x xs ys = refl
    onto false x xs ys = refl

    by : (a n : ℕ) → a + n ≡ j → filter p (range_with_len a (suc n)) ≡ filter p (range_with_len a n) ++ cond (p j) (j ∷ []) []
    by a zero q = let same : a ≡ j = omega (arith, q) in ap (λ x. cond (p x) (x ∷ []) []) same
    by a (suc n) q =
        ap (λ xs. cond (p a) (a ∷ xs) xs) (by (a + 1) n (omega (arith, q)))
        ∙ onto (p a) a (filter p (range_with_len (a + 1) n)) (cond (p j) (j ∷ []) [])

pub one_more_place : (p : ℕ → Bool) (n : ℕ) (places new : List ℕ) (wanted : Bool) → places ≡ filter p (range_with_len 0 n) → wanted ≡ p n →
    new ≡ places ++ cond wanted (n ∷ []) [] → new ≡ filter p (range_with_len 0 (n + 1))
one_more_place p n places new wanted e f is =
    is ∙ (ap₂ (λ (xs : List ℕ) (b : Bool). xs ++ cond b (n ∷ []) []) e f ∙ sym (filter_range_more p 0 n n (omega arith)))

-- two tests that agree on a range keep the same places
pub same_places : (p q : ℕ → Bool) (a n : ℕ) → ((k : ℕ) → a ≤ k → k < a + n → p k ≡ q k) → filter p (range_with_len a n) ≡ filter q (range_with_len a n)
same_places p q a zero h = refl
same_places p q a (suc n) h =
    ap₂ (λ (b : Bool) (xs : List ℕ). cond b (a ∷ xs) xs) (h a (omega arith) (omega arith))
    (same_places p q (a + 1) n (λ k le lt. h k (omega (arith, le)) (omega (arith, lt))))

is_true : (b : Bool) → beq b true ≡ b
is_true true = refl
is_true false = refl

is_false : (b : Bool) → beq b false ≡ not b
is_false true = refl
is_false false = refl

pub shared_places : (states : List (List Bool)) (width : ℕ) (flags : List Bool) (places : List ℕ) → flags ≡ map (is_shared states) (range_with_len 0 width) →
    places ≡ filter (λ i. beq (get_or flags i false) true) (range_with_len 0 (length flags)) →
    places ≡ filter (is_shared states) (range_with_len 0 width)
shared_places states width flags places e f =
    let size : length flags ≡ width = ap length e ∙ length-map-range_with_len (is_shared states) 0 width in
    f ∙ (ap (λ n. filter (λ i. beq (get_or flags i false) true) (range_with_len 0 n)) size
    ∙ same_places _ _ 0 width
    (λ k le lt.
    is_true (get_or flags k false)
    ∙ (ap (λ bits. get_or bits k false) e ∙ get_or-map-range_with_len (is_shared states) 0 width k k false (omega (arith, lt)) (omega arith))))

pub other_places : (states : List (List Bool)) (width : ℕ) (flags : List Bool) (places : List ℕ) → flags ≡ map (is_shared states) (range_with_len 0 width) →
    places ≡ filter (λ i. beq (get_or flags i false) false) (range_with_len 0 (length flags)) →
    places ≡ filter (λ i. not (is_shared states i)) (range_with_len 0 width)
other_places states width flags places e f =
    let size : length flags ≡ width = ap length e ∙ length-map-range_with_len (is_shared states) 0 width in
    f ∙ (ap (λ n. filter (λ i. beq (get_or flags i false) false) (range_with_len 0 n)) size
    ∙ same_places _ _ 0 width
    (λ k le lt.
    is_false (get_or flags k false)
    ∙ ap not (ap (λ bits. get_or bits k false) e ∙ get_or-map-range_with_len (is_shared states) 0 width k k false (omega (arith, lt)) (omega arith))))

-- the places that are kept of a range lie in it
pub kept_within : (p : ℕ → Bool) (a n m : ℕ) → a + n ≤ m → All (λ k. k < m) (filter p (range_with_len a n))
kept_within p a zero m le = λ k d lt. absurd (omega (arith, lt))
kept_within p a (suc n) m le = by (p a) (kept_within p (a + 1) n m (omega (arith, le)))
  where
    front : (xs : List ℕ) → All (λ k. k < m) xs → All (λ k. k < m) (a ∷ xs)
    front xs h zero d lt = omega (arith, le)
    front xs h (suc k) d lt = h k d (omega (arith, lt))

    by : (b : Bool) → All (λ k. k < m) (filter p (range_with_len (a + 1) n)) →
        All (λ k. k < m) (cond b (a ∷ filter p (range_with_len (a + 1) n)) (filter p (range_with_len (a + 1) n)))
    by true h = front _ h
    by false h = h
