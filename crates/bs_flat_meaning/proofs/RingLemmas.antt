-- A ring of modules is found: from each of its modules instances lead on as often as one likes.
use Rattle.std.proofs.Common.{◌≡◌, ℕ, zero, suc, ◌+◌, ◌<◌, ◌≤◌, Bool, true, false, ◌||◌, not, cond, ◌≢◌, List, [], ◌∷◌, length, get_or, refl, sym, ap, ◌∙◌, arith, nat_eq}
use Rattle.std.specs.List.{AllByRecursion, list_any, range_with_len, position_or_len}
use Rattle.std.proofs.lemmas.Bool.{eqb-true, false≢true}
use Rattle.std.proofs.lemmas.List.Sums.{passes_at_first}
use Rattle.std.proofs.lemmas.List.Folds.{list_any_at}
use Rattle.bs_flat_meaning.specs.Rings.{FollowFrom, instanced_by, instances, leads_on, has_ring, RingsAreFound}

pub any_place : (t : ℕ → Bool) (xs : List ℕ) → list_any t xs ≡ true → position_or_len t xs < length xs
any_place t [] e = absurd (false≢true e)
any_place t (x ∷ xs) e = by (t x) e (any_place t xs)
  where
    by : (b : Bool) → (b || list_any t xs) ≡ true → (list_any t xs ≡ true → position_or_len t xs < length xs) →
        cond (not b) (1 + position_or_len t xs) 0 < length (x ∷ xs)
    by true q rest = omega arith
    by false q rest = let less = rest q in omega (arith, less)

-- what holds of a number that stands in a list holds of some
any_of : (f : ℕ → Bool) (n : ℕ) (xs : List ℕ) → list_any (nat_eq n) xs ≡ true → f n ≡ true → list_any f xs ≡ true
any_of f n xs e h =
    let at = position_or_len (nat_eq n) xs in
    let inside : at < length xs = any_place (nat_eq n) xs e in
    let same : n ≡ get_or xs at 0 = eqb-true n (get_or xs at 0) (passes_at_first (nat_eq n) xs 0 inside) in
    list_any_at f xs at 0 inside (ap f (sym same) ∙ h)

abbrev Lead : ℕ → List (List ℕ) → List ℕ → Type 0
Lead n below ns = AllByRecursion (λ m. leads_on n below m ≡ true) ns

-- one step more
lead_by : (n : ℕ) (below : List (List ℕ)) (m next : ℕ) → instances below m next ≡ true → leads_on n below next ≡ true →
    leads_on (suc n) below m ≡ true
unfolding leads_on
lead_by n below m next i e = any_of (leads_on n below) next (instanced_by below m) i e

lead_more : (n : ℕ) (below : List (List ℕ)) (first m : ℕ) (ns : List ℕ) → FollowFrom below first m ns →
    leads_on n below first ≡ true → Lead n below ns → Lead (suc n) below (m ∷ ns)
lead_more n below first m [] f e l = (lead_by n below m first f e, tt)
lead_more n below first m (k ∷ ns) f e l = (lead_by n below m k f.1 l.0, lead_more n below first k ns f.2 e l.1)

lead_first : (below : List (List ℕ)) (ns : List ℕ) → Lead 0 below ns
unfolding leads_on
lead_first below [] = tt
lead_first below (m ∷ ns) = (refl, lead_first below ns)

lead_all : (n : ℕ) (below : List (List ℕ)) (m : ℕ) (ns : List ℕ) → FollowFrom below m m ns → Lead n below (m ∷ ns)
lead_all zero below m ns f = lead_first below (m ∷ ns)
lead_all (suc n) below m ns f = let l = lead_all n below m ns f in lead_more n below m m ns f l.0 l.1

-- the first module of a ring is there
there : (below : List (List ℕ)) (m n : ℕ) → instances below m n ≡ true → m < length below
there [] m n i = absurd (false≢true i)
there (ns ∷ below) zero n i = omega arith
there (ns ∷ below) (suc m) n i = let r = there below m n i in omega (arith, r)

first_there : (below : List (List ℕ)) (m : ℕ) (ns : List ℕ) → FollowFrom below m m ns → m < length below
first_there below m [] f = there below m m f
first_there below m (n ∷ ns) f = there below m n f.1

any_in_range : (f : ℕ → Bool) (a k n : ℕ) → a ≤ n → n < a + k → f n ≡ true → list_any f (range_with_len a k) ≡ true
any_in_range f a zero n le lt e = absurd (omega (arith, le, lt))
any_in_range f a (suc k) n le lt e = by (f a) refl (λ low. any_in_range f (a + 1) k n low (omega (arith, lt)) e)
  where
    by : (b : Bool) → f a ≡ b → (a + 1 ≤ n → list_any f (range_with_len (a + 1) k) ≡ true) → (b || list_any f (range_with_len (a + 1) k)) ≡ true
    by true h later = refl
    by false h later =
        let apart : a ≢ n = λ s. false≢true (sym h ∙ (ap f s ∙ e)) in
        later (omega (arith, le, apart))

pub rings_are_found : RingsAreFound
unfolding has_ring
rings_are_found below [] r = absurd r
rings_are_found below (m ∷ ns) r =
    let inside = first_there below m ns r.1 in
    any_in_range (leads_on (length below) below) 0 (length below) m (omega arith) (omega (arith, inside)) (lead_all (length below) below m ns r.1).0
