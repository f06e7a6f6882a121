-- The items at the known places.
use Rattle.std.proofs.Common.{◌≡◌, ℕ, suc, zero, ◌+◌, ◌<◌, ◌≤◌, Bool, true, false, List, [], ◌∷◌, ◌++◌, map, take, length, get_or, refl, ap, subst, sym, ◌∙◌, arith, add-one}
use Rattle.std.specs.Prelude.{All, Some, slice_get}
use Rattle.std.specs.List.{AllByRecursion}
use Rattle.std.proofs.lemmas.Bool.{true≢false}
use Rattle.std.proofs.lemmas.List.{take_more}
use Rattle.std.proofs.lemmas.List.Elements.{All-from_recursion, recursion_from_All}
use Rattle.bs_scan.specs.Seen.{kept, kept_one}

pub kept_nothing : {A : Type 0} (frees : List Bool) → kept {A = A} frees [] ≡ []
kept_nothing [] = refl
kept_nothing (free ∷ frees) = refl

-- one item more
kept_suc : {A : Type 0} (frees : List Bool) (xs : List A) (i : ℕ) (d : A) → i < length xs →
    kept frees (take (suc i) xs) ≡ kept frees (take i xs) ++ kept_one (get_or frees i false) (get_or xs i d)
kept_suc [] xs i d lt = subst (λ (n : ℕ). take n xs ≡ take i xs ++ get_or xs i d ∷ []) (add-one i) (take_more xs i d lt)
kept_suc (free ∷ frees) [] i d lt = absurd (omega arith)
kept_suc (true ∷ frees) (x ∷ xs) zero d lt = kept_nothing frees
kept_suc (false ∷ frees) (x ∷ xs) zero d lt = ap (λ rest. x ∷ rest) (kept_nothing frees)
kept_suc (true ∷ frees) (x ∷ xs) (suc i) d lt = kept_suc frees xs i d (omega arith)
kept_suc (false ∷ frees) (x ∷ xs) (suc i) d lt = ap (λ rest. x ∷ rest) (kept_suc frees xs i d (omega arith))

pub kept_more : {A : Type 0} (frees : List Bool) (xs : List A) (i : ℕ) (d : A) → i < length xs →
    kept frees (take (i + 1) xs) ≡ kept frees (take i xs) ++ kept_one (get_or frees i false) (get_or xs i d)
kept_more frees xs i d lt = rw add-one (kept_suc frees xs i d lt)

-- how many there are rests on how many items there are
pub length_kept : {A B : Type 0} (frees : List Bool) (xs : List A) (ys : List B) → length xs ≡ length ys → length (kept frees xs) ≡ length (kept frees ys)
length_kept [] xs ys e = e
length_kept (free ∷ frees) [] [] e = refl
length_kept (free ∷ frees) [] (y ∷ ys) e = absurd (omega (arith, e))
length_kept (free ∷ frees) (x ∷ xs) [] e = absurd (omega (arith, e))
length_kept (true ∷ frees) (x ∷ xs) (y ∷ ys) e = length_kept frees xs ys (omega (arith, e))
length_kept (false ∷ frees) (x ∷ xs) (y ∷ ys) e = ap suc (length_kept frees xs ys (omega (arith, e)))

pub kept_map : {A B : Type 0} (f : A → B) (frees : List Bool) (xs : List A) → map f (kept frees xs) ≡ kept frees (map f xs)
kept_map f [] xs = refl
kept_map f (free ∷ frees) [] = refl
kept_map f (true ∷ frees) (x ∷ xs) = kept_map f frees xs
kept_map f (false ∷ frees) (x ∷ xs) = ap (λ rest. f x ∷ rest) (kept_map f frees xs)

-- what holds of each item holds of those
pub kept_each : {A : Type 0} (P : A → Type 0) (frees : List Bool) (xs : List A) → AllByRecursion P xs → AllByRecursion P (kept frees xs)
kept_each P [] xs h = h
kept_each P (free ∷ frees) [] h = tt
kept_each P (true ∷ frees) (x ∷ xs) h = kept_each P frees xs h.1
kept_each P (false ∷ frees) (x ∷ xs) h = (h.0, kept_each P frees xs h.1)

pub kept_all : {A : Type 0} (P : A → Type 0) (frees : List Bool) (xs : List A) → All P xs → All P (kept frees xs)
kept_all P frees xs h = All-from_recursion P (kept frees xs) (kept_each P frees xs (recursion_from_All P xs h))

-- an item at a place that is not free is one of them
pub record IsKept {A : Type 0} (frees : List Bool) (xs : List A) (x : A) : Type 0 where
  pub place : ℕ
  pub is : slice_get (kept frees xs) place ≡ Some x

pub kept_there : {A : Type 0} (frees : List Bool) (xs : List A) (i : ℕ) (x : A) → slice_get xs i ≡ Some x → get_or frees i false ≡ false → IsKept frees xs x
kept_there [] xs i x at known = record { place = i; is = at }
kept_there (free ∷ frees) [] i x at known = cc
kept_there (true ∷ frees) (y ∷ xs) zero x at known = absurd (true≢false known)
kept_there (true ∷ frees) (y ∷ xs) (suc i) x at known = let k = kept_there frees xs i x at known in record { place = k.place; is = k.is }
kept_there (false ∷ frees) (y ∷ xs) zero x at known = record { place = zero; is = at }
kept_there (false ∷ frees) (y ∷ xs) (suc i) x at known = let k = kept_there frees xs i x at known in record { place = suc k.place; is = k.is }
