-- The values of a solution, place by place.
use Rattle.std.proofs.Common.{◌≡◌, ℕ, zero, suc, ◌+◌, ◌<◌, Bool, false, List, [], ◌∷◌, ◌++◌, length, refl, ap, ◌∙◌, Some, arith}
use Rattle.std.specs.Prelude.{slice_get, replicate}
use Rattle.std.proofs.lemmas.List.{length-map, length-append, length-replicate}
use Rattle.bs_solve_lemmas.specs.Values.{values_of}
use Rattle.bs_watch.proofs.Gets.{get_left, get_map}

get_past : {X : Type 0} (xs ys : List X) (k j : ℕ) (x : X) → k ≡ length xs + j → slice_get ys j ≡ Some x → slice_get (xs ++ ys) k ≡ Some x
get_past [] ys k j x at e = let same : k ≡ j = omega (arith, at) in ap (slice_get ys) same ∙ e
get_past (y ∷ xs) ys zero j x at e = absurd (omega (arith, at))
get_past (y ∷ xs) ys (suc k) j x at e = get_past xs ys k j x (omega (arith, at)) e

get_filled : {X : Type 0} (n k : ℕ) (x : X) → k < n → slice_get (replicate n x) k ≡ Some x
get_filled zero k x h = absurd (omega (arith, h))
get_filled (suc n) zero x h = refl
get_filled (suc n) (suc k) x h = get_filled n k x (omega (arith, h))

pub value_in_front : (front back : List Bool) (falses k : ℕ) (b : Bool) → slice_get front k ≡ Some b → slice_get (values_of front falses back) k ≡ Some (Some b)
value_in_front front back falses k b e =
    get_map Some (front ++ (replicate falses false ++ back)) k b (get_left front (replicate falses false ++ back) k b e)

pub value_in_middle : (front back : List Bool) (falses k j : ℕ) → k ≡ length front + j → j < falses →
    slice_get (values_of front falses back) k ≡ Some (Some false)
value_in_middle front back falses k j at h =
    get_map Some (front ++ (replicate falses false ++ back)) k false
    (get_past front (replicate falses false ++ back) k j false at (get_left (replicate falses false) back j false (get_filled falses j false h)))

pub value_behind : (front back : List Bool) (falses k j : ℕ) (b : Bool) → k ≡ length front + falses + j → slice_get back j ≡ Some b →
    slice_get (values_of front falses back) k ≡ Some (Some b)
value_behind front back falses k j b at e =
    get_map Some (front ++ (replicate falses false ++ back)) k b
    (get_past front (replicate falses false ++ back) k (falses + j) b (omega (arith, at))
    (get_past (replicate falses false) back (falses + j) j b (let long = length-replicate falses false in omega (arith, long)) e))

pub length_values : (front back : List Bool) (falses : ℕ) → length (values_of front falses back) ≡ length front + falses + length back
length_values front back falses =
    let mapped = length-map (front ++ (replicate falses false ++ back)) (λ (b : Bool). Some b) in
    let outer = length-append front (replicate falses false ++ back) in
    let inner = length-append (replicate falses false) back in
    let filled = length-replicate falses false in
    omega (arith, mapped, outer, inner, filled)
