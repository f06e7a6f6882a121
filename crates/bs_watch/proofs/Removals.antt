-- The element at a place after a write, an exchange and a removal.
use Rattle.std.proofs.Common.{◌≡◌, ◌≢◌, ℕ, zero, suc, ◌+◌, ◌-◌, ◌<◌, ◌≤◌, arith, List, [], ◌∷◌, ◌++◌, length, get_or, set, take, swap, swap_remove}
use Rattle.std.proofs.Common.{refl, sym, ap, subst, ◌∙◌, inl, inr, ◌⊎◌, Some}
use Rattle.std.specs.Prelude.{Contains, slice_get}
use Rattle.std.proofs.lemmas.Bool.{cases_eq, cases_lt}
use Rattle.std.proofs.lemmas.List.{length-set, length-take}
use Rattle.std.proofs.lemmas.List.Edits.{swap_is}
use Rattle.std.proofs.lemmas.Option.{slice_get-get_or, get_or_from_slice_get}
use Rattle.bs_watch.proofs.Gets.{none_is_not_some, same_some, get_take, take_get, get_within}

pub get_set_same : {X : Type 0} (xs : List X) (i : ℕ) (x : X) → i < length xs → slice_get (set xs i x) i ≡ Some x
get_set_same [] i x h = absurd (omega arith)
get_set_same (y ∷ xs) zero x h = refl
get_set_same (y ∷ xs) (suc i) x h = get_set_same xs i x (omega arith)

pub get_set_other : {X : Type 0} (xs : List X) (i k : ℕ) (x : X) → k ≢ i → slice_get (set xs i x) k ≡ slice_get xs k
get_set_other [] i k x h = refl
get_set_other (y ∷ xs) zero zero x h = absurd (h refl)
get_set_other (y ∷ xs) zero (suc k) x h = refl
get_set_other (y ∷ xs) (suc i) zero x h = refl
get_set_other (y ∷ xs) (suc i) (suc k) x h = get_set_other xs i k x (λ e. h (ap suc e))

-- ---- two elements exchanged

pub get_swap_first : {X : Type 0} (xs : List X) (i j : ℕ) (x y : X) → i ≢ j → slice_get xs i ≡ Some x → slice_get xs j ≡ Some y →
    slice_get (swap xs i j) i ≡ Some y
get_swap_first xs i j x y apart at_i at_j =
    let in_i : i < length xs = get_within xs i x at_i in
    let in_j : j < length xs = get_within xs j y at_j in
    ap (λ ys. slice_get ys i) (sym (swap_is xs i j x in_i in_j)) ∙
    get_set_other (set xs i (get_or xs j x)) j i (get_or xs i x) apart ∙ get_set_same xs i (get_or xs j x) in_i ∙ ap Some (get_or_from_slice_get xs j y x at_j)

pub get_swap_second : {X : Type 0} (xs : List X) (i j : ℕ) (x y : X) → slice_get xs i ≡ Some x → slice_get xs j ≡ Some y → slice_get (swap xs i j) j ≡ Some x
get_swap_second xs i j x y at_i at_j =
    let in_i : i < length xs = get_within xs i x at_i in
    let in_j : j < length xs = get_within xs j y at_j in
    ap (λ ys. slice_get ys j) (sym (swap_is xs i j x in_i in_j)) ∙
    get_set_same (set xs i (get_or xs j x)) j (get_or xs i x) (omega (arith, in_j, length-set xs i (get_or xs j x)))
    ∙ ap Some (get_or_from_slice_get xs i x x at_i)

pub get_swap_other : {X : Type 0} (xs : List X) (i j k : ℕ) (x y : X) → slice_get xs i ≡ Some x → slice_get xs j ≡ Some y → k ≢ i → k ≢ j →
    slice_get (swap xs i j) k ≡ slice_get xs k
get_swap_other xs i j k x y at_i at_j not_i not_j =
    let in_i : i < length xs = get_within xs i x at_i in
    let in_j : j < length xs = get_within xs j y at_j in
    ap (λ ys. slice_get ys k) (sym (swap_is xs i j x in_i in_j)) ∙
    get_set_other (set xs i (get_or xs j x)) j k (get_or xs i x) not_j ∙ get_set_other xs i k (get_or xs j x) not_i

-- ---- the last element in the place of one

removed_is : {X : Type 0} (xs : List X) (i : ℕ) (d : X) → swap_remove xs i d ≡ take (length xs - 1) (set xs i (get_or xs (length xs - 1) d))
removed_is xs i d = refl

pub removed_front : {X : Type 0} (xs : List X) (i k : ℕ) (d x : X) → i < length xs → k < i → slice_get (swap_remove xs i d) k ≡ Some x → slice_get xs k ≡ Some x
removed_front xs i k d x within before e =
    let t = get_take (length xs - 1) (set xs i (get_or xs (length xs - 1) d)) k x e in
    sym (get_set_other xs i k (get_or xs (length xs - 1) d) (λ same. omega (arith, same, before))) ∙ t.1

-- an element that is left stood there, or was the last one
pub removed_cases : {X : Type 0} (xs : List X) (i k : ℕ) (d x : X) → i < length xs → slice_get (swap_remove xs i d) k ≡ Some x →
    (k + 1 < length xs) × (((k ≢ i) × (slice_get xs k ≡ Some x)) ⊎ ((k ≡ i) × (slice_get xs (length xs - 1) ≡ Some x)))
removed_cases xs i k d x within e =
    let t = get_take (length xs - 1) (set xs i (get_or xs (length xs - 1) d)) k x e in
    let before : k < length xs - 1 = t.0 in (
      omega (arith, before),
      elim (cases_eq k i) as (λ _. ((k ≢ i) × (slice_get xs k ≡ Some x)) ⊎ ((k ≡ i) × (slice_get xs (length xs - 1) ≡ Some x))) [
        | inl same ↦ inr (
          same,
          slice_get-get_or xs (length xs - 1) d (omega (arith, within)) ∙ sym (get_set_same xs i (get_or xs (length xs - 1) d) within)
              ∙ ap (slice_get (set xs i (get_or xs (length xs - 1) d))) (sym same) ∙ t.1,
        )
        | inr other ↦ inl (other, sym (get_set_other xs i k (get_or xs (length xs - 1) d) other) ∙ t.1)
      ],
    )

-- an element at another place is still there
pub removed_keeps : {X : Type 0} (xs : List X) (i k : ℕ) (d x : X) → i < length xs → k ≢ i → slice_get xs k ≡ Some x →
    (j : ℕ) × (slice_get (swap_remove xs i d) j ≡ Some x)
removed_keeps xs i k d x within other there =
    let in_k : k < length xs = get_within xs k x there in
    elim (cases_eq (k + 1) (length xs)) as (λ _. (j : ℕ) × (slice_get (swap_remove xs i d) j ≡ Some x)) [
      | inl last ↦
          let at : k ≡ length xs - 1 = omega (arith, last) in (
            i,
            take_get (length xs - 1) (set xs i (get_or xs (length xs - 1) d)) i x (omega (arith, last, within, other))
                (get_set_same xs i (get_or xs (length xs - 1) d) within ∙ ap Some (ap (λ n. get_or xs n d) (sym at) ∙ get_or_from_slice_get xs k x d there)),
          )
      | inr inner ↦ (
        k,
        take_get (length xs - 1) (set xs i (get_or xs (length xs - 1) d)) k x (omega (arith, inner, in_k))
            (get_set_other xs i k (get_or xs (length xs - 1) d) other ∙ there),
      )
    ]

pub length_removed : {X : Type 0} (xs : List X) (i : ℕ) (d : X) → 0 < length xs → length (swap_remove xs i d) + 1 ≡ length xs
length_removed xs i d some =
    omega (arith, some, length-set xs i (get_or xs (length xs - 1) d), length-take (length xs - 1) (set xs i (get_or xs (length xs - 1) d)))
