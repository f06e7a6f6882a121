-- Ids in ascending order, and those that go.
use Rattle.std.proofs.Common.{◌≡◌, ◌≢◌, ℕ, zero, suc, ◌+◌, ◌<◌, ◌≤◌, arith, Bool, true, false, not, ◌||◌, List, [], ◌∷◌, ◌++◌, length, take, get_or}
use Rattle.std.proofs.Common.{refl, sym, ap, subst, ◌∙◌, inl, inr, ◌⊎◌, Some, eqb}
use Rattle.std.specs.Prelude.{All, Contains, slice_get}
use Rattle.std.specs.List.{list_any}
use Rattle.std.proofs.lemmas.Bool.{cases_Bool, cases_lt, cases_eq, eq-eqb, eqb-true, ne_eqb, false≢true}
use Rattle.std.proofs.lemmas.List.Elements.{All-contains, All-push, All-weaker}
use Rattle.std.proofs.lemmas.Option.{slice_get-get_or}
use Rattle.bs_solve_lemmas.specs.Ids.{Rises, is_among}
use Rattle.bs_watch.proofs.Gets.{none_is_not_some, same_some, get_from_Contains, Contains_from_get, take_get, take_push_at}
use Rattle.bs_solve_lemmas.proofs.Clauses.{nothing_in, contains_first, contains_cases, cons_contains, all_from}

-- ---- whether an id is among others

among_from : (ids : List ℕ) (id : ℕ) → Contains ids id → is_among ids id ≡ true
among_from [] id there = absurd (nothing_in id there)
among_from (x ∷ ids) id there = elim (contains_cases x ids id there) [
  | inl same ↦ ap (λ b. b || is_among ids id) (eq-eqb id x (sym same))
  | inr later ↦ ap (λ b. eqb id x || b) (among_from ids id later) ∙ or_on (eqb id x)
]
  where
    or_on : (b : Bool) → (b || true) ≡ true
    or_on true = refl
    or_on false = refl

pub among_not : (ids : List ℕ) (id : ℕ) → ((d : ℕ) → Contains ids d → d ≢ id) → is_among ids id ≡ false
among_not [] id other = refl
among_not (x ∷ ids) id other =
    ap (λ b. b || is_among ids id) (ne_eqb id x (λ same. other x (contains_first x ids) (sym same))) ∙
    among_not ids id (λ d there. other d (cons_contains x ids d there))

-- ---- a cursor over those that go

-- one more is less
pub less_next : (gone : List ℕ) (id n d : ℕ) → All (λ x. x < id) (take n gone) → n < length gone → get_or gone n d < id →
    All (λ x. x < id) (take (n + 1) gone)
less_next gone id n d all within less =
    subst (λ xs. All (λ x. x < id) xs)
    (sym (ap (λ k. take k gone) (let e : n + 1 ≡ suc n = omega arith in e) ∙ take_push_at gone n (get_or gone n d) (slice_get-get_or gone n d within)))
    (All-push (λ x. x < id) (take n gone) (get_or gone n d) all less)

-- the id goes where it is the first that is not less
pub among_here : (gone : List ℕ) (id n d : ℕ) → Rises gone → All (λ x. x < id) (take n gone) → n < length gone → id ≤ get_or gone n d →
    eqb (get_or gone n d) id ≡ is_among gone id
among_here gone id n d rises all within low = elim (cases_Bool (eqb (get_or gone n d) id)) [
  | inl same ↦ same ∙ sym (among_from gone id (subst (Contains gone) (eqb-true (get_or gone n d) id same)
      (Contains_from_get gone n (get_or gone n d) (slice_get-get_or gone n d within))))
  | inr other ↦ other ∙ sym (among_not gone id (λ x there same.
      let (k, at) = get_from_Contains gone x there in
      elim (cases_lt k n) [
        | inl before ↦
            let less : x < id = All-contains (λ y. y < id) (take n gone) x all (Contains_from_get (take n gone) k x (take_get n gone k x before at)) in
            absurd (omega (arith, less, same))
        | inr past ↦ elim (cases_eq n k) [
          | inl here ↦
              let is : get_or gone n d ≡ x =
              same_some (get_or gone n d) x (sym (slice_get-get_or gone n d within) ∙ ap (slice_get gone) here ∙ at) in
              absurd (false≢true (sym other ∙ eq-eqb (get_or gone n d) id (is ∙ same)))
          | inr apart ↦
              let over = rises.below n k (get_or gone n d) x (omega (arith, past, λ (e : n ≡ k). apart e)) (slice_get-get_or gone n d within) at in
              absurd (omega (arith, over, low, same))
        ]
      ]))
]

-- and stays where all are less
pub among_none : (gone : List ℕ) (id n : ℕ) → All (λ x. x < id) (take n gone) → length gone ≤ n → is_among gone id ≡ false
among_none gone id n all past = among_not gone id (λ x there same.
    let (k, at) = get_from_Contains gone x there in
    let less : x < id = All-contains (λ y. y < id) (take n gone) x all
    (Contains_from_get (take n gone) k x (take_get n gone k x (let w = slice_get_before gone k x at in omega (arith, w, past)) at)) in
    omega (arith, less, same))
  where
    slice_get_before : (xs : List ℕ) (k x : ℕ) → slice_get xs k ≡ Some x → k < length xs
    slice_get_before [] k x e = absurd (none_is_not_some x e)
    slice_get_before (y ∷ xs) zero x e = omega arith
    slice_get_before (y ∷ xs) (suc k) x e = let h = slice_get_before xs k x e in omega (arith, h)

-- what is less than the first stays
pub below_stays : (gone : List ℕ) (id d : ℕ) → Rises gone → 0 < length gone → id < get_or gone 0 d → is_among gone id ≡ false
below_stays gone id d rises some less = among_not gone id (λ x there same.
    let (k, at) = get_from_Contains gone x there in
    elim (cases_eq 0 k) [
      | inl here ↦
          let is : get_or gone 0 d ≡ x = same_some (get_or gone 0 d) x (sym (slice_get-get_or gone 0 d some) ∙ ap (slice_get gone) here ∙ at) in
          absurd (omega (arith, less, is, same))
      | inr apart ↦
          let over = rises.below 0 k (get_or gone 0 d) x (omega (arith, λ (e : 0 ≡ k). apart e)) (slice_get-get_or gone 0 d some) at in
          absurd (omega (arith, less, over, same))
    ])

pub all_stay : (ids gone : List ℕ) (d : ℕ) → Rises gone → 0 < length gone → All (λ x. x < get_or gone 0 d) ids → All (λ x. is_among gone x ≡ false) ids
all_stay ids gone d rises some all =
    all_from (λ x. is_among gone x ≡ false) ids (λ x there. below_stays gone x d rises some (All-contains (λ y. y < get_or gone 0 d) ids x all there))

pub none_go : (ids gone : List ℕ) → length gone ≡ 0 → All (λ x. is_among gone x ≡ false) ids
none_go ids [] none = all_from (λ x. is_among [] x ≡ false) ids (λ x there. refl)
none_go ids (g ∷ gone) none = absurd (omega (arith, none))

-- what is less than one id is less than a later one
pub less_later : (ids gone : List ℕ) (n i j a b : ℕ) → Rises ids → slice_get ids i ≡ Some a → i < j → slice_get ids j ≡ Some b →
    All (λ x. x < a) (take n gone) → All (λ x. x < b) (take n gone)
less_later ids gone n i j a b rises at_i before at_j =
    let over : a < b = rises.below i j a b before at_i at_j in
    All-weaker (λ x. x < a) (λ x. x < b) (λ x less. omega (arith, less, over)) (take n gone)
