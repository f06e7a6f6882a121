-- Ascending pairs are searched by halves.
use Rattle.std.proofs.Common.{◌≡◌, ℕ, zero, suc, ◌+◌, ◌<◌, ◌≤◌, arith, Bool, true, false, cond, List, [], ◌∷◌, ◌++◌, length, get_or, find, refl, sym}
use Rattle.std.proofs.Common.{ap, subst, ◌∙◌, eqb, Some, None, inl, inr, All}
use Rattle.std.specs.Prelude.{option_map}
use Rattle.std.proofs.lemmas.Bool.{eq-eqb, ne_eqb, cases_order}
use Rattle.std.proofs.lemmas.List.{get_or_read, get_or_append_left, length-append}
use Rattle.std.proofs.lemmas.List.Elements.{All-get_or}
use Rattle.std.proofs.Math.Seq.{get_or-append_seam}
use Rattle.bs_arena.specs.Renaming.{new_name, IsAscending, IsPlaceOf}

-- the first that passes
find_here : {X : Type 0} (p : X → Bool) (xs : List X) (i : ℕ) (d : X) → ((k : ℕ) → k < i → p (get_or xs k d) ≡ false) → i < length xs →
    p (get_or xs i d) ≡ true →
    find p xs ≡ Some (get_or xs i d)
find_here p [] i d fails lt passes = absurd (omega (arith, lt))
find_here p (x ∷ xs) zero d fails lt passes = ap (λ b. cond b (Some x) (find p xs)) passes
find_here p (x ∷ xs) (suc i) d fails lt passes =
    ap (λ b. cond b (Some x) (find p xs)) (fails 0 (omega arith)) ∙ find_here p xs i d (λ k h. fails (suc k) (omega (arith, h))) (omega (arith, lt)) passes

find_nowhere : {X : Type 0} (p : X → Bool) (xs : List X) (d : X) → ((k : ℕ) → k < length xs → p (get_or xs k d) ≡ false) → find p xs ≡ None
find_nowhere p [] d fails = refl
find_nowhere p (x ∷ xs) d fails =
    ap (λ b. cond b (Some x) (find p xs)) (fails 0 (omega arith)) ∙ find_nowhere p xs d (λ k h. fails (suc k) (omega (arith, h)))

pub named_here : (names : List (ℕ × ℕ)) (r place : ℕ) (d : ℕ × ℕ) → IsPlaceOf names r place → place < length names → (get_or names place d).0 ≡ r →
    new_name names r ≡ Some ((get_or names place d).1)
named_here names r place d at lt same =
    ap (option_map (λ (n : ℕ × ℕ). n.1)) (find_here (λ (n : ℕ × ℕ). eqb n.0 r) names place d
    (λ k h. ne_eqb (get_or names k d).0 r (λ e. let before = at.before k d h (omega (arith, h, lt)) in omega (arith, before, e))) lt
    (eq-eqb (get_or names place d).0 r same))

-- the place is past the end, or holds another reference
pub named_nowhere : (names : List (ℕ × ℕ)) (r place : ℕ) (d : ℕ × ℕ) → IsAscending names → IsPlaceOf names r place →
    (place < length names → (get_or names place d).0 ≡ r → ⊥) →
    new_name names r ≡ None
named_nowhere names r place d up at other =
    let elsewhere : (k : ℕ) → k < length names → (get_or names k d).0 ≡ r → ⊥ = λ k h e.
    elim (cases_order k place) as (λ _. ⊥) [
      | inl same ↦ other (omega (arith, h, same)) (ap (λ n. (get_or names n d).0) (sym same) ∙ e)
      | inr apart ↦ elim apart as (λ _. ⊥) [
        | inl less ↦ let before = at.before k d less h in omega (arith, before, e)
        | inr more ↦
            let above = up.ascends place k d more h in
            let here = at.after place d (omega arith) (omega (arith, more, h)) in
            omega (arith, above, here, e)
      ]
    ] in
    ap (option_map (λ (n : ℕ × ℕ). n.1)) (find_nowhere (λ (n : ℕ × ℕ). eqb n.0 r) names d (λ k h. ne_eqb (get_or names k d).0 r (λ e. elsewhere k h e)))

-- one more pair beyond all
pub ascends_more : (names : List (ℕ × ℕ)) (name : ℕ × ℕ) → IsAscending names → All (λ (n : ℕ × ℕ). n.0 < name.0) names → IsAscending (names ++ name ∷ [])
ascends_more names name up beyond = record {
  ascends = λ i j d less within.
      let left : (k : ℕ) → k < length names → get_or (names ++ name ∷ []) k d ≡ get_or names k d = λ k lt. get_or_append_left names (name ∷ []) d k lt in
      elim (cases_order j (length names)) [
        | inl last ↦
            let here : get_or (names ++ name ∷ []) j d ≡ name = ap (λ k. get_or (names ++ name ∷ []) k d) last ∙ get_or-append_seam names name [] d in
            let before = All-get_or (λ (n : ℕ × ℕ). n.0 < name.0) names i d (omega (arith, less, last)) beyond in
            omega (arith, before, ap (λ (n : ℕ × ℕ). n.0) here, ap (λ (n : ℕ × ℕ). n.0) (left i (omega (arith, less, last))))
        | inr apart ↦ elim apart [
          | inl inside ↦
              let ascends = up.ascends i j d less inside in
              omega (arith, ascends, ap (λ (n : ℕ × ℕ). n.0) (left i (omega (arith, less, inside))), ap (λ (n : ℕ × ℕ). n.0) (left j inside))
          | inr past ↦ absurd (omega (arith, past, within, length-append names (name ∷ [])))
        ]
      ];
}

-- ---- the search by halves: m is the reference read at the middle

pub before_more : (names : List (ℕ × ℕ)) (r middle : ℕ) (m : ℕ × ℕ) → IsAscending names → middle < length names → m ≡ get_or names middle m → m.0 < r →
    (i : ℕ) (d : ℕ × ℕ) → i < middle + 1 → (get_or names i d).0 < r
before_more names r middle m up lt read less i d below =
    let here : m ≡ get_or names middle d = get_or_read names middle m lt read d in
    elim (cases_order i middle) [
      | inl same ↦ subst (λ k. (get_or names k d).0 < r) (sym same) (subst (λ (n : ℕ × ℕ). n.0 < r) here less)
      | inr apart ↦ elim apart [
        | inl before ↦ let ascends = up.ascends i middle d before lt in omega (arith, ascends, less, ap (λ (n : ℕ × ℕ). n.0) here)
        | inr after ↦ absurd (omega (arith, below, after))
      ]
    ]

pub after_more : (names : List (ℕ × ℕ)) (r middle : ℕ) (m : ℕ × ℕ) → IsAscending names → middle < length names → m ≡ get_or names middle m → r ≤ m.0 →
    (i : ℕ) (d : ℕ × ℕ) → middle ≤ i → i < length names → r ≤ (get_or names i d).0
after_more names r middle m up lt read more i d above within =
    let here : m ≡ get_or names middle d = get_or_read names middle m lt read d in
    elim (cases_order i middle) [
      | inl same ↦ subst (λ k. r ≤ (get_or names k d).0) (sym same) (subst (λ (n : ℕ × ℕ). r ≤ n.0) here more)
      | inr apart ↦ elim apart [
        | inl before ↦ absurd (omega (arith, above, before))
        | inr after ↦ let ascends = up.ascends middle i d after within in omega (arith, ascends, more, ap (λ (n : ℕ × ℕ). n.0) here)
      ]
    ]
