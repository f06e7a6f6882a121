-- The order of a heap by activity.
use Rattle.std.proofs.Common.{◌≡◌, ◌≢◌, ℕ, suc, zero, ◌+◌, ◌-◌, ◌/◌, ◌^◌, ◌<◌, ◌≤◌, arith, List, [], ◌∷◌, ◌++◌, length, get_or, replicate}
use Rattle.std.proofs.Common.{refl, sym, ap, subst, ◌∙◌, inl, inr, Option, Some, None, length-append}
use Rattle.std.specs.Prelude.{false, count_by}
use Rattle.std.proofs.lemmas.Bool.{cases_eq, cases_lt}
use Rattle.std.proofs.lemmas.List.{get_or_append_left, get_or_past, get_or-replicate, length-replicate}
use Rattle.std.proofs.Math.Seq.{get_or-append_seam}
use Rattle.bs_arena.specs.Heap.{at_place, key, IsChild, IsSorted, IsSortedBut, IsSortedButOf, IsMostActive, IsRaised, IsOrder, members, IsIndexed, place_of}
use Rattle.bs_arena.proofs.Fitting.{widened}
use Rattle.bs_arena.proofs.Gets.{none_is_not_some, same_some}

pub one_parent : (p q c : ℕ) → IsChild p c → IsChild q c → p ≡ q
one_parent p q c (inl a) (inl b) = omega (arith, a, b)
one_parent p q c (inl a) (inr b) = absurd (omega (arith, a, b))
one_parent p q c (inr a) (inl b) = absurd (omega (arith, a, b))
one_parent p q c (inr a) (inr b) = omega (arith, a, b)

pub below_parent : (p c : ℕ) → IsChild p c → p < c
below_parent p c (inl a) = omega (arith, a)
below_parent p c (inr a) = omega (arith, a)

pub parent_is : (at : ℕ) → 0 < at → IsChild ((at - 1) / 2) at
parent_is at some = elim (cases_eq at ((at - 1) / 2 + (at - 1) / 2 + 1)) as (λ _. IsChild ((at - 1) / 2) at) [
  | inl left ↦ inl left
  | inr other ↦ inr (omega (arith, some, other))
]

highest_below : (h acts : List ℕ) → IsSorted h acts → (n p : ℕ) → p ≤ n → p < length h → key h acts p ≤ key h acts 0
highest_below h acts s zero p few within =
    let e : p ≡ 0 = omega (arith, few) in
    let same : key h acts p ≡ key h acts 0 = ap (λ k. key h acts k) e in
    omega (arith, same)
highest_below h acts s (suc n) p few within = elim (cases_eq p 0) as (λ _. key h acts p ≤ key h acts 0) [
  | inl e ↦ let same : key h acts p ≡ key h acts 0 = ap (λ k. key h acts k) e in omega (arith, same)
  | inr some ↦
      let q = (p - 1) / 2 in
      let child : IsChild q p = parent_is p (omega (arith, some)) in
      let low : q < p = below_parent q p child in
      let up : key h acts p ≤ key h acts q = s.each q p child within in
      let rest : key h acts q ≤ key h acts 0 = highest_below h acts s n q (omega (arith, low, few)) (omega (arith, low, within)) in
      omega (arith, up, rest)
]

pub highest_first : (h acts : List ℕ) (p : ℕ) → IsSorted h acts → p < length h → key h acts p ≤ key h acts 0
highest_first h acts p s within = highest_below h acts s p p (omega arith) within

pub most_active : (h acts : List ℕ) (ps : List (Option ℕ)) (first : ℕ) → IsIndexed h ps → IsSorted h acts → first ≡ at_place h 0 → IsMostActive ps acts first
most_active h acts ps first f s is = record {
  each = λ v p e.
      let there = f.stands v p e in
      let up : key h acts p ≤ key h acts 0 = highest_first h acts p s there.0 in
      let left : key h acts p ≡ get_or acts v 0 = ap (λ u. get_or acts u 0) there.1 in
      let right : get_or acts first 0 ≡ key h acts 0 = ap (λ u. get_or acts u 0) is in
      omega (arith, up, left, right);
}

-- ---- other changes

pub sorted_added : (h acts : List ℕ) (v : ℕ) → IsSorted h acts → IsSortedBut (h ++ v ∷ []) acts (length h)
sorted_added h acts v s =
    let long : length (h ++ v ∷ []) ≡ length h + 1 = length-append h (v ∷ []) in
    record {
      others = λ p c is in' other.
          let low : p < c = below_parent p c is in
          let c_in : c < length h = elim (cases_lt c (length h)) [ inl l ↦ l | inr past ↦ absurd (other (omega (arith, past, in', long))) ] in
          let old : key h acts c ≤ key h acts p = s.each p c is c_in in
          let left : key (h ++ v ∷ []) acts c ≡ key h acts c = ap (λ u. get_or acts u 0) (get_or_append_left h (v ∷ []) 0 c c_in) in
          let right : key (h ++ v ∷ []) acts p ≡ key h acts p = ap (λ u. get_or acts u 0) (get_or_append_left h (v ∷ []) 0 p (omega (arith, low, c_in))) in
          omega (arith, old, left, right);
      around = λ p c over under in'. let low : length h < c = below_parent (length h) c under in absurd (omega (arith, low, in', long));
    }

zero_last : (acts : List ℕ) (v : ℕ) → get_or (acts ++ 0 ∷ []) v 0 ≡ get_or acts v 0
zero_last acts v = elim (cases_lt v (length acts)) as (λ _. get_or (acts ++ 0 ∷ []) v 0 ≡ get_or acts v 0) [
  | inl low ↦ get_or_append_left acts (0 ∷ []) 0 v low
  | inr past ↦ elim (cases_eq v (length acts)) as (λ _. get_or (acts ++ 0 ∷ []) v 0 ≡ get_or acts v 0) [
    | inl e ↦ ap (λ w. get_or (acts ++ 0 ∷ []) w 0) e ∙ get_or-append_seam acts 0 [] 0 ∙ sym (get_or_past acts v 0 past)
    | inr other ↦
        let long : length (acts ++ 0 ∷ []) ≡ length acts + 1 = length-append acts (0 ∷ []) in
        get_or_past (acts ++ 0 ∷ []) v 0 (omega (arith, long, past, other)) ∙ sym (get_or_past acts v 0 past)
  ]
]

pub sorted_widened : (h acts : List ℕ) → IsSorted h acts → IsSorted h (acts ++ 0 ∷ [])
sorted_widened h acts s = record {
  each = λ p c is in'.
      let left : key h (acts ++ 0 ∷ []) c ≡ key h acts c = zero_last acts (at_place h c) in
      let right : key h (acts ++ 0 ∷ []) p ≡ key h acts p = zero_last acts (at_place h p) in
      let old : key h acts c ≤ key h acts p = s.each p c is in' in
      omega (arith, old, left, right);
}

pub sorted_bumped : (h acts new : List ℕ) (ps : List (Option ℕ)) (v : ℕ) → IsIndexed h ps → IsSorted h acts → IsRaised acts new v → IsSortedButOf h new ps v
sorted_bumped h acts new ps v f s r =
    let more : get_or acts v 0 ≤ get_or new v 0 = r.more in
    record {
      out = λ none. record {
        each = λ p c is in'.
            let low : p < c = below_parent p c is in
            let p_in : p < length h = omega (arith, low, in') in
            let away = (λ (k : ℕ) (k_in : k < length h). r.others (at_place h k)
            (λ e. let n : ⊥ = none_is_not_some k (sym none ∙ ap (λ u. place_of ps u) (sym e) ∙ f.placed k k_in) in n)) in
            let left : key h new c ≡ key h acts c = away c in' in
            let right : key h new p ≡ key h acts p = away p p_in in
            let old : key h acts c ≤ key h acts p = s.each p c is in' in
            omega (arith, left, right, old);
      };
      in_place = λ at some.
          let there = f.stands v at some in
          let at_in : at < length h = there.0 in
          let same : key h acts at ≡ get_or acts v 0 = ap (λ u. get_or acts u 0) there.1 in
          let now : key h new at ≡ get_or new v 0 = ap (λ u. get_or new u 0) there.1 in
          let away : (k : ℕ) → k < length h → k ≢ at → key h new k ≡ key h acts k =
          (λ k k_in other. r.others (at_place h k) (λ e. other (same_some k at (sym (f.placed k k_in) ∙ ap (λ u. place_of ps u) e ∙ some)))) in
          record {
            others = λ p c is in' other.
                let low : p < c = below_parent p c is in
                let left : key h new c ≡ key h acts c = away c in' other in
                let old : key h acts c ≤ key h acts p = s.each p c is in' in
                elim (cases_eq p at) as (λ _. key h new c ≤ key h new p) [
                  | inl e ↦
                      let right : key h new p ≡ get_or new v 0 = ap (λ k. key h new k) e ∙ now in
                      let was : key h acts p ≡ key h acts at = ap (λ k. key h acts k) e in
                      omega (arith, left, right, old, was, same, more)
                  | inr p_other ↦
                      let right : key h new p ≡ key h acts p = away p (omega (arith, low, in')) p_other in
                      omega (arith, left, right, old)
                ];
            around = λ p c over under in'.
                let low : p < at = below_parent p at over in
                let lower : at < c = below_parent at c under in
                let left : key h new c ≡ key h acts c = away c in' (λ e. let n : ⊥ = omega (arith, e, lower) in n) in
                let right : key h new p ≡ key h acts p = away p (omega (arith, low, at_in)) (λ e. let n : ⊥ = omega (arith, e, low) in n) in
                let one : key h acts c ≤ key h acts at = s.each at c under in' in
                let two : key h acts at ≤ key h acts p = s.each p at over at_in in
                omega (arith, left, right, one, two);
          };
    }

pub order_grown : (h : List ℕ) (ps : List (Option ℕ)) (acts : List ℕ) (cap more : ℕ) → IsOrder h ps acts cap → length ps + 1 < more → length ps < 2 ^ 30 →
    IsOrder h (ps ++ None ∷ []) (acts ++ 0 ∷ []) more
order_grown h ps acts cap more o room small =
    let some = o.some in
    let scored = o.scored in
    let long : length (ps ++ None ∷ []) ≡ length ps + 1 = length-append ps (None ∷ []) in
    let acts_long : length (acts ++ 0 ∷ []) ≡ length acts + 1 = length-append acts (0 ∷ []) in
    record {
      fits = widened h ps o.fits;
      some = omega (arith, long);
      small = omega (arith, long, small);
      zero_is_out = get_or_append_left ps (None ∷ []) None 0 (omega (arith, some)) ∙ o.zero_is_out;
      scored = omega (arith, acts_long, long, scored);
      room = omega (arith, long, room);
      sorted = sorted_widened h acts o.sorted;
    }

-- ---- none waits

nothing_at : (k v p : ℕ) → place_of (replicate {A = Option ℕ} k None) v ≡ Some p → ⊥
nothing_at k v p e = elim (cases_lt v k) [
  | inl within ↦ none_is_not_some p (sym (get_or-replicate {A = Option ℕ} k v None None within) ∙ e)
  | inr past ↦ none_is_not_some p
      (sym (get_or_past (replicate {A = Option ℕ} k None) v None (let long : length (replicate {A = Option ℕ} k None) ≡ k = length-replicate k None in omega (arith, past, long))) ∙ e)
]

none_counted : (k : ℕ) → count_by (λ b. b) (members (replicate {A = Option ℕ} k None)) ≡ 0
none_counted zero = refl
none_counted (suc k) = none_counted k

empty_order : (n capacity : ℕ) → 1 ≤ n → n ≤ 2 ^ 30 → n < capacity → IsOrder [] (replicate n None) (replicate n 0) capacity
empty_order n capacity some small room =
    let long : length (replicate {A = Option ℕ} n None) ≡ n = length-replicate {A = Option ℕ} n None in
    let other : length (replicate {A = ℕ} n 0) ≡ n = length-replicate {A = ℕ} n 0 in
    record {
      fits = record {
        stands = λ v p e. absurd (nothing_at n v p e);
        placed = λ p within. absurd (omega (arith, within));
        counted = none_counted n;
      };
      some = omega (arith, long, some);
      small = omega (arith, long, small);
      zero_is_out = get_or-replicate {A = Option ℕ} n 0 None None some;
      scored = other ∙ sym long;
      room = omega (arith, long, room);
      sorted = record { each = λ p c is within. absurd (omega (arith, within)) };
    }

pub order_of_none : (vars capacity : ℕ) (h : List ℕ) (ps : List (Option ℕ)) (acts : List ℕ) → h ≡ [] → ps ≡ replicate (vars + 1) None →
    acts ≡ replicate (vars + 1) 0 → vars < 2 ^ 30 → vars + 1 < capacity → IsOrder h ps acts capacity
order_of_none vars capacity h ps acts is_h is_ps is_acts small room =
    subst (λ x. IsOrder x ps acts capacity) (sym is_h)
    (subst (λ x. IsOrder [] x acts capacity) (sym is_ps)
    (subst (λ x. IsOrder [] (replicate (vars + 1) None) x capacity) (sym is_acts)
    (empty_order (vars + 1) capacity (omega arith) (omega (arith, small)) room)))

pub none_wait : (n : ℕ) → members (replicate n None) ≡ replicate n false
none_wait zero = refl
none_wait (suc n) = ap (λ xs. false ∷ xs) (none_wait n)
