-- A table of places, filled module by module.
use Rattle.std.proofs.Common.{◌≡◌, ℕ, ◌<◌, ◌≤◌, ◌+◌, Bool, true, false, cond, not, List, [], ◌∷◌, ◌++◌, length, get_or, set, take, refl}
use Rattle.std.proofs.Common.{arith, ap, sym, ◌∙◌, ⊎_elim, nat_eq, get_or-set_same, get_or-set_other, Option, Some, None, length-take}
use Rattle.std.specs.Prelude.{unwrap_or, replicate}
use Rattle.std.proofs.lemmas.Bool.{eqb-true, eqb-false, eq-eqb, ne_eqb, lt-ltb, le-ltb, cases_lt}
use Rattle.std.proofs.lemmas.List.{length-set, take_more, get_or-replicate, get_or_past, length-replicate}
use Rattle.std.proofs.lemmas.List.Elements.{recursion_from_All}
use Rattle.std.specs.List.{All, AllByRecursion}
use Rattle.std.proofs.lemmas.List.Folds.{position_or_len_push}
use Rattle.bs_flat_meaning.specs.Reading.{is_id}
use Rattle.bs_flat_meaning.specs.Places.{past, noted, place_by_id, within, ArePlaces}

-- where the first modules have their places
pub record ArePlacesOf (ids table : List (Option ℕ)) (size count : ℕ) : Type 0 where
  pub wide : length table ≡ size
  pub each : (id : ℕ) → id < size → get_or table id None ≡ within count (place_by_id (take count ids) id)

within_yes : (count n : ℕ) → n < count → within count n ≡ Some n
within_yes count n lt = ap (λ b. cond b (Some n) None) (lt-ltb n count lt)

within_not : (count n : ℕ) → count ≤ n → within count n ≡ None
within_not count n le = ap (λ b. cond b (Some n) None) (le-ltb n count le)

pub places_none : (ids : List (Option ℕ)) (size : ℕ) → ArePlacesOf ids (replicate size None) size 0
places_none ids size =
    let none : Option ℕ = None in
    record { wide = length-replicate size none; each = λ id lt. get_or-replicate size id none none lt ∙ sym (within_not 0 (place_by_id [] id) (omega arith)) }

place_within : (ids : List (Option ℕ)) (id : ℕ) → place_by_id ids id ≤ length ids
place_within [] id = omega arith
place_within (o ∷ os) id = by (is_id id o) (place_within os id)
  where
    by : (b : Bool) → place_by_id os id ≤ length os → cond (not b) (1 + place_by_id os id) 0 ≤ length (o ∷ os)
    by true le = omega arith
    by false le = omega (arith, le)

-- the place after one more module, whose name is another's
place_other : (ids : List (Option ℕ)) (id k : ℕ) (o : Option ℕ) → length ids ≡ k → is_id id o ≡ false →
    within (k + 1) (place_by_id (ids ++ o ∷ []) id) ≡ within k (place_by_id ids id)
place_other ids id k o wide e =
    let P = place_by_id ids id in
    let le = place_within ids id in
    let pushed : place_by_id (ids ++ o ∷ []) id ≡ cond (nat_eq P (length ids)) (length ids + 1) P =
    position_or_len_push (is_id id) ids o ∙ ap (λ b. cond (nat_eq P (length ids)) (length ids + cond b 0 1) P) e in
    ⊎_elim
    (λ (b : P < k).
    let apart = ne_eqb P (length ids) (λ s. absurd (omega (arith, s, b, wide))) in
    let same : place_by_id (ids ++ o ∷ []) id ≡ P = pushed ∙ ap (λ t. cond t (length ids + 1) P) apart in
    ap (within (k + 1)) same ∙ (within_yes (k + 1) P (omega (arith, b)) ∙ sym (within_yes k P b)))
    (λ (g : k ≤ P).
    let equal = eq-eqb P (length ids) (omega (arith, g, le, wide)) in
    let same : place_by_id (ids ++ o ∷ []) id ≡ length ids + 1 = pushed ∙ ap (λ t. cond t (length ids + 1) P) equal in
    ap (within (k + 1)) same ∙ (within_not (k + 1) (length ids + 1) (omega (arith, wide)) ∙ sym (within_not k P g)))
    (cases_lt P k)

-- and where it is this one
place_own : (ids : List (Option ℕ)) (id k : ℕ) (o : Option ℕ) → length ids ≡ k → is_id id o ≡ true →
    within (k + 1) (place_by_id (ids ++ o ∷ []) id) ≡ Some (unwrap_or (within k (place_by_id ids id)) k)
place_own ids id k o wide e =
    let P = place_by_id ids id in
    let le = place_within ids id in
    let pushed : place_by_id (ids ++ o ∷ []) id ≡ cond (nat_eq P (length ids)) (length ids + 0) P =
    position_or_len_push (is_id id) ids o ∙ ap (λ b. cond (nat_eq P (length ids)) (length ids + cond b 0 1) P) e in
    ⊎_elim
    (λ (b : P < k).
    let apart = ne_eqb P (length ids) (λ s. absurd (omega (arith, s, b, wide))) in
    let same : place_by_id (ids ++ o ∷ []) id ≡ P = pushed ∙ ap (λ t. cond t (length ids + 0) P) apart in
    ap (within (k + 1)) same ∙ (within_yes (k + 1) P (omega (arith, b)) ∙ sym (ap (λ q. Some (unwrap_or q k)) (within_yes k P b))))
    (λ (g : k ≤ P).
    let equal = eq-eqb P (length ids) (omega (arith, g, le, wide)) in
    let same : place_by_id (ids ++ o ∷ []) id ≡ k = pushed ∙ (ap (λ t. cond t (length ids + 0) P) equal ∙ omega (arith, wide)) in
    ap (within (k + 1)) same ∙ (within_yes (k + 1) k (omega arith) ∙ sym (ap (λ q. Some (unwrap_or q k)) (within_not k P g))))
    (cases_lt P k)

pub places_more : (ids table after : List (Option ℕ)) (size k : ℕ) (d : Option ℕ) → k < length ids → past (get_or ids k d) ≤ size →
    after ≡ noted (get_or ids k d) k table → ArePlacesOf ids table size k → ArePlacesOf ids after size (k + 1)
places_more ids table after size k d lt low ea h =
    record {
      wide = ap length ea ∙ (wide_noted (get_or ids k d) ∙ h.wide);
      each =
          λ id li.
          ap (λ (t : List (Option ℕ)). get_or t id None) ea
          ∙ (by id li (get_or ids k d) low ∙ ap (λ os. within (k + 1) (place_by_id os id)) (sym (take_more ids k d lt)));
    }
  where
    count : length (take k ids) ≡ k
    count = let c = length-take k ids in omega (arith, c, lt)

    wide_noted : (o : Option ℕ) → length (noted o k table) ≡ length table
    wide_noted None = refl
    wide_noted (Some i) = length-set table i (Some (unwrap_or (get_or table i None) k))

    by : (id : ℕ) → id < size → (o : Option ℕ) → past o ≤ size →
        get_or (noted o k table) id None ≡ within (k + 1) (place_by_id (take k ids ++ o ∷ []) id)
    by id li None le = h.each id li ∙ sym (place_other (take k ids) id k None count refl)
    by id li (Some i) le = own (nat_eq i id) refl
      where
        own : (b : Bool) → nat_eq i id ≡ b →
            get_or (set table i (Some (unwrap_or (get_or table i None) k))) id None ≡ within (k + 1) (place_by_id (take k ids ++ Some i ∷ []) id)
        own true e =
            let same = eqb-true i id e in
            let wide = h.wide in
            ap (λ n. get_or (set table n (Some (unwrap_or (get_or table n None) k))) id None) same
            ∙ (get_or-set_same table id (Some (unwrap_or (get_or table id None) k)) None (omega (arith, li, wide))
            ∙ (ap (λ q. Some (unwrap_or q k)) (h.each id li) ∙ sym (place_own (take k ids) id k (Some i) count e)))
        own false e =
            get_or-set_other table i id (Some (unwrap_or (get_or table i None) k)) None (λ s. eqb-false i id e (sym s))
            ∙ (h.each id li ∙ sym (place_other (take k ids) id k (Some i) count e))

-- a number past those of all names has no place
place_past : (ids : List (Option ℕ)) (size id : ℕ) → AllByRecursion (λ o. past o ≤ size) ids → size ≤ id → length ids ≤ place_by_id ids id
place_past [] size id low le = omega arith
place_past (o ∷ os) size id low le = by o low.0 (is_id id o) refl (place_past os size id low.1 le)
  where
    by : (o : Option ℕ) → past o ≤ size → (b : Bool) → is_id id o ≡ b → length os ≤ place_by_id os id →
        length (o ∷ os) ≤ cond (not b) (1 + place_by_id os id) 0
    by o l false e rest = omega (arith, rest)
    by (Some i) l true e rest = let same = eqb-true i id e in absurd (omega (arith, same, l, le))
    by None l true e rest = absurd (none e)
      where
        none : false ≡ true → ⊥
        none q = cc

pub places_all : (ids table : List (Option ℕ)) (size count : ℕ) → length ids ≤ count → count ≤ length ids → All (λ o. past o ≤ size) ids →
    ArePlacesOf ids table size count → ArePlaces ids table
places_all ids table size count all few low h =
    let same : count ≡ length ids = omega (arith, all, few) in
    let wide = h.wide in
    record {
      each =
          λ id.
          ⊎_elim
          (λ (lt : id < size).
          h.each id lt
          ∙ (ap (λ n. within n (place_by_id (take n ids) id)) same ∙ ap (λ os. within (length ids) (place_by_id os id)) (take_all_of ids)))
          (λ (le : size ≤ id).
          get_or_past table id None (omega (arith, le, wide))
          ∙ sym (within_not (length ids) (place_by_id ids id) (place_past ids size id (recursion_from_All (λ o. past o ≤ size) ids low) le)))
          (cases_lt id size);
    }
  where
    take_all_of : (os : List (Option ℕ)) → take (length os) os ≡ os
    take_all_of [] = refl
    take_all_of (o ∷ os) = ap (λ l. o ∷ l) (take_all_of os)
