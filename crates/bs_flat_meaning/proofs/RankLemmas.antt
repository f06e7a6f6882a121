-- A ring, an order and the tops of numbers are those of the modules that were read.
use Rattle.std.proofs.Common.{◌≡◌, ℕ, zero, suc, ◌+◌, ◌<◌, ◌≤◌, Bool, true, false, ◌||◌, cond, not, arith, List, [], ◌∷◌, map, length, get_or, refl, subst, ap, sym, ◌∙◌}
use Rattle.std.proofs.Common.{Option, nat_eq}
use Rattle.std.specs.Prelude.{filter}
use Rattle.std.specs.List.{All, AllByRecursion, IsDistinct, list_any, range_with_len}
use Rattle.std.proofs.lemmas.Bool.{eqb-true}
use Rattle.std.proofs.lemmas.List.{length-map}
use Rattle.std.proofs.lemmas.List.FromFn.{length-range_with_len}
use Rattle.std.proofs.lemmas.List.Sums.{passes_at_first}
use Rattle.std.proofs.lemmas.Map.Keys.{IsDistinct-cons}
use Rattle.std.proofs.lemmas.Map.Steps.{length-le_from_distinct_below}
use Rattle.bs_flat_meaning.specs.declared.statements.Written.{Written}
use Rattle.bs_flat_meaning.specs.Pieces.{Piece, name_id}
use Rattle.bs_flat_meaning.specs.Connecting.{ReadModule}
use Rattle.bs_flat_meaning.specs.Reading as reading
use Rattle.bs_flat_meaning.specs.Rings as rings
use Rattle.bs_flat_meaning.proofs.RingLemmas.{any_place}
use Rattle.bs_flat_meaning.specs.Ring.{place_in_order, IsChildrenFirst}
use Rattle.bs_flat_meaning.proofs.LevelLemmas.{flips}
use Rattle.bs_flat_meaning.specs.Places.{place_by_id}
use Rattle.bs_flat_meaning.specs.ModuleNumbers.{numbers_of, numbers_by}
use Rattle.bs_flat_meaning.specs.Hierarchy.{AreOf, IsRingOf, IsRankedSo}
use Rattle.bs_flat_meaning.specs.declared.ranks.Ranked as code

place_same : (ms : List Piece) (id : ℕ) → place_by_id (map name_id ms) id ≡ reading.place_in ms id
place_same [] id = refl
place_same (m ∷ ms) id = ap (λ n. cond (not (reading.is_id id (name_id m))) (1 + n) 0) (place_same ms id)

numbers_same : (ms : List Piece) (ws : List Written) → numbers_of (map name_id ms) ws ≡ map (λ w. reading.place_in ms w.of.id) ws
numbers_same ms [] = refl
numbers_same ms (w ∷ ws) =
    ap (λ n. n ∷ numbers_of (map name_id ms) ws) (place_same ms w.of.id) ∙ ap (λ l. reading.place_in ms w.of.id ∷ l) (numbers_same ms ws)

by_same : (ms : List Piece) (ks : List ReadModule) → numbers_by (map name_id ms) (map (λ k. k.written) ks) ≡ reading.below_of ms ks
by_same ms [] = refl
by_same ms (k ∷ ks) =
    ap (λ l. l ∷ numbers_by (map name_id ms) (map (λ (j : ReadModule). j.written) ks)) (numbers_same ms k.written)
    ∙ ap (λ l. reading.instanced ms k ∷ l) (by_same ms ks)

pub below_is : (ids : List (Option ℕ)) (written : List (List Written)) (ms : List Piece) (ks : List ReadModule) → AreOf ids written ms ks →
    numbers_by ids written ≡ reading.below_of ms ks
below_is ids written ms ks a = sym (ap (λ i. numbers_by i (map (λ (j : ReadModule). j.written) ks)) a.named ∙ ap (numbers_by ids) a.writes) ∙ by_same ms ks

-- ---- rings

pub ring_is : (ids : List (Option ℕ)) (written : List (List Written)) (ring : List ℕ) → rings.IsRing (numbers_by ids written) ring → IsRingOf ids written ring
ring_is ids written ring r =
    record { is = λ ms ks a. subst (λ (l : List (List ℕ)). rings.IsRing l ring) (below_is ids written ms ks a) r }

-- ---- no ring

-- each number of a list that is one of an order stands once in it
order_apart : (order : List ℕ) → ((j : ℕ) → j < length order → place_in_order order (get_or order j 0) ≡ j) → IsDistinct nat_eq order
unfolding IsDistinct
order_apart [] once = tt
order_apart (x ∷ xs) once =
    IsDistinct-cons nat_eq x xs (others xs (λ j lt. (apart j lt).0)) (order_apart xs (λ j lt. (apart j lt).1))
  where
    by : (b : Bool) (p j : ℕ) → cond (not b) (1 + p) 0 ≡ suc j → (b ≡ false) × (p ≡ j)
    by true p j e = absurd (omega (arith, e))
    by false p j e = (refl, omega (arith, e))

    apart : (j : ℕ) → j < length xs → (nat_eq (get_or xs j 0) x ≡ false) × (place_in_order xs (get_or xs j 0) ≡ j)
    apart j lt = by (nat_eq (get_or xs j 0) x) (place_in_order xs (get_or xs j 0)) j (once (suc j) (omega (arith, lt)))

    others : (ys : List ℕ) → ((j : ℕ) → j < length ys → nat_eq (get_or ys j 0) x ≡ false) → AllByRecursion (λ y. nat_eq x y ≡ false) ys
    others [] h = tt
    others (y ∷ ys) h = (flips x y ∙ h 0 (omega arith), others ys (λ j lt. h (suc j) (omega (arith, lt))))

order_few : (below : List (List ℕ)) (order : List ℕ) → IsChildrenFirst below order → length order ≤ length below
order_few below order o =
    length-le_from_distinct_below order (length below) (order_apart order o.once)
    (λ q e.
    let at = place_in_order order q in
    let inside : at < length order = any_place (nat_eq q) order e in
    let same : q ≡ get_or order at 0 = eqb-true q (get_or order at 0) (passes_at_first (nat_eq q) order 0 inside) in
    subst (λ k. k < length below) (sym same) (o.placed at 0 inside))

none_of : (f : ℕ → Bool) (xs : List ℕ) → ((i : ℕ) → i < length xs → f (get_or xs i 0) ≡ false) → list_any f xs ≡ false
none_of f [] h = refl
none_of f (x ∷ xs) h = ap (λ b. b || list_any f xs) (h 0 (omega arith)) ∙ none_of f xs (λ i lt. h (suc i) (omega (arith, lt)))

-- from a module instances lead on fewer times than there are modules before it in an order
leads_end : (n : ℕ) (below : List (List ℕ)) (order : List ℕ) (m : ℕ) → IsChildrenFirst below order → place_in_order order m < n → rings.leads_on n below m ≡ false
unfolding rings.leads_on
leads_end zero below order m o lt = absurd (omega (arith, lt))
leads_end (suc n) below order m o lt =
    none_of (rings.leads_on n below) (rings.instanced_by below m)
    (λ i inside.
    let first : place_in_order order (get_or (rings.instanced_by below m) i 0) < place_in_order order m = o.earlier m i inside in
    leads_end n below order (get_or (rings.instanced_by below m) i 0) o (omega (arith, first, lt)))

none_in_range : (f : ℕ → Bool) (a n : ℕ) → ((k : ℕ) → k < a + n → f k ≡ false) → list_any f (range_with_len a n) ≡ false
none_in_range f a zero h = refl
none_in_range f a (suc n) h =
    ap (λ b. b || list_any f (range_with_len (a + 1) n)) (h a (omega arith)) ∙ none_in_range f (a + 1) n (λ k lt. h k (omega (arith, lt)))

ordered_no_ring : (below : List (List ℕ)) (order : List ℕ) → IsChildrenFirst below order → rings.has_ring below ≡ false
unfolding rings.has_ring
ordered_no_ring below order o =
    let few = order_few below order o in
    none_in_range (rings.leads_on (length below) below) 0 (length below)
    (λ k lt. leads_end (length below) below order k o (let in_order = o.each k (omega (arith, lt)) in omega (arith, in_order, few)))

read_no_ring : (ms : List Piece) (ks : List ReadModule) → rings.has_ring (reading.below_of ms ks) ≡ false → reading.has_ring ms ks ≡ false
unfolding reading.has_ring
read_no_ring ms ks e = e

-- ---- tops

tops_same : (ms : List Piece) (ks : List ReadModule) → rings.tops (reading.below_of ms ks) ≡ reading.tops ms ks
unfolding reading.tops
tops_same ms ks = refl

filter_few : (p : ℕ → Bool) (xs : List ℕ) → length (filter p xs) ≤ length xs
filter_few p [] = omega arith
filter_few p (x ∷ xs) = by (p x) (filter_few p xs)
  where
    by : (b : Bool) → length (filter p xs) ≤ length xs → length (cond b (x ∷ filter p xs) (filter p xs)) ≤ length (x ∷ xs)
    by true h = omega (arith, h)
    by false h = omega (arith, h)

tops_few : (below : List (List ℕ)) → length (rings.tops below) ≤ length below
tops_few below =
    let few = filter_few (λ k. not (rings.is_instanced below k)) (range_with_len 0 (length below)) in
    omega (arith, few, length-range_with_len 0 (length below))

pub ranked_is : (ids : List (Option ℕ)) (written : List (List Written)) (r : code.Ranked) → (below : List (List ℕ)) → length written ≡ length ids →
    below ≡ numbers_by ids written → r.below ≡ below → All (λ ns. All (λ n. n < length ids) ns) below → IsChildrenFirst below r.order → r.tops ≡ rings.tops below →
    IsRankedSo ids written r
ranked_is ids written r below each e b there o t =
    record {
      no_ring =
          λ ms ks a.
          read_no_ring ms ks
          (ordered_no_ring (reading.below_of ms ks) r.order
          (subst (λ (l : List (List ℕ)). IsChildrenFirst l r.order) (e ∙ below_is ids written ms ks a) o));
      tops = λ ms ks a. t ∙ (ap rings.tops (e ∙ below_is ids written ms ks a) ∙ tops_same ms ks);
      order = subst (λ (l : List (List ℕ)). IsChildrenFirst l r.order) e o;
      below = b ∙ e;
      there = subst (λ (l : List (List ℕ)). All (λ ns. All (λ n. n < length ids) ns) l) (sym b) there;
      few =
          let many = tops_few below in
          let same = ap (λ (ns : List ℕ). length ns) t in
          let wide = ap (λ (l : List (List ℕ)). length l) e ∙ length-map written (numbers_of ids) in
          omega (arith, many, same, wide, each);
    }
