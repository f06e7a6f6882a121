-- An order of gates that stand for modules has each module after those that it instances, and a loop of them is a ring.
use Rattle.std.proofs.Common.{◌≡◌, ℕ, zero, suc, ◌<◌, ◌≤◌, ◌+◌, Bool, true, false, ◌||◌, cond, not, List, [], ◌∷◌, ◌++◌, map, length, get_or, refl}
use Rattle.std.proofs.Common.{arith, subst, ap, sym, ◌∙◌, ⊎_elim, nat_eq}
use Rattle.std.specs.List.{All, AllByRecursion, IsDistinct, list_any, range_with_len, position_or_len, Contains}
use Rattle.std.proofs.lemmas.Bool.{false≢true, cases_lt, cases_Bool, eqb-true, eqb-false, eq-eqb, leb-true}
use Rattle.std.proofs.lemmas.List.{length-map, get_or-map, get_or_past}
use Rattle.std.proofs.lemmas.List.FromFn.{get_or-range_with_len, length-range_with_len, get_or-map-range_with_len, map-range_with_len_more}
use Rattle.std.proofs.lemmas.List.Sums.{passes_at_first, position_or_len_is}
use Rattle.std.proofs.lemmas.List.Sorted.{All-permutation, list_any-IsPermutation}
use Rattle.std.proofs.lemmas.List.Folds.{list_all_at}
use Rattle.std.proofs.lemmas.Map.Keys.{IsDistinct-head, IsDistinct-tail, IsDistinct-IsPermutation}
use Rattle.bs_net.specs.declared.net.NetId.{NetId}
use Rattle.bs_net.specs.declared.net.Gate.{Gate}
use Rattle.bs_net.specs.Names.{net}
use Rattle.bs_net.specs.Order.{IsLevelled, IsOrder, gates_in, no_gate}
use Rattle.bs_flat_meaning.specs.Rings.{instanced_by}
use Rattle.bs_flat_meaning.proofs.RingLemmas.{any_place}
use Rattle.bs_flat_meaning.specs.Ring.{place_in_order, IsChildrenFirst}
use Rattle.bs_flat_meaning.specs.Gates.{gates_of, gate_for, nets_of, are_narrow}
use Rattle.bs_flat_meaning.specs.declared.children_first.TheConstants.{MOST}
use Rattle.std.specs.Prelude.{nat_le}

any_range : (k a n : ℕ) → a ≤ k → k < a + n → list_any (nat_eq k) (range_with_len a n) ≡ true
any_range k a zero low high = absurd (omega (arith, low, high))
any_range k a (suc n) low high = by (nat_eq k a) refl (any_range k (a + 1) n)
  where
    by : (b : Bool) → nat_eq k a ≡ b → (a + 1 ≤ k → k < (a + 1) + n → list_any (nat_eq k) (range_with_len (a + 1) n) ≡ true) →
        (b || list_any (nat_eq k) (range_with_len (a + 1) n)) ≡ true
    by true e rest = refl
    by false e rest = let apart = eqb-false k a e in rest (omega (arith, low, apart)) (omega (arith, high))

no_equal : (k m : ℕ) → (k ≡ m → ⊥) → nat_eq k m ≡ false
no_equal k m apart = ⊎_elim (λ (t : nat_eq k m ≡ true). absurd (apart (eqb-true k m t))) (λ (f : nat_eq k m ≡ false). f) (cases_Bool (nat_eq k m))

pub flips : (x y : ℕ) → nat_eq x y ≡ nat_eq y x
flips x y =
    ⊎_elim
    (λ (t : nat_eq y x ≡ true). eq-eqb x y (sym (eqb-true y x t)) ∙ sym t)
    (λ (f : nat_eq y x ≡ false). no_equal x y (λ e. absurd (false≢true (sym f ∙ eq-eqb y x (sym e)))) ∙ sym f)
    (cases_Bool (nat_eq y x))

-- a number below all of a range stands not in it
range_above : (a b n : ℕ) → a < b → AllByRecursion (λ y. nat_eq a y ≡ false) (range_with_len b n)
range_above a b zero less = tt
range_above a b (suc n) less = (no_equal a b (λ e. absurd (omega (arith, e, less))), range_above a (b + 1) n (omega (arith, less)))

pub range_apart : (a n : ℕ) → IsDistinct nat_eq (range_with_len a n)
unfolding IsDistinct
range_apart a zero = tt
range_apart a (suc n) = (range_above a (a + 1) n (omega arith), range_apart (a + 1) n)

at_each : (P : ℕ → Type 0) (xs : List ℕ) (k : ℕ) → AllByRecursion P xs → k < length xs → P (get_or xs k 0)
at_each P [] k h lt = absurd (omega (arith, lt))
at_each P (x ∷ xs) zero h lt = h.0
at_each P (x ∷ xs) (suc k) h lt = at_each P xs k h.1 (omega (arith, lt))

apart_at : (xs : List ℕ) (i j : ℕ) → IsDistinct nat_eq xs → i < j → j < length xs → nat_eq (get_or xs j 0) (get_or xs i 0) ≡ false
apart_at [] i j d less lt = absurd (omega (arith, lt))
apart_at (x ∷ xs) i zero d less lt = absurd (omega (arith, less))
apart_at (x ∷ xs) zero (suc j) d less lt =
    flips (get_or xs j 0) x ∙ at_each (λ y. nat_eq x y ≡ false) xs j (IsDistinct-head nat_eq x xs d) (omega (arith, lt))
apart_at (x ∷ xs) (suc i) (suc j) d less lt = apart_at xs i j (IsDistinct-tail nat_eq x xs d) (omega (arith, less)) (omega (arith, lt))

-- at each place of a levelled list a gate reads no output from there on
later_apart : (gs : List Gate) (p q : ℕ) → IsLevelled gs → p ≤ q → q < length gs → (n : NetId) → Contains (get_or gs p no_gate).ins n →
    (get_or gs q no_gate).out.0 ≡ n.0 → ⊥
later_apart [] p q l le lt n c e = absurd (omega (arith, lt))
later_apart (g ∷ gs) zero q l le lt n c e =
    let here : All (λ (h : Gate). h.out.0 ≡ n.0 → ⊥) (g ∷ gs) =
    subst (λ (m : NetId). All (λ (h : Gate). h.out.0 ≡ m.0 → ⊥) (g ∷ gs)) c.2 (l.0 c.0 n c.1) in
    here q no_gate lt e
later_apart (g ∷ gs) (suc p) zero l le lt n c e = absurd (omega (arith, le))
later_apart (g ∷ gs) (suc p) (suc q) l le lt n c e = later_apart gs p q l.1 (omega (arith, le)) (omega (arith, lt)) n c e

-- ---- the gates of modules

pub gate_is : (below : List (List ℕ)) (k : ℕ) (d : Gate) → k < length below → get_or (gates_of below) k d ≡ gate_for below k
gate_is below k d lt = get_or-map-range_with_len (gate_for below) 0 (length below) k k d lt (omega arith)

pub gates_count : (below : List (List ℕ)) → length (gates_of below) ≡ length below
gates_count below = length-map (range_with_len 0 (length below)) (gate_for below) ∙ length-range_with_len 0 (length below)

-- an order of the gates is one of the modules
pub order_is : (below : List (List ℕ)) (order : List ℕ) → All (λ ns. All (λ n. n < length below) ns) below → IsOrder (gates_of below) order →
    IsChildrenFirst below order
order_is below order there o =
    record {
      placed = λ k d lt. in_modules k d lt;
      each = each;
      once = once;
      earlier =
          λ k i li.
          ⊎_elim
          (λ (b : k < length below). earlier k i b li)
          (λ (g : length below ≤ k). absurd (omega (arith, subst (λ (ns : List ℕ). i < length ns) (get_or_past below k [] g) li)))
          (cases_lt k (length below));
    }
  where
    gates : List Gate
    gates = gates_of below

    N : ℕ
    N = length gates

    wide : N ≡ length below
    wide = gates_count below

    in_range : All (λ k. k < length below) (range_with_len 0 N)
    in_range i d lt =
        let long = length-range_with_len 0 N in
        let read = get_or-range_with_len 0 N i d (omega (arith, lt, long)) in
        omega (arith, read, lt, long, wide)

    in_modules : All (λ k. k < length below) order
    in_modules = All-permutation (λ k. k < length below) (range_with_len 0 N) order o.each_once in_range

    each : (k : ℕ) → k < length below → place_in_order order k < length order
    each k lt =
        any_place (nat_eq k) order
        (sym (list_any-IsPermutation (nat_eq k) (range_with_len 0 N) order o.each_once) ∙ any_range k 0 N (omega arith) (omega (arith, lt, wide)))

    distinct : IsDistinct nat_eq order
    distinct = IsDistinct-IsPermutation nat_eq flips (range_with_len 0 N) order o.each_once (range_apart 0 N)

    once : (j : ℕ) → j < length order → place_in_order order (get_or order j 0) ≡ j
    once j lt =
        position_or_len_is (nat_eq (get_or order j 0)) order j 0 (omega (arith, lt)) (λ k less. apart_at order k j distinct less lt)
        (λ l. eq-eqb (get_or order j 0) (get_or order j 0) refl)

    gate_at_place : (k : ℕ) → k < length below → get_or (gates_in order gates) (place_in_order order k) no_gate ≡ gate_for below k
    gate_at_place k lt =
        let here = each k lt in
        get_or-map (λ i. get_or gates i no_gate) order (place_in_order order k) 0 no_gate here
        ∙ (ap (λ i. get_or gates i no_gate) (sym (eqb-true k (get_or order (place_in_order order k) 0) (passes_at_first (nat_eq k) order 0 here)))
        ∙ gate_is below k no_gate lt)

    earlier : (k i : ℕ) → k < length below → i < length (instanced_by below k) → place_in_order order (get_or (instanced_by below k) i 0) < place_in_order order k
    earlier k i lt li =
        let c = get_or (instanced_by below k) i 0 in
        let inside : c < length below = there k [] lt i 0 li in
        let count : length (nets_of (instanced_by below k)) ≡ length (instanced_by below k) = length-map (instanced_by below k) net in
        let reads : Contains (nets_of (instanced_by below k)) (net c) =
        (i, omega (arith, li, count), get_or-map net (instanced_by below k) i 0 (net c) li) in
        ⊎_elim
        (λ (b : place_in_order order c < place_in_order order k). b)
        (λ (g : place_in_order order k ≤ place_in_order order c).
        let long : length (gates_in order gates) ≡ length order = length-map order _ in
        absurd
        (later_apart (gates_in order gates) (place_in_order order k) (place_in_order order c) o.earlier g (omega (arith, each c inside, long)) (net c)
        (subst (λ (h : Gate). Contains h.ins (net c)) (sym (gate_at_place k lt)) reads)
        (ap (λ (h : Gate). h.out.0) (gate_at_place c inside))))
        (cases_lt (place_in_order order c) (place_in_order order k))

-- ---- what the search of gates asks of them

pub gates_outs : (below : List (List ℕ)) → All (λ g. g.out.0 < length below) (gates_of below)
gates_outs below k d lt =
    let wide = gates_count below in
    let less : k < length below = omega (arith, lt, wide) in
    subst (λ (g : Gate). g.out.0 < length below) (sym (gate_is below k d less)) less

pub gates_ins : (below : List (List ℕ)) → All (λ ns. All (λ n. n < length below) ns) below → All (λ g. All (λ n. n.0 < length below) g.ins) (gates_of below)
gates_ins below there k d lt =
    let wide = gates_count below in
    let less : k < length below = omega (arith, lt, wide) in
    subst (λ (g : Gate). All (λ n. n.0 < length below) g.ins) (sym (gate_is below k d less))
    (λ i n li.
    let count = length-map (instanced_by below k) net in
    let inside : i < length (instanced_by below k) = omega (arith, li, count) in
    subst (λ (m : NetId). m.0 < length below) (sym (get_or-map net (instanced_by below k) i 0 n inside)) (there k [] less i 0 inside))

pub gates_narrow : (below : List (List ℕ)) → are_narrow below ≡ true → All (λ g. length g.ins < 4294967296) (gates_of below)
gates_narrow below h k d lt =
    let wide = gates_count below in
    let less : k < length below = omega (arith, lt, wide) in
    subst (λ (g : Gate). length g.ins < 4294967296) (sym (gate_is below k d less)) (few (nat_le (length (instanced_by below k)) MOST) refl less)
  where
    few : (b : Bool) → nat_le (length (instanced_by below k)) MOST ≡ b → k < length below → length (nets_of (instanced_by below k)) < 4294967296
    few true e l =
        let le = leb-true (length (instanced_by below k)) MOST e in
        let count = length-map (instanced_by below k) net in
        omega (arith, le, count)
    few false e l = absurd (false≢true (sym (list_all_at (λ ns. nat_le (length ns) MOST) below k [] l e) ∙ h))

outs_are : (below : List (List ℕ)) (ks : List ℕ) → map (λ (g : Gate). g.out.0) (map (gate_for below) ks) ≡ ks
outs_are below [] = refl
outs_are below (k ∷ ks) = ap (λ l. k ∷ l) (outs_are below ks)

pub gates_single : (below : List (List ℕ)) → IsDistinct nat_eq (map (λ (g : Gate). g.out.0) (gates_of below))
gates_single below = subst (IsDistinct nat_eq) (sym (outs_are below (range_with_len 0 (length below)))) (range_apart 0 (length below))

pub gates_more : (below : List (List ℕ)) (k : ℕ) →
    map (gate_for below) (range_with_len 0 (k + 1)) ≡ map (gate_for below) (range_with_len 0 k) ++ gate_for below k ∷ []
gates_more below k = map-range_with_len_more (gate_for below) 0 k k (omega arith)
