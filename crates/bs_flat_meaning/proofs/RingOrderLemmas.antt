-- A loop of gates that stand for modules is a ring of these, told the other way round; and where there is a ring there is no order.
use Rattle.std.proofs.Common.{◌≡◌, ℕ, ◌<◌, ◌≤◌, true, false, ◌||◌, List, [], ◌∷◌, ◌++◌, map, length, get_or, refl}
use Rattle.std.proofs.Common.{arith, subst, ap, sym, ◌∙◌, nat_eq, reverse}
use Rattle.std.specs.List.{AllByRecursion, list_any, position_or_len}
use Rattle.std.proofs.lemmas.Bool.{eqb-true, eqb-false, and_parts}
use Rattle.std.proofs.lemmas.List.{reverse-append, append_assoc, append-nil}
use Rattle.std.proofs.lemmas.List.Sums.{passes_at_first}
use Rattle.std.proofs.lemmas.List.Sorted.{IsPermutation-reverse, IsPermutation-cons}
use Rattle.std.proofs.lemmas.List.Elements.{recursion_from_All}
use Rattle.std.proofs.lemmas.Map.Keys.{IsDistinct-head, IsDistinct-IsPermutation}
use Rattle.bs_net.specs.declared.net.NetId.{NetId}
use Rattle.bs_net.specs.declared.net.Gate.{Gate}
use Rattle.bs_net.specs.Circuit.{number}
use Rattle.bs_net.specs.Loops.{IsLoop, feeds, feeds_along, last_of, is_in, gate_at}
use Rattle.bs_flat_meaning.specs.Rings.{instanced_by, instances, FollowFrom, IsRing}
use Rattle.bs_flat_meaning.proofs.RingLemmas.{any_place}
use Rattle.bs_flat_meaning.specs.Ring.{place_in_order, IsChildrenFirst, RingsHaveNoOrder}
use Rattle.bs_flat_meaning.specs.Gates.{gates_of, nets_of, turned}
use Rattle.bs_flat_meaning.proofs.LevelLemmas.{gate_is, gates_count, flips}

-- ---- no order

falls : (below : List (List ℕ)) (order : List ℕ) (m n : ℕ) → IsChildrenFirst below order → instances below m n ≡ true → place_in_order order n < place_in_order order m
falls below order m n o e =
    let ns = instanced_by below m in
    let at = position_or_len (nat_eq n) ns in
    let inside : at < length ns = any_place (nat_eq n) ns e in
    let same : n ≡ get_or ns at 0 = eqb-true n (get_or ns at 0) (passes_at_first (nat_eq n) ns 0 inside) in
    subst (λ k. place_in_order order k < place_in_order order m) (sym same) (o.earlier m at inside)

falls_round : (below : List (List ℕ)) (order : List ℕ) (first m : ℕ) (ns : List ℕ) → IsChildrenFirst below order → FollowFrom below first m ns →
    place_in_order order first < place_in_order order m
falls_round below order first m [] o f = falls below order m first o f
falls_round below order first m (n ∷ ns) o f =
    let one = falls below order m n o f.1 in
    let rest = falls_round below order first n ns o f.2 in
    omega (arith, one, rest)

pub rings_have_no_order : RingsHaveNoOrder
rings_have_no_order below [] order r o = r
rings_have_no_order below (m ∷ ns) order r o = let less = falls_round below order m m ns o r.1 in absurd (omega (arith, less))

-- ---- a loop, told the other way round

-- the numbers of the nets of modules
any_number : (i : ℕ) (ns : List ℕ) → is_in i (map number (nets_of ns)) ≡ list_any (nat_eq i) ns
any_number i [] = refl
any_number i (n ∷ ns) = ap (λ b. nat_eq i n || b) (any_number i ns)

-- one that feeds another is instanced by it
fed : (below : List (List ℕ)) (i j : ℕ) → i < length below → j < length below → feeds (gates_of below) i j ≡ true → instances below j i ≡ true
fed below i j li lj e =
    let out : (gate_at (gates_of below) i).out.0 ≡ i = ap (λ (g : Gate). g.out.0) (gate_is below i _ li) in
    let ins : (gate_at (gates_of below) j).ins ≡ nets_of (instanced_by below j) = ap (λ (g : Gate). g.ins) (gate_is below j _ lj) in
    sym (any_number i (instanced_by below j))
    ∙ (sym (ap (λ k. is_in k (map number (nets_of (instanced_by below j)))) out)
    ∙ (sym (ap (λ (l : List NetId). is_in (gate_at (gates_of below) i).out.0 (map number l)) ins) ∙ e))

abbrev reverse_onto : List ℕ → List ℕ → List ℕ
reverse_onto [] acc = acc
reverse_onto (j ∷ js) acc = reverse_onto js (j ∷ acc)

onto_is : (js acc : List ℕ) → reverse_onto js acc ≡ reverse js ++ acc
onto_is [] acc = refl
onto_is (j ∷ js) acc =
    onto_is js (j ∷ acc) ∙ (sym (append_assoc (reverse js) (j ∷ []) acc) ∙ ap (λ l. l ++ acc) (sym (reverse-append (j ∷ []) js)))

-- greater than the first, and numbers of modules
abbrev AreBehind : List (List ℕ) → ℕ → List ℕ → Type 0
AreBehind below first [] = Unit {0}
AreBehind below first (j ∷ js) = (first < j) × (j < length below) × AreBehind below first js

follow_onto : (below : List (List ℕ)) (first m j : ℕ) (js acc : List ℕ) → first < j → j < length below → AreBehind below first js →
    feeds_along (gates_of below) j js ≡ true → instances below m (last_of j js) ≡ true → FollowFrom below first j acc →
    FollowFrom below first m (reverse_onto js (j ∷ acc))
follow_onto below first m j [] acc less lt b along last f = (less, last, f)
follow_onto below first m j (k ∷ ks) acc less lt b along last f =
    let parts : (feeds (gates_of below) j k ≡ true) × (feeds_along (gates_of below) k ks ≡ true) = and_parts _ _ along in
    follow_onto below first m k ks (j ∷ acc) b.0 b.1 b.2 parts.1 last (less, fed below j k lt b.1 parts.0, f)

are_behind : (below : List (List ℕ)) (first : ℕ) (js : List ℕ) → AllByRecursion (λ y. nat_eq first y ≡ false) js → AllByRecursion (λ j. first ≤ j) js →
    AllByRecursion (λ j. j < length below) js → AreBehind below first js
are_behind below first [] d l p = tt
are_behind below first (j ∷ js) d l p = let apart = eqb-false first j d.0 in let le = l.0 in (omega (arith, le, apart), p.0, are_behind below first js d.1 l.1 p.1)

last_placed : (n i : ℕ) (js : List ℕ) → i < n → AllByRecursion (λ j. j < n) js → last_of i js < n
last_placed n i [] lt p = lt
last_placed n i (j ∷ js) lt p = last_placed n j js p.0 p.1

pub loop_is_ring : (below : List (List ℕ)) (loop : List ℕ) → IsLoop (gates_of below) loop → IsRing below (turned loop)
loop_is_ring below [] l = absurd l.least_first
loop_is_ring below (i ∷ is) l = (
  IsDistinct-IsPermutation nat_eq flips (i ∷ is) (i ∷ reverse is) (IsPermutation-cons i is (reverse is) (IsPermutation-reverse is)) l.distinct,
  by is (recursion_from_All (λ j. i ≤ j) is l.least_first) inside (IsDistinct-head nat_eq i is l.distinct) round,
)
  where
    wide : (n : ℕ) → n < length (gates_of below) → n < length below
    wide n lt = let same = gates_count below in omega (arith, lt, same)

    inside : AllByRecursion (λ j. j < length below) (i ∷ is)
    inside = recursion_from_All (λ j. j < length below) (i ∷ is) (λ k d lt. wide (get_or (i ∷ is) k d) (l.placed k d lt))

    round : (feeds (gates_of below) (last_of i is) i ≡ true) × (feeds_along (gates_of below) i is ≡ true)
    round = and_parts _ _ l.round

    by : (js : List ℕ) → AllByRecursion (λ j. i ≤ j) js → AllByRecursion (λ j. j < length below) (i ∷ js) →
        AllByRecursion (λ y. nat_eq i y ≡ false) js → (feeds (gates_of below) (last_of i js) i ≡ true) × (feeds_along (gates_of below) i js ≡ true) →
        FollowFrom below i i (reverse js)
    by [] least p d r = fed below i i p.0 p.0 r.0
    by (j ∷ js) least p d r =
        let parts : (feeds (gates_of below) i j ≡ true) × (feeds_along (gates_of below) j js ≡ true) = and_parts _ _ r.1 in
        let b = are_behind below i (j ∷ js) d least p.1 in
        subst (FollowFrom below i i) (onto_is (j ∷ js) [] ∙ append-nil (reverse (j ∷ js)))
        (follow_onto below i i j js [] b.0 b.1 b.2 parts.1 (fed below (last_of j js) i (last_placed (length below) j js b.1 p.1.1) p.0 r.0)
        (fed below i j p.0 b.1 parts.0))

pub loop_is_some : (gates : List Gate) (loop : List ℕ) → IsLoop gates loop → 0 < length loop
loop_is_some gates [] l = absurd l.least_first
loop_is_some gates (i ∷ is) l = omega arith
