-- A netlist that passes is checked.
use Rattle.std.proofs.Common.{◌≡◌, ◌≢◌, ℕ, ◌<◌, ◌≤◌, Bool, true, false, not, cond, ◌||◌, List, [], ◌∷◌, ◌++◌, map, length, refl, arith, subst, ap}
use Rattle.std.proofs.Common.{sym, ◌∙◌, ⊎_elim, nat_eq, nat_lt, Option, None, Some}
use Rattle.std.specs.Prelude.{find}
use Rattle.std.specs.List.{AllByRecursion, All, IsDistinct, list_any}
use Rattle.std.proofs.lemmas.Bool.{false≢true, eqb-true, eqb-false, ne_eqb, ltb-false, or_cases}
use Rattle.std.proofs.lemmas.List.{map-append}
use Rattle.std.proofs.lemmas.List.Elements.{All-from_recursion, recursion_from_All}
use Rattle.std.proofs.lemmas.List.Sums.{length-filter, count_by-le-length}
use Rattle.std.proofs.lemmas.Map.Keys.{IsDistinct-head, IsDistinct-tail, IsDistinct-cons}
use Rattle.bs_net.specs.declared.net.NetId.{NetId}
use Rattle.bs_net.specs.declared.limits.TheConstants.{MAX_FLOPS, MAX_INPUTS, MAX_TERMINALS}
use Rattle.bs_net.specs.declared.net.Gate.{Gate}
use Rattle.bs_net.specs.declared.net.Flop.{Flop}
use Rattle.bs_net.specs.declared.net.Const.{Const}
use Rattle.bs_net.specs.declared.fault.Count.TheVariants.{Flops, Inputs}
use Rattle.bs_net.specs.Circuit.{number, drivers}
use Rattle.bs_net.specs.Order.{IsChecked, IsBounded}
use Rattle.bs_net.specs.Loops.{is_in}
use Rattle.bs_net.specs.Parts.{Parts, PartsArePlaced}
use Rattle.bs_net.specs.Check.{Passes, too_many, wide_gate, mixed_clock}
use Rattle.bs_net.specs.Netlist.{circuit_of, clock_of, without}
use Rattle.bs_net.proofs.PlacedLemmas.{Within, drivers_within}
use Rattle.bs_net.proofs.SingleLemmas.{single_distinct, outs_are}

numbers_within : (k : ℕ) (ns : List NetId) → Within k ns → AllByRecursion (λ m. m < k) (map number ns)
numbers_within k [] w = tt
numbers_within k (n ∷ ns) w = (w.0, numbers_within k ns w.1)

part_without : (P : ℕ → Type 0) (c : NetId) (ns rest : List NetId) → AllByRecursion P (map number (ns ++ rest)) →
    AllByRecursion P (map number (without c ns ++ rest))
part_without P c [] rest h = h
part_without P c (n ∷ ns) rest h = by (nat_eq n.0 c.0) (part_without P c ns rest h.1)
  where
    by : (b : Bool) → AllByRecursion P (map number (without c ns ++ rest)) →
        AllByRecursion P (map number (cond (not b) (n ∷ without c ns) (without c ns) ++ rest))
    by true k = k
    by false k = (h.0, k)

distinct_without : (c : NetId) (ns rest : List NetId) → IsDistinct nat_eq (map number (ns ++ rest)) → IsDistinct nat_eq (map number (without c ns ++ rest))
distinct_without c [] rest h = h
distinct_without c (n ∷ ns) rest h = by (nat_eq n.0 c.0) (distinct_without c ns rest (IsDistinct-tail nat_eq n.0 _ h))
  where
    by : (b : Bool) → IsDistinct nat_eq (map number (without c ns ++ rest)) →
        IsDistinct nat_eq (map number (cond (not b) (n ∷ without c ns) (without c ns) ++ rest))
    by true k = k
    by false k =
        IsDistinct-cons nat_eq n.0 _ (part_without (λ y. nat_eq n.0 y ≡ false) c ns rest (IsDistinct-head nat_eq n.0 _ h)) k

-- the clock is none of the others
clock_apart : (c : NetId) (ns rest : List NetId) → is_in c.0 (map number ns) ≡ true → IsDistinct nat_eq (map number (ns ++ rest)) →
    AllByRecursion (λ y. nat_eq c.0 y ≡ false) (map number (without c ns ++ rest))
clock_apart c [] rest e h = absurd (false≢true e)
clock_apart c (n ∷ ns) rest e h = by (nat_eq n.0 c.0) refl (clock_apart c ns rest)
  where
    by : (b : Bool) → nat_eq n.0 c.0 ≡ b → (is_in c.0 (map number ns) ≡ true → IsDistinct nat_eq (map number (ns ++ rest)) →
        AllByRecursion (λ y. nat_eq c.0 y ≡ false) (map number (without c ns ++ rest))) →
        AllByRecursion (λ y. nat_eq c.0 y ≡ false) (map number (cond (not b) (n ∷ without c ns) (without c ns) ++ rest))
    by true k rec =
        let P : ℕ → Type 0 = λ m. AllByRecursion (λ y. nat_eq m y ≡ false) (map number (ns ++ rest)) in
        part_without (λ y. nat_eq c.0 y ≡ false) c ns rest (subst P (eqb-true n.0 c.0 k) (IsDistinct-head nat_eq n.0 _ h))
    by false k rec =
        let apart : nat_eq c.0 n.0 ≡ false = ne_eqb c.0 n.0 (λ s. eqb-false n.0 c.0 k (sym s)) in
        (apart, rec (ap (λ b. b || is_in c.0 (map number ns)) (sym apart) ∙ e) (IsDistinct-tail nat_eq n.0 _ h))

-- ---- the clock

some_fault : {X : Type 0} (b : Bool) (x : X) (o : Option X) → cond (not b) (Some x) o ≡ None → b ≡ true
some_fault true x o e = refl
some_fault false x o e = absurd cc

clock_port : (r : Parts) → mixed_clock r ≡ None → list_any (λ (m : NetId). nat_eq (clock_of r.flops).0 m.0) r.inputs ≡ true
clock_port r e = some_fault (list_any (λ (m : NetId). nat_eq (clock_of r.flops).0 m.0) r.inputs) (clock_of r.flops) _ e

any_number : (n : ℕ) (ns : List NetId) → is_in n (map number ns) ≡ list_any (λ (m : NetId). nat_eq n m.0) ns
any_number n [] = refl
any_number n (m ∷ ns) = ap (λ b. nat_eq n m.0 || b) (any_number n ns)

any_within : (k n : ℕ) (ns : List NetId) → Within k ns → list_any (λ (m : NetId). nat_eq n m.0) ns ≡ true → n < k
any_within k n [] w e = absurd (false≢true e)
any_within k n (m ∷ ns) w e =
    ⊎_elim
    (λ (same : nat_eq n m.0 ≡ true). let lt : m.0 < k = w.0 in omega (arith, lt, eqb-true n m.0 same))
    (λ (later : list_any (λ (i : NetId). nat_eq n i.0) ns ≡ true). any_within k n ns w.1 later)
    (or_cases (nat_eq n m.0) (list_any (λ (i : NetId). nat_eq n i.0) ns) e)

-- ---- the drivers of the circuit

-- the nets that drive a circuit without its inputs
abbrev others : Parts → List NetId
others r = map (λ f. f.q) r.flops ++ (map (λ k. k.net) r.consts ++ map (λ g. g.out) r.gates)

constants_are : (ks : List Const) → map number (map (λ (k : Const). k.net) ks) ≡ map (λ (k : Const). k.net.0) ks
constants_are [] = refl
constants_are (k ∷ ks) = ap (λ u. k.net.0 ∷ u) (constants_are ks)

drivers_are : (r : Parts) → map number (without (clock_of r.flops) r.inputs ++ others r) ≡ drivers (circuit_of r)
drivers_are r =
    let a = without (clock_of r.flops) r.inputs in
    let q = map (λ (f : Flop). f.q) r.flops in
    let k = map (λ (c : Const). c.net) r.consts in
    let g = map (λ (i : Gate). i.out) r.gates in
    map-append number a (q ++ (k ++ g))
    ∙ ap (λ u. map number a ++ u)
    (map-append number q (k ++ g)
    ∙ ap (λ u. map number q ++ u)
    (map-append number k g
    ∙ (ap (λ u. u ++ map number g) (constants_are r.consts)
    ∙ ap (λ u. map (λ (c : Const). c.net.0) r.consts ++ u) (outs_are r.gates))))

pub passes_checked : (r : Parts) → PartsArePlaced r → Passes r → IsChecked (circuit_of r)
passes_checked r p h =
    let clock = clock_of r.flops in
    let distinct : IsDistinct nat_eq (map number (r.inputs ++ others r)) = single_distinct r p h.nets.single in
    let port : list_any (λ (m : NetId). nat_eq clock.0 m.0) r.inputs ≡ true = clock_port r h.one_clock in
    let all : IsDistinct nat_eq (clock.0 ∷ map number (without clock r.inputs ++ others r)) =
    IsDistinct-cons nat_eq clock.0 _ (clock_apart clock r.inputs (others r) (any_number clock.0 r.inputs ∙ port) distinct)
    (distinct_without clock r.inputs (others r) distinct) in
    let P : List ℕ → Type 0 = λ ns. IsDistinct nat_eq (clock.0 ∷ ns) in
    let Q : List ℕ → Type 0 = λ ns. All (λ n. n < length r.names) ns in
    let inputs : Within (length r.names) r.inputs = recursion_from_All (λ (n : NetId). n.0 < length r.names) r.inputs p.inputs.1 in
    record {
      clock_placed = any_within (length r.names) clock.0 r.inputs inputs port;
      single_driver = subst P (drivers_are r) all;
      in_range =
          subst Q (drivers_are r)
          (All-from_recursion (λ n. n < length r.names) _
          (part_without (λ n. n < length r.names) clock r.inputs (others r)
          (numbers_within (length r.names) (r.inputs ++ others r) (drivers_within r p))));
      acyclic = h.ordered;
    }

-- ---- the sizes

not_many : (r : Parts) → too_many r ≡ None →
    (length r.flops ≤ MAX_FLOPS) × (length r.inputs ≤ MAX_INPUTS) × (find (λ (g : Gate). nat_lt MAX_TERMINALS (length g.ins)) r.gates ≡ None)
not_many r e = by (nat_lt MAX_FLOPS (length r.flops)) refl e
  where
    none_wide : (o : Option Gate) → wide_gate o ≡ None → o ≡ None
    none_wide None k = refl
    none_wide (Some g) k = absurd cc

    by_inputs : (b : Bool) → nat_lt MAX_INPUTS (length r.inputs) ≡ b →
        cond b (Some (Inputs, length r.inputs)) (wide_gate (find (λ (g : Gate). nat_lt MAX_TERMINALS (length g.ins)) r.gates)) ≡ None →
        (length r.inputs ≤ MAX_INPUTS) × (find (λ (g : Gate). nat_lt MAX_TERMINALS (length g.ins)) r.gates ≡ None)
    by_inputs true t k = absurd cc
    by_inputs false t k = (ltb-false MAX_INPUTS (length r.inputs) t, none_wide _ k)

    by : (b : Bool) → nat_lt MAX_FLOPS (length r.flops) ≡ b →
        cond b (Some (Flops, length r.flops)) (cond (nat_lt MAX_INPUTS (length r.inputs)) (Some (Inputs, length r.inputs))
        (wide_gate (find (λ (g : Gate). nat_lt MAX_TERMINALS (length g.ins)) r.gates))) ≡ None →
        (length r.flops ≤ MAX_FLOPS) × (length r.inputs ≤ MAX_INPUTS) × (find (λ (g : Gate). nat_lt MAX_TERMINALS (length g.ins)) r.gates ≡ None)
    by true t k = absurd cc
    by false t k = let rest = by_inputs (nat_lt MAX_INPUTS (length r.inputs)) refl k in (ltb-false MAX_FLOPS (length r.flops) t, rest.0, rest.1)

find_none : {X : Type 0} (p : X → Bool) (xs : List X) → find p xs ≡ None → AllByRecursion (λ x. p x ≡ false) xs
find_none p [] h = tt
find_none {X} p (x ∷ xs) h = by (p x) refl h (find_none p xs)
  where
    by : (b : Bool) → p x ≡ b → cond b (Some x) (find p xs) ≡ None → (find p xs ≡ None → AllByRecursion (λ y. p y ≡ false) xs) →
        (p x ≡ false) × AllByRecursion (λ y. p y ≡ false) xs
    by true e k rest = absurd cc
    by false e k rest = (e, rest k)

narrow : (gs : List Gate) → AllByRecursion (λ (g : Gate). nat_lt MAX_TERMINALS (length g.ins) ≡ false) gs →
    AllByRecursion (λ (g : Gate). length g.ins ≤ MAX_TERMINALS) gs
narrow [] h = tt
narrow (g ∷ gs) h = (ltb-false MAX_TERMINALS (length g.ins) h.0, narrow gs h.1)

some_length : (fs : List Flop) → fs ≢ [] → 0 < length fs
some_length [] h = absurd (h refl)
some_length (f ∷ fs) h = omega arith

without_fewer : (c : NetId) (ns : List NetId) → length (without c ns) ≤ length ns
without_fewer c ns =
    omega (arith, length-filter (λ (n : NetId). not (nat_eq n.0 c.0)) ns, count_by-le-length (λ (n : NetId). not (nat_eq n.0 c.0)) ns)

without_less : (c : NetId) (ns : List NetId) → list_any (λ (m : NetId). nat_eq c.0 m.0) ns ≡ true → length (without c ns) < length ns
without_less c [] e = absurd (false≢true e)
without_less c (n ∷ ns) e = by (nat_eq n.0 c.0) refl (without_less c ns)
  where
    by : (b : Bool) → nat_eq n.0 c.0 ≡ b → (list_any (λ (m : NetId). nat_eq c.0 m.0) ns ≡ true → length (without c ns) < length ns) →
        length (cond (not b) (n ∷ without c ns) (without c ns)) < length (n ∷ ns)
    by true k rec = omega (arith, without_fewer c ns)
    by false k rec =
        let apart : nat_eq c.0 n.0 ≡ false = ne_eqb c.0 n.0 (λ s. eqb-false n.0 c.0 k (sym s)) in
        let later : length (without c ns) < length ns = rec (ap (λ b. b || list_any (λ (m : NetId). nat_eq c.0 m.0) ns) (sym apart) ∙ e) in
        omega (arith, later)

pub passes_bounded : (r : Parts) → PartsArePlaced r → Passes r → IsBounded (circuit_of r)
passes_bounded r p h =
    let sizes = not_many r h.nets.few in
    record {
      few_nets = p.few_names;
      some_flop = some_length r.flops h.some_flop;
      few_flops = sizes.0;
      few_inputs = omega (arith, sizes.1, without_less (clock_of r.flops) r.inputs (clock_port r h.one_clock));
      narrow = All-from_recursion (λ (g : Gate). length g.ins ≤ MAX_TERMINALS) r.gates
          (narrow r.gates (find_none (λ (g : Gate). nat_lt MAX_TERMINALS (length g.ins)) r.gates sizes.2));
    }
