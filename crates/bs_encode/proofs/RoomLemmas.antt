-- The variables of a checked netlist and a choice are few.
use Rattle.std.proofs.Common.{◌≡◌, ℕ, ◌+◌, ◌*◌, ◌<◌, ◌≤◌, ◌^◌, arith, true, List, [], ◌∷◌, ◌++◌, map, length, eqb, nat_eq, sym, subst, inl, inr, All}
use Rattle.std.proofs.Common.{length-append}
use Rattle.std.proofs.lemmas.List.{length-map}
use Rattle.std.specs.Prelude.{sum_by}
use Rattle.std.specs.List.{AllByRecursion, list_any}
use Rattle.std.proofs.lemmas.Bool.{eqb-true, or_cases, false≢true}
use Rattle.std.proofs.lemmas.List.Sums.{sum_by-cons}
use Rattle.std.proofs.lemmas.List.Elements.{recursion_from_All, All-from_recursion}
use Rattle.std.proofs.lemmas.Map.Keys.{IsDistinct-tail}
use Rattle.std.proofs.lemmas.Map.Steps.{length-le_from_distinct_below}
use Rattle.bs_net.specs.declared.net.Gate.{Gate}
use Rattle.bs_net.specs.declared.net.Const.{Const}
use Rattle.bs_net.specs.declared.gate.Kind.{Kind}
use Rattle.bs_net.specs.declared.gate.Kind.TheVariants.{And, Nand, Or, Nor, Xor, Xnor, Buf, Not}
use Rattle.bs_net.specs.Circuit.{Circuit, drivers, number, state_nets}
use Rattle.bs_net.specs.Order.{IsChecked, IsBounded}
use Rattle.bs_scan.specs.Choice.{numbers_of}
use Rattle.bs_encode.specs.Tables.{helpers_of}
use Rattle.bs_encode.specs.Transition.{first_next, gate_helpers, item_helpers, variables}

any_below : (xs : List ℕ) (n q : ℕ) → AllByRecursion (λ m. m < n) xs → list_any (eqb q) xs ≡ true → q < n
any_below [] n q all h = absurd (false≢true h)
any_below (x ∷ xs) n q all h = elim (or_cases (eqb q x) (list_any (eqb q) xs) h) [
  | inl here ↦ subst (λ m. m < n) (sym (eqb-true q x here)) all.0
  | inr later ↦ any_below xs n q all.1 later
]

-- no net has two drivers, so there are no more gates than nets
gates_few : (c : Circuit) → IsChecked c → length c.gates ≤ c.nets
gates_few c checked =
    let driven : List ℕ = drivers c in
    let below : AllByRecursion (λ n. n < c.nets) driven = recursion_from_All (λ n. n < c.nets) driven checked.in_range in
    let few : length driven ≤ c.nets =
    length-le_from_distinct_below driven c.nets (IsDistinct-tail nat_eq c.clock.0 driven checked.single_driver) (λ q h. any_below driven c.nets q below h) in
    let states : List ℕ = map number (state_nets c) in
    let consts : List ℕ = map (λ (k : Const). k.net.0) c.constants in
    let outs : List ℕ = map (λ (g : Gate). g.out.0) c.gates in
    omega (
      arith,
      few,
      length-append (map number c.inputs) (states ++ (consts ++ outs)),
      length-append states (consts ++ outs),
      length-append consts outs,
      length-map c.gates (λ (g : Gate). g.out.0),
    )

few_of_kind : (k : Kind) (n : ℕ) → n ≤ 64 → helpers_of k n ≤ 62
few_of_kind And n le = omega arith
few_of_kind Nand n le = omega arith
few_of_kind Or n le = omega arith
few_of_kind Nor n le = omega arith
few_of_kind Xor n le = omega (arith, le)
few_of_kind Xnor n le = omega (arith, le)
few_of_kind Buf n le = omega arith
few_of_kind Not n le = omega arith

helpers_few : (gs : List Gate) → AllByRecursion (λ (g : Gate). length g.ins ≤ 64) gs → sum_by gate_helpers gs ≤ 62 * length gs
helpers_few [] all = omega arith
helpers_few (g ∷ gs) all = omega (arith, helpers_few gs all.1, few_of_kind g.kind (length g.ins) all.0, sum_by-cons gate_helpers g gs)

items_few : (items : List (List ℕ)) → sum_by (λ item. item_helpers item + 1) items ≤ numbers_of items + length items
items_few [] = omega arith
items_few (item ∷ items) =
    omega (arith, items_few items, sum_by-cons (λ (i : List ℕ). item_helpers i + 1) item items, sum_by-cons (λ (i : List ℕ). length i) item items)

-- and there is room above those of two time frames for the activation literals of a listing
pub room_for_activations : (c : Circuit) (items : List (List ℕ)) → IsChecked c → IsBounded c → numbers_of items ≤ 1048576 → length items ≤ 256 →
    2 * variables c items + 1 + 65536 < 2 ^ 30
room_for_activations c items checked bounded numbers count =
    omega (
      arith,
      gates_few c checked,
      helpers_few c.gates (recursion_from_All (λ (g : Gate). length g.ins ≤ 64) c.gates bounded.narrow),
      bounded.few_nets,
      bounded.few_flops,
      items_few items,
      numbers,
      count,
    )

pub few_variables : (c : Circuit) (items : List (List ℕ)) → IsChecked c → IsBounded c → numbers_of items ≤ 1048576 → length items ≤ 256 →
    variables c items < 2 ^ 30
few_variables c items checked bounded numbers count = omega (arith, room_for_activations c items checked bounded numbers count)

each_short : (items : List (List ℕ)) (n : ℕ) → numbers_of items ≤ n → AllByRecursion (λ (item : List ℕ). length item ≤ n) items
each_short [] n le = tt
each_short (item ∷ items) n le =
    let sum = sum_by-cons (λ (i : List ℕ). length i) item items in
    (omega (arith, le, sum), each_short items n (omega (arith, le, sum)))

weaker : (items : List (List ℕ)) → AllByRecursion (λ (item : List ℕ). length item ≤ 1048576) items →
    AllByRecursion (λ (item : List ℕ). length item < 2 ^ 30) items
weaker [] all = tt
weaker (item ∷ items) all = (omega (arith, all.0), weaker items all.1)

pub short_items : (items : List (List ℕ)) → numbers_of items ≤ 1048576 → All (λ (item : List ℕ). length item < 2 ^ 30) items
short_items items le = All-from_recursion (λ (item : List ℕ). length item < 2 ^ 30) items (weaker items (each_short items 1048576 le))

-- the next variables are variables
pub next_fits : (c : Circuit) (items : List (List ℕ)) (first count : ℕ) → first ≡ first_next c → count ≡ length c.flops → variables c items < 2 ^ 30 →
    (1 ≤ first) × (first + count ≤ 2 ^ 30)
next_fits c items first count is many few = (omega (arith, is), omega (arith, is, many, few))
