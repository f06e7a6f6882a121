-- Every literal of the transition clauses is one of the encoding's variables.
use Rattle.std.proofs.Common.{◌≡◌, ℕ, zero, suc, ◌+◌, ◌-◌, ◌<◌, ◌≤◌, eqb, Bool, true, false, not, cond, List, [], ◌∷◌, ◌++◌, map, length, get_or, sym}
use Rattle.std.proofs.Common.{ap, arith, subst}
use Rattle.std.specs.Prelude.{sum_by, filter}
use Rattle.std.specs.List.{AllByRecursion, range_with_len, flat_map}
use Rattle.std.proofs.lemmas.List.{length-map}
use Rattle.std.proofs.lemmas.List.Elements.{All-from_recursion, recursion_from_All}
use Rattle.std.proofs.lemmas.List.Sums.{sum_by-cons}
use Rattle.bs_clause.specs.Literal.{Literal, Clause, same_literal}
use Rattle.bs_clause.specs.Resolvent.{once}
use Rattle.bs_clause.specs.Range.{IsWithin}
use Rattle.bs_log.proofs.Elements.{AllByRecursion-filter}
use Rattle.bs_net.specs.declared.net.NetId.{NetId}
use Rattle.bs_net.specs.declared.gate.Kind.{Kind}
use Rattle.bs_net.specs.declared.gate.Kind.TheVariants.{And, Nand, Or, Nor, Xor, Xnor, Buf, Not}
use Rattle.bs_net.specs.declared.net.Gate.{Gate}
use Rattle.bs_net.specs.declared.net.Flop.{Flop}
use Rattle.bs_net.specs.declared.net.Mode.{Mode}
use Rattle.bs_net.specs.declared.net.Mode.TheVariants.{Plain, Enable, Clear}
use Rattle.bs_net.specs.declared.net.Const.{Const}
use Rattle.bs_net.specs.Circuit.{Circuit, is_zero_net}
use Rattle.bs_net.specs.Parts.{IsModePlaced, IsFlopPlaced}
use Rattle.bs_net.proofs.NextLemmas.{range_from_below}
use Rattle.bs_encode.specs.Tables.{lit, all_clauses, any_clauses, same_clauses, differ_clauses, either_clauses, unless_clauses, odd_from, odd_clauses}
use Rattle.bs_encode.specs.Tables.{first_clauses, gate_clauses, helpers_of}
use Rattle.bs_encode.specs.Transition.{net_var, gate_helpers, item_helpers, item_vars, state_vars, first_helper, first_next, first_item, variables}
use Rattle.bs_encode.specs.Transition.{chosen, gates_clauses, unit_clauses, mode_clauses, load_clauses, next_clauses, items_clauses, table_clauses}
use Rattle.bs_encode.specs.Transition.{is_tautology}
use Rattle.bs_encode.specs.Transition.{tidied, transition_clauses}
use Rattle.bs_encode.specs.Encoded.{literals}
use Rattle.bs_encode.specs.Meaning.{IsClosed}
use Rattle.bs_encode.proofs.PartLemmas.{GatePlaced}
use Rattle.bs_encode.proofs.LawLemmas.{gates_in_place, flops_in_place, states_in_place, items_in_place}

-- a variable is one of 1 to n, and so are those of a clause and of clauses
abbrev pub InRange : ℕ → ℕ → Type 0
InRange n v = (1 ≤ v) × (v ≤ n)

abbrev pub Ranged : ℕ → Clause → Type 0
Ranged n c = AllByRecursion (IsWithin n) c

abbrev pub AllRanged : ℕ → List Clause → Type 0
AllRanged n cs = AllByRecursion (Ranged n) cs

pub join : {X : Type 0} (P : X → Type 0) (xs ys : List X) → AllByRecursion P xs → AllByRecursion P ys → AllByRecursion P (xs ++ ys)
join P [] ys h k = k
join P (x ∷ xs) ys h k = (h.0, join P xs ys h.1 k)

-- ---- the clauses of one gate

pub signs_ranged : (n : ℕ) (b : Bool) (vs : List ℕ) → AllByRecursion (InRange n) vs → Ranged n (map (λ v. lit v b) vs)
signs_ranged n b [] h = tt
signs_ranged n b (v ∷ vs) h = (h.0, signs_ranged n b vs h.1)

pairs_ranged : (n : ℕ) (first : Literal) (b : Bool) (vs : List ℕ) → IsWithin n first → AllByRecursion (InRange n) vs →
    AllRanged n (map (λ v. first ∷ lit v b ∷ []) vs)
pairs_ranged n first b [] f h = tt
pairs_ranged n first b (v ∷ vs) f h = ((f, (h.0, tt)), pairs_ranged n first b vs f h.1)

all_ranged : (n : ℕ) (sense : Bool) (z : ℕ) (ins : List ℕ) → InRange n z → AllByRecursion (InRange n) ins → AllRanged n (all_clauses sense z ins)
all_ranged n sense z ins hz hi =
    join (Ranged n) (map (λ a. lit z (not sense) ∷ lit a true ∷ []) ins) ((lit z sense ∷ map (λ a. lit a false) ins) ∷ [])
    (pairs_ranged n (lit z (not sense)) true ins hz hi) ((hz, signs_ranged n false ins hi), tt)

any_ranged : (n : ℕ) (sense : Bool) (z : ℕ) (ins : List ℕ) → InRange n z → AllByRecursion (InRange n) ins → AllRanged n (any_clauses sense z ins)
any_ranged n sense z ins hz hi =
    join (Ranged n) (map (λ a. lit z sense ∷ lit a false ∷ []) ins) ((lit z (not sense) ∷ map (λ a. lit a true) ins) ∷ [])
    (pairs_ranged n (lit z sense) false ins hz hi) ((hz, signs_ranged n true ins hi), tt)

same_ranged : (n : ℕ) (sense : Bool) (z a : ℕ) → InRange n z → InRange n a → AllRanged n (same_clauses sense z a)
same_ranged n sense z a hz ha = ((hz, (ha, tt)), ((hz, (ha, tt)), tt))

differ_ranged : (n : ℕ) (sense : Bool) (z a b : ℕ) → InRange n z → InRange n a → InRange n b → AllRanged n (differ_clauses sense z a b)
differ_ranged n sense z a b hz ha hb =
    let one : Ranged n (lit z sense ∷ lit a sense ∷ lit b sense ∷ []) = (hz, (ha, (hb, tt))) in
    (one, (one, (one, (one, tt))))

either_ranged : (n z on a b : ℕ) → InRange n z → InRange n on → InRange n a → InRange n b → AllRanged n (either_clauses z on a b)
either_ranged n z on a b hz ho ha hb =
    let one : Ranged n (lit z true ∷ lit on true ∷ lit a true ∷ []) = (hz, (ho, (ha, tt))) in
    let other : Ranged n (lit z true ∷ lit on true ∷ lit b true ∷ []) = (hz, (ho, (hb, tt))) in
    (one, (one, (other, (other, tt))))

unless_ranged : (n z off a : ℕ) → InRange n z → InRange n off → InRange n a → AllRanged n (unless_clauses z off a)
unless_ranged n z off a hz ho ha = ((hz, (ha, tt)), ((hz, (ho, tt)), ((hz, (ha, (ho, tt))), tt)))

odd_from_ranged : (n : ℕ) (sense : Bool) (h z a : ℕ) (rest : List ℕ) → 1 ≤ h → h + (length rest - 1) ≤ n + 1 → InRange n z → InRange n a →
    AllByRecursion (InRange n) rest → AllRanged n (odd_from sense h z a rest)
odd_from_ranged n sense h z a [] one room hz ha hr = same_ranged n sense z a hz ha
odd_from_ranged n sense h z a (b ∷ []) one room hz ha hr = differ_ranged n sense z a b hz ha hr.0
odd_from_ranged n sense h z a (b ∷ e ∷ rest) one room hz ha hr =
    let hh : InRange n h = (one, omega (arith, room)) in
    join (Ranged n) (differ_clauses true h a b) (odd_from sense (h + 1) z h (e ∷ rest))
    (differ_ranged n true h a b hh ha hr.0) (odd_from_ranged n sense (h + 1) z h (e ∷ rest) (omega (arith, one)) (omega (arith, room)) hz hh hr.1)

odd_ranged : (n : ℕ) (sense : Bool) (h z : ℕ) (ins : List ℕ) → 1 ≤ h → h + (length ins - 2) ≤ n + 1 → InRange n z → AllByRecursion (InRange n) ins →
    AllRanged n (odd_clauses sense h z ins)
odd_ranged n sense h z [] one room hz hi = ((hz, tt), tt)
odd_ranged n sense h z (a ∷ rest) one room hz hi = odd_from_ranged n sense h z a rest one (omega (arith, room)) hz hi.0 hi.1

first_ranged : (n : ℕ) (sense : Bool) (z : ℕ) (ins : List ℕ) → InRange n z → AllByRecursion (InRange n) ins → AllRanged n (first_clauses sense z ins)
first_ranged n sense z [] hz hi = ((hz, tt), tt)
first_ranged n sense z (a ∷ rest) hz hi = same_ranged n sense z a hz hi.0

gate_ranged : (n : ℕ) (k : Kind) (h z : ℕ) (ins : List ℕ) → 1 ≤ h → h + helpers_of k (length ins) ≤ n + 1 → InRange n z → AllByRecursion (InRange n) ins →
    AllRanged n (gate_clauses k h z ins)
gate_ranged n And h z ins one room hz hi = all_ranged n true z ins hz hi
gate_ranged n Nand h z ins one room hz hi = all_ranged n false z ins hz hi
gate_ranged n Or h z ins one room hz hi = any_ranged n true z ins hz hi
gate_ranged n Nor h z ins one room hz hi = any_ranged n false z ins hz hi
gate_ranged n Xor h z ins one room hz hi = odd_ranged n true h z ins one room hz hi
gate_ranged n Xnor h z ins one room hz hi = odd_ranged n false h z ins one room hz hi
gate_ranged n Buf h z ins one room hz hi = first_ranged n true z ins hz hi
gate_ranged n Not h z ins one room hz hi = first_ranged n false z ins hz hi

-- ---- the parts

pub net_vars_ranged : (n nets : ℕ) (ns : List NetId) → nets ≤ n → AllByRecursion (λ (m : NetId). m.0 < nets) ns → AllByRecursion (InRange n) (map net_var ns)
net_vars_ranged n nets [] le p = tt
net_vars_ranged n nets (m ∷ ns) le p =
    let lt : m.0 < nets = p.0 in
    ((omega arith, omega (arith, lt, le)), net_vars_ranged n nets ns le p.1)

gates_ranged : (n nets h : ℕ) (gs : List Gate) → nets ≤ n → AllByRecursion (GatePlaced nets) gs → 1 ≤ h → h + sum_by gate_helpers gs ≤ n + 1 →
    AllRanged n (gates_clauses h gs)
gates_ranged n nets h [] le p one room = tt
gates_ranged n nets h (g ∷ gs) le p one room =
    let sum = sum_by-cons gate_helpers g gs in
    let out : g.out.0 < nets = p.0.0 in
    let own : helpers_of g.kind (length (map net_var g.ins)) ≡ gate_helpers g = ap (helpers_of g.kind) (length-map g.ins net_var) in
    join (Ranged n) (gate_clauses g.kind h (net_var g.out) (map net_var g.ins)) (gates_clauses (h + gate_helpers g) gs)
    (gate_ranged n g.kind h (net_var g.out) (map net_var g.ins) one (omega (arith, room, sum, own)) (omega arith, omega (arith, out, le))
    (net_vars_ranged n nets g.ins le p.0.1))
    (gates_ranged n nets (h + gate_helpers g) gs le p.1 (omega (arith, one)) (omega (arith, room, sum)))

constants_ranged : (n v : ℕ) (ks : List Const) → InRange n v → AllRanged n (map (λ (k : Const). lit v k.value ∷ []) ks)
constants_ranged n v [] h = tt
constants_ranged n v (k ∷ ks) h = ((h, tt), constants_ranged n v ks h)

zero_ranged : (n v : ℕ) (b : Bool) → InRange n v → AllRanged n (cond b ((lit v false ∷ []) ∷ []) [])
zero_ranged n v true h = ((h, tt), tt)
zero_ranged n v false h = tt

unit_ranged : (n : ℕ) (c : Circuit) (k : ℕ) → k < n → AllRanged n (unit_clauses c k)
unit_ranged n c k lt =
    let own : InRange n (k + 1) = (omega arith, omega (arith, lt)) in
    join (Ranged n) (map (λ (x : Const). lit (k + 1) x.value ∷ []) (filter (λ (x : Const). eqb x.net.0 k) c.constants))
    (cond (is_zero_net c k) ((lit (k + 1) false ∷ []) ∷ []) [])
    (constants_ranged n (k + 1) (filter (λ (x : Const). eqb x.net.0 k) c.constants) own) (zero_ranged n (k + 1) (is_zero_net c k) own)

flat_ranged : (n : ℕ) (f : ℕ → List Clause) (ks : List ℕ) → AllByRecursion (λ k. AllRanged n (f k)) ks → AllRanged n (flat_map f ks)
flat_ranged n f [] h = tt
flat_ranged n f (k ∷ ks) h = join (Ranged n) (f k) (flat_map f ks) h.0 (flat_ranged n f ks h.1)

net_var_ranged : (n nets : ℕ) (m : NetId) → nets ≤ n → m.0 < nets → InRange n (net_var m)
net_var_ranged n nets m le lt = (omega arith, omega (arith, lt, le))

mode_ranged : (n nets v : ℕ) (mode : Mode) (d q : NetId) → nets ≤ n → InRange n v → d.0 < nets → q.0 < nets → IsModePlaced nets mode →
    AllRanged n (mode_clauses mode v d q)
mode_ranged n nets v Plain d q le own load state other = same_ranged n true v (net_var d) own (net_var_ranged n nets d le load)
mode_ranged n nets v (Enable e) d q le own load state other =
    either_ranged n v (net_var e) (net_var d) (net_var q) own (net_var_ranged n nets e le (other 0 e (omega arith))) (net_var_ranged n nets d le load)
    (net_var_ranged n nets q le state)
mode_ranged n nets v (Clear r) d q le own load state other =
    unless_ranged n v (net_var r) (net_var d) own (net_var_ranged n nets r le (other 0 r (omega arith))) (net_var_ranged n nets d le load)

next_ranged : (n nets m : ℕ) (fs : List Flop) → nets ≤ n → AllByRecursion (IsFlopPlaced nets) fs → 1 ≤ m → m + length fs ≤ n + 1 →
    AllRanged n (next_clauses m fs)
next_ranged n nets m [] le p one room = tt
next_ranged n nets m (f ∷ fs) le p one room =
    join (Ranged n) (load_clauses m f) (next_clauses (m + 1) fs)
    (mode_ranged n nets m f.mode f.d f.q le (one, omega (arith, room)) p.0.1 p.0.0 p.0.3)
    (next_ranged n nets (m + 1) fs le p.1 (omega (arith, one)) (omega (arith, room)))

chosen_ranged : (n : ℕ) (states item : List ℕ) → AllByRecursion (InRange n) states → AllByRecursion (λ i. i < length states) item →
    AllByRecursion (InRange n) (chosen states item)
chosen_ranged n states [] h p = tt
chosen_ranged n states (i ∷ item) h p = (All-from_recursion (InRange n) states h i 0 p.0, chosen_ranged n states item h p.1)

items_ranged : (n : ℕ) (states : List ℕ) (v : ℕ) (items : List (List ℕ)) → AllByRecursion (InRange n) states →
    AllByRecursion (λ (item : List ℕ). AllByRecursion (λ i. i < length states) item) items → 1 ≤ v →
    v + sum_by (λ item. item_helpers item + 1) items ≤ n + 1 → AllRanged n (items_clauses states v items)
items_ranged n states v [] h p one room = tt
items_ranged n states v (item ∷ items) h p one room =
    let sum = sum_by-cons (λ (i : List ℕ). item_helpers i + 1) item items in
    let wide : length (chosen states item) ≡ length item = length-map item (λ i. get_or states i 0) in
    join (Ranged n) (odd_clauses true v (v + item_helpers item) (chosen states item)) (items_clauses states (v + item_helpers item + 1) items)
    (odd_ranged n true v (v + item_helpers item) (chosen states item) one (omega (arith, room, sum, wide)) (omega (arith, one), omega (arith, room, sum))
    (chosen_ranged n states item h p.0))
    (items_ranged n states (v + item_helpers item + 1) items h p.1 (omega (arith, one)) (omega (arith, room, sum)))

pub item_vars_ranged : (n v : ℕ) (items : List (List ℕ)) → 1 ≤ v → v + sum_by (λ item. item_helpers item + 1) items ≤ n + 1 →
    AllByRecursion (InRange n) (item_vars v items)
item_vars_ranged n v [] one room = tt
item_vars_ranged n v (item ∷ items) one room =
    let sum = sum_by-cons (λ (i : List ℕ). item_helpers i + 1) item items in
    ((omega (arith, one), omega (arith, room, sum)), item_vars_ranged n (v + item_helpers item + 1) items (omega (arith, one)) (omega (arith, room, sum)))

pub numbers_ranged : (n m k : ℕ) → 1 ≤ m → m + k ≤ n + 1 → AllByRecursion (InRange n) (range_with_len m k)
numbers_ranged n m zero one room = tt
numbers_ranged n m (suc k) one room = ((one, omega (arith, room)), numbers_ranged n (m + 1) k (omega (arith, one)) (omega (arith, room)))

pub state_vars_ranged : (n nets : ℕ) (fs : List Flop) → nets ≤ n → AllByRecursion (λ (f : Flop). f.q.0 < nets) fs →
    AllByRecursion (InRange n) (map (λ (f : Flop). net_var f.q) fs)
state_vars_ranged n nets [] le p = tt
state_vars_ranged n nets (f ∷ fs) le p =
    let lt : f.q.0 < nets = p.0 in
    ((omega arith, omega (arith, lt, le)), state_vars_ranged n nets fs le p.1)

-- ---- the transition clauses

once_ranged : (n : ℕ) (c : Clause) → Ranged n c → Ranged n (once c)
once_ranged n [] h = tt
once_ranged n (l ∷ c) h = (h.0, AllByRecursion-filter (IsWithin n) (λ m. not (same_literal l m)) (once c) (once_ranged n c h.1))

each_once_ranged : (n : ℕ) (cs : List Clause) → AllRanged n cs → AllRanged n (map once cs)
each_once_ranged n [] h = tt
each_once_ranged n (c ∷ cs) h = (once_ranged n c h.0, each_once_ranged n cs h.1)

tidied_ranged : (n : ℕ) (cs : List Clause) → AllRanged n cs → AllRanged n (tidied cs)
tidied_ranged n cs h =
    each_once_ranged n (filter (λ c. not (is_tautology c)) cs) (AllByRecursion-filter (Ranged n) (λ c. not (is_tautology c)) cs h)

module _ (c : Circuit) (items : List (List ℕ)) (p : IsClosed c items) where
  states_in_range : AllByRecursion (InRange (variables c items)) (state_vars c)
  states_in_range =
      state_vars_ranged (variables c items) c.nets c.flops (omega arith) (states_in_place c items p)

  items_below : AllByRecursion (λ (item : List ℕ). AllByRecursion (λ i. i < length (state_vars c)) item) items
  items_below =
      let P : ℕ → Type 0 = λ width. AllByRecursion (λ (item : List ℕ). AllByRecursion (λ i. i < width) item) items in
      subst P (sym (length-map c.flops (λ (f : Flop). net_var f.q))) (items_in_place c items p)

  pub transition_ranged : AllRanged (variables c items) (transition_clauses c items)
  transition_ranged =
      let n = variables c items in
      let units = flat_map (unit_clauses c) (range_with_len 0 c.nets) in
      let nexts = next_clauses (first_next c) c.flops in
      let rest = items_clauses (state_vars c) (first_item c) items in
      tidied_ranged n (table_clauses c items)
      (join (Ranged n) (gates_clauses (first_helper c) c.gates) (units ++ (nexts ++ rest))
      (gates_ranged n c.nets (first_helper c) c.gates (omega arith) (gates_in_place c items p) (omega arith) (omega arith))
      (join (Ranged n) units (nexts ++ rest)
      (flat_ranged n (unit_clauses c) (range_with_len 0 c.nets)
      (range_from_below (λ k. AllRanged n (unit_clauses c k)) c.nets (λ k lt. unit_ranged n c k (omega (arith, lt)))))
      (join (Ranged n) nexts rest
      (next_ranged n c.nets (first_next c) c.flops (omega arith) (flops_in_place c items p) (omega arith) (omega arith))
      (items_ranged n (state_vars c) (first_item c) items states_in_range items_below (omega arith) (omega arith)))))

  pub states_ranged : Ranged (variables c items) (literals (state_vars c))
  states_ranged = signs_ranged (variables c items) true (state_vars c) states_in_range

  pub next_literals_ranged : Ranged (variables c items) (literals (range_with_len (first_next c) (length c.flops)))
  next_literals_ranged =
      signs_ranged (variables c items) true (range_with_len (first_next c) (length c.flops))
      (numbers_ranged (variables c items) (first_next c) (length c.flops) (omega arith) (omega arith))

  pub signatures_ranged : Ranged (variables c items) (literals (item_vars (first_item c) items))
  signatures_ranged =
      signs_ranged (variables c items) true (item_vars (first_item c) items)
      (item_vars_ranged (variables c items) (first_item c) items (omega arith) (omega arith))

  pub inputs_ranged : Ranged (variables c items) (literals (map net_var c.inputs))
  inputs_ranged =
      signs_ranged (variables c items) true (map net_var c.inputs)
      (net_vars_ranged (variables c items) c.nets c.inputs (omega arith) (recursion_from_All (λ (m : NetId). m.0 < c.nets) c.inputs p.inputs))
