-- The transition clauses say exactly what fits.
use Rattle.std.proofs.Common.{◌≡◌, ℕ, zero, suc, ◌+◌, ◌-◌, ◌<◌, Bool, true, false, ◌&&◌, List, [], ◌∷◌, ◌++◌, map, length, get_or, refl, sym, ap, ◌∙◌}
use Rattle.std.proofs.Common.{arith, subst, zero-add}
use Rattle.std.specs.List.{AllByRecursion, All, range_with_len, flat_map}
use Rattle.std.proofs.lemmas.List.{length-map, get_or_append_left}
use Rattle.std.proofs.lemmas.List.Elements.{All-from_recursion, recursion_from_All}
use Rattle.std.proofs.lemmas.List.FromFn.{fill_by_all, get_or-map-range_with_len, length-map-range_with_len}
use Rattle.bs_clause.specs.Literal.{Clause, Satisfies}
use Rattle.bs_net.specs.declared.net.NetId.{NetId}
use Rattle.bs_net.specs.declared.net.Gate.{Gate}
use Rattle.bs_net.specs.declared.net.Flop.{Flop}
use Rattle.bs_net.specs.declared.net.Const.{Const}
use Rattle.bs_net.specs.Circuit.{Circuit, Fits, Shows, IsSettled, bit_at, shown, loaded, state_nets}
use Rattle.bs_net.specs.Parts.{Parts, PartsArePlaced, IsFlopPlaced}
use Rattle.bs_net.specs.Netlist.{circuit_of, clock_of}
use Rattle.bs_net.proofs.NetlistLemmas.{without_placed}
use Rattle.bs_net.proofs.NextLemmas.{below_from_range, range_from_below}
use Rattle.bs_encode.specs.Transition.{net_var, first_helper, first_next, first_item, state_vars, gates_clauses, unit_clauses, next_clauses}
use Rattle.bs_encode.specs.Transition.{items_clauses, table_clauses, transition_clauses}
use Rattle.bs_encode.specs.Meaning.{IsClosed, ShowsStep, nets_of, ClausesEqualGates}
use Rattle.bs_encode.proofs.TidyLemmas.{meets, meets_all, meets-tidied}
use Rattle.bs_encode.proofs.TableLemmas.{and_true, meets_all-append, Has, has_left, has_right}
use Rattle.bs_encode.proofs.PartLemmas.{OnNets, GatePlaced, ItemPlaced, OnState, UnitsSay, gates_bits, length-gates_bits, items_bits}
use Rattle.bs_encode.proofs.PartLemmas.{gates-sound, gates-complete, next-sound, next-complete, items-sound, items-complete, unit-sound}
use Rattle.bs_encode.proofs.PartLemmas.{unit-complete, flat-sound, flat-complete}

-- ---- each clause is met, and all are

pub all_met : (a : ℕ → Bool) (cs : List Clause) → AllByRecursion (Satisfies a) cs → meets_all a cs ≡ true
all_met a [] h = refl
all_met a (c ∷ cs) h = ap (λ b. b && meets_all a cs) h.0 ∙ all_met a cs h.1

pub each_met : (a : ℕ → Bool) (cs : List Clause) → meets_all a cs ≡ true → AllByRecursion (Satisfies a) cs
each_met a [] h = tt
each_met a (c ∷ cs) h = let parts : (meets a c ≡ true) × (meets_all a cs ≡ true) = and_true _ _ h in (parts.0, each_met a cs parts.1)

map_all : {X : Type 0} (P Q : X → Type 0) → ((x : X) → P x → Q x) → (xs : List X) → AllByRecursion P xs → AllByRecursion Q xs
map_all P Q f [] h = tt
map_all P Q f (x ∷ xs) h = (f x h.0, map_all P Q f xs h.1)

-- ---- what is placed, by recursion

gates_placed : (nets : ℕ) (gs : List Gate) → AllByRecursion (λ (g : Gate). g.out.0 < nets) gs →
    AllByRecursion (λ (g : Gate). All (λ (n : NetId). n.0 < nets) g.ins) gs → AllByRecursion (GatePlaced nets) gs
gates_placed nets [] o i = tt
gates_placed nets (g ∷ gs) o i = ((o.0, recursion_from_All (λ (n : NetId). n.0 < nets) g.ins i.0), gates_placed nets gs o.1 i.1)

module _ (c : Circuit) (items : List (List ℕ)) (p : IsClosed c items) where
  pub gates_in_place : AllByRecursion (GatePlaced c.nets) c.gates
  gates_in_place =
      gates_placed c.nets c.gates (recursion_from_All (λ (g : Gate). g.out.0 < c.nets) c.gates p.outs)
      (recursion_from_All (λ (g : Gate). All (λ (n : NetId). n.0 < c.nets) g.ins) c.gates p.ins)

  pub flops_in_place : AllByRecursion (IsFlopPlaced c.nets) c.flops
  flops_in_place = recursion_from_All (IsFlopPlaced c.nets) c.flops p.flops

  pub states_in_place : AllByRecursion (λ (f : Flop). f.q.0 < c.nets) c.flops
  states_in_place = recursion_from_All (λ (f : Flop). f.q.0 < c.nets) c.flops (λ k d lt. (p.flops k d lt).0)

  pub items_in_place : AllByRecursion (ItemPlaced c) items
  items_in_place =
      map_all (λ (item : List ℕ). All (λ i. i < length c.flops) item) (ItemPlaced c) (λ item h. recursion_from_All (λ i. i < length c.flops) item h) items
      (recursion_from_All (λ (item : List ℕ). All (λ i. i < length c.flops) item) items p.items_placed)

-- the assignment shows on the state variables what its nets show on the state nets
state_shown : (a : ℕ → Bool) (v : List Bool) (nets : ℕ) → OnNets a v nets → (fs : List Flop) → AllByRecursion (λ (f : Flop). f.q.0 < nets) fs → (i : ℕ) →
    i < length fs → a (get_or (map (λ (f : Flop). net_var f.q) fs) i 0) ≡ get_or (shown v (map (λ (f : Flop). f.q) fs)) i false
state_shown a v nets on [] p i lt = absurd (omega arith)
state_shown a v nets on (f ∷ fs) p zero lt = on f.q.0 p.0
state_shown a v nets on (f ∷ fs) p (suc i) lt = state_shown a v nets on fs p.1 i (omega arith)

-- ---- every assignment that meets the clauses fits

constants_met : (c : Circuit) (a : ℕ → Bool) (v : List Bool) → OnNets a v c.nets → (ks : List Const) → AllByRecursion (λ (k : Const). k.net.0 < c.nets) ks →
    ((n : ℕ) → n < c.nets → AllByRecursion (λ (k : Const). k.net.0 ≡ n → a (n + 1) ≡ k.value) ks) →
    AllByRecursion (λ (k : Const). bit_at v k.net.0 ≡ k.value) ks
constants_met c a v on [] p h = tt
constants_met c a v on (k ∷ ks) p h =
    (sym (on k.net.0 p.0) ∙ (h k.net.0 p.0).0 refl, constants_met c a v on ks p.1 (λ n lt. (h n lt).1))

pub meeting_fits : (c : Circuit) (items : List (List ℕ)) (a : ℕ → Bool) → IsClosed c items → All (Satisfies a) (transition_clauses c items) →
    ShowsStep c items (shown (nets_of c a) (state_nets c)) (shown (nets_of c a) c.inputs) (nets_of c a) a
meeting_fits c items a p m =
    let v = nets_of c a in
    let units = flat_map (unit_clauses c) (range_with_len 0 c.nets) in
    let nexts = next_clauses (first_next c) c.flops in
    let rest = items_clauses (state_vars c) (first_item c) items in
    let whole : meets_all a (table_clauses c items) ≡ true =
    sym (meets-tidied a (table_clauses c items)) ∙ all_met a (transition_clauses c items) (recursion_from_All (Satisfies a) (transition_clauses c items) m) in
    let one : (meets_all a (gates_clauses (first_helper c) c.gates) ≡ true) × (meets_all a (units ++ (nexts ++ rest)) ≡ true) =
    and_true _ _ (sym (meets_all-append a (gates_clauses (first_helper c) c.gates) (units ++ (nexts ++ rest))) ∙ whole) in
    let two : (meets_all a units ≡ true) × (meets_all a (nexts ++ rest) ≡ true) =
    and_true _ _ (sym (meets_all-append a units (nexts ++ rest)) ∙ one.1) in
    let three : (meets_all a nexts ≡ true) × (meets_all a rest ≡ true) =
    and_true _ _ (sym (meets_all-append a nexts rest) ∙ two.1) in
    let on : OnNets a v c.nets = λ n lt. sym (get_or-map-range_with_len (λ k. a (k + 1)) 0 c.nets n n false lt (zero-add n)) in
    let say : (n : ℕ) → n < c.nets → UnitsSay c a n =
    λ n lt. unit-sound c a n (below_from_range (λ k. meets_all a (unit_clauses c k) ≡ true) c.nets
    (flat-sound a (unit_clauses c) (range_with_len 0 c.nets) two.0) n lt) in
    let shows : Shows c (shown v (state_nets c)) (shown v c.inputs) v = record {
      every_net = length-map-range_with_len (λ n. a (n + 1)) 0 c.nets;
      input = refl;
      state = refl;
      constants =
          All-from_recursion (λ (k : Const). bit_at v k.net.0 ≡ k.value) c.constants
          (constants_met c a v on c.constants (recursion_from_All (λ (k : Const). k.net.0 < c.nets) c.constants p.constants) (λ n lt. (say n lt).0));
      zeros = λ n lt z. sym (on n lt) ∙ (say n lt).1 z;
    } in
    record {
      valuation = refl;
      fits =
          record {
            sources = shows;
            gates = All-from_recursion (IsSettled v) c.gates (gates-sound a v c.nets (first_helper c) c.gates on (gates_in_place c items p) one.0);
          };
      next = next-sound a v c.nets (first_next c) c.flops on (flops_in_place c items p) three.0;
      signature =
          items-sound a c (shown v (state_nets c)) (first_item c) items
          (λ i lt. state_shown a v c.nets on c.flops (states_in_place c items p) i lt)
          (items_in_place c items p) three.1;
    }

-- ---- every valuation that fits extends

has_from : (f : ℕ → Bool) (h : ℕ) (bits : List Bool) → ((i : ℕ) → i < length bits → f (h + i) ≡ get_or bits i false) → Has f h bits
has_from f h [] all = tt
has_from f h (b ∷ bits) all =
    let here : h ≡ h + 0 = omega arith in (
      ap f here ∙ all 0 (omega arith),
      has_from f (h + 1) bits
          (λ i lt.
          let there : (h + 1) + i ≡ h + suc i = omega arith in
          ap f there ∙ all (suc i) (omega arith)),
    )

-- the bits of every variable, in order
abbrev every_bit : Circuit → List (List ℕ) → List Bool → List Bool → List Bool
every_bit c items s v = v ++ (gates_bits v c.gates ++ (map (loaded v) c.flops ++ items_bits s items))

pub fitting_extends : (c : Circuit) (items : List (List ℕ)) (s x v : List Bool) → IsClosed c items → Fits c s x v →
    (a : ℕ → Bool) × All (Satisfies a) (transition_clauses c items) × ShowsStep c items s x v a
fitting_extends c items s x v p f =
    let gate_part = gates_bits v c.gates in
    let next_part = map (loaded v) c.flops in
    let item_part = items_bits s items in
    let bits = every_bit c items s v in
    let a : ℕ → Bool = λ n. get_or bits (n - 1) false in
    let all : Has a 1 bits =
    has_from a 1 bits (λ i lt. let e : (1 + i) - 1 ≡ i = omega arith in ap (λ k. get_or bits k false) e) in
    let on : OnNets a v c.nets =
    λ n lt.
    let e : (n + 1) - 1 ≡ n = omega arith in
    let within : n < length v = omega (arith, f.every_net) in
    ap (λ k. get_or bits k false) e ∙ get_or_append_left v (gate_part ++ (next_part ++ item_part)) false n within in
    let at_helpers : 1 + length v ≡ first_helper c = omega (arith, f.every_net) in
    let at_next : first_helper c + length gate_part ≡ first_next c = ap (λ n. first_helper c + n) (length-gates_bits v c.gates) in
    let at_items : first_next c + length next_part ≡ first_item c = ap (λ n. first_next c + n) (length-map c.flops (loaded v)) in
    let P : ℕ → Type 0 = λ n. Has a n (gate_part ++ (next_part ++ item_part)) in
    let Q : ℕ → Type 0 = λ n. Has a n (next_part ++ item_part) in
    let R : ℕ → Type 0 = λ n. Has a n item_part in
    let one = subst P at_helpers (has_right a 1 v (gate_part ++ (next_part ++ item_part)) all) in
    let two = subst Q at_next (has_right a (first_helper c) gate_part (next_part ++ item_part) one) in
    let three = subst R at_items (has_right a (first_next c) next_part item_part two) in
    let units = flat_map (unit_clauses c) (range_with_len 0 c.nets) in
    let nexts = next_clauses (first_next c) c.flops in
    let rest = items_clauses (state_vars c) (first_item c) items in
    let gates_met : meets_all a (gates_clauses (first_helper c) c.gates) ≡ true =
    gates-complete a v c.nets (first_helper c) c.gates on (gates_in_place c items p)
    (has_left a (first_helper c) gate_part (next_part ++ item_part) one) (recursion_from_All (IsSettled v) c.gates f.gates) in
    let say : (n : ℕ) → n < c.nets → UnitsSay c a n =
    λ n lt. (
      map_all (λ (k : Const). bit_at v k.net.0 ≡ k.value) (λ (k : Const). k.net.0 ≡ n → a (n + 1) ≡ k.value)
          (λ k h e. on n lt ∙ (ap (bit_at v) (sym e) ∙ h)) c.constants
          (recursion_from_All (λ (k : Const). bit_at v k.net.0 ≡ k.value) c.constants f.constants),
      λ z. on n lt ∙ f.zeros n lt z,
    ) in
    let units_met : meets_all a units ≡ true =
    flat-complete a (unit_clauses c) (range_with_len 0 c.nets)
    (range_from_below (λ n. meets_all a (unit_clauses c n) ≡ true) c.nets (λ n lt. unit-complete c a n (say n lt))) in
    let next_met : meets_all a nexts ≡ true =
    next-complete a v c.nets (first_next c) c.flops on (flops_in_place c items p) (has_left a (first_next c) next_part item_part two) in
    let on_state : OnState a c s =
    λ i lt.
    state_shown a v c.nets on c.flops (states_in_place c items p) i lt ∙ ap (λ bs. get_or bs i false) f.state in
    let items_met = items-complete a c s (first_item c) items on_state (items_in_place c items p) three in
    let whole : meets_all a (table_clauses c items) ≡ true =
    meets_all-append a (gates_clauses (first_helper c) c.gates) (units ++ (nexts ++ rest))
    ∙ (ap (λ b. b && meets_all a (units ++ (nexts ++ rest))) gates_met
    ∙ (meets_all-append a units (nexts ++ rest)
    ∙ (ap (λ b. b && meets_all a (nexts ++ rest)) units_met
    ∙ (meets_all-append a nexts rest ∙ (ap (λ b. b && meets_all a rest) next_met ∙ items_met.0))))) in
    let tidy : meets_all a (transition_clauses c items) ≡ true = meets-tidied a (table_clauses c items) ∙ whole in (
      a,
      All-from_recursion (Satisfies a) (transition_clauses c items) (each_met a (transition_clauses c items) tidy),
      record {
        valuation = sym (fill_by_all (λ n. a (n + 1)) v c.nets false f.every_net (λ k lt. sym (on k lt)));
        fits = f;
        next = next-sound a v c.nets (first_next c) c.flops on (flops_in_place c items p) next_met;
        signature = items_met.1;
      },
    )

pub equal_gates : (c : Circuit) (items : List (List ℕ)) → IsClosed c items → ClausesEqualGates c items
equal_gates c items p = record {
  extends = λ s x v f. fitting_extends c items s x v p f;
  fits = λ a m. meeting_fits c items a p m;
}

-- the nets and the flip-flops of a checked netlist and of what its signature is taken of are there
pub parts_placed : (r : Parts) → PartsArePlaced r → (items : List (List ℕ)) → All (λ (item : List ℕ). All (λ i. i < length r.flops) item) items →
    IsClosed (circuit_of r) items
parts_placed r p items placed = record {
  outs = λ k d lt. (p.gates.1 k d lt).0;
  ins = λ k d lt. (p.gates.1 k d lt).1.1;
  inputs = without_placed (clock_of r.flops) r.inputs (length r.names) p.inputs.1;
  flops = p.flops.1;
  constants = p.consts.1;
  items_placed = placed;
}
