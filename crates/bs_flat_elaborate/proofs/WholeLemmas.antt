-- The flat parts of a design of blocks keep what the parts of a netlist keep.
use Rattle.std.proofs.Common.{◌≡◌, ℕ, ◌<◌, ◌≤◌, List, [], ◌∷◌, map, length, get_or, arith, subst, sym, ⊎_elim}
use Rattle.std.specs.Prelude.{filter, not, IsTrue}
use Rattle.std.specs.List.{All}
use Rattle.std.proofs.lemmas.Bool.{cases_lt}
use Rattle.std.proofs.lemmas.List.{length-map, get_or-map, get_or_past}
use Rattle.std.proofs.lemmas.List.Elements.{All-from_recursion, recursion_from_All, All-nil}
use Rattle.bs_net.specs.declared.net.NetId.{NetId}
use Rattle.bs_net.specs.declared.net.Gate.{Gate}
use Rattle.bs_net.specs.declared.net.Flop.{Flop}
use Rattle.bs_net.specs.declared.net.Mode.{Mode}
use Rattle.bs_net.specs.declared.net.Mode.TheVariants.{Plain, Enable, Clear}
use Rattle.bs_net.specs.declared.net.Const.{Const}
use Rattle.bs_net.specs.declared.limits.TheConstants.{MAX_NETS}
use Rattle.bs_net.specs.Parts.{IsModePlaced, IsFlopPlaced}
use Rattle.bs_net.specs.Gate.{takes}
use Rattle.bs_flat_meaning.specs.Design.{Design, Module, Path, At, PathNet, net_on, no_module, instance_in, module_in, module_at, own, paths, gates, flops, constants}
use Rattle.bs_flat_meaning.specs.Flat.{IsDesign, flat_nets, flat_net, flat_gate, flat_mode, flat_flop, flat_const, flat_key, is_repeat, flat_parts}
use Rattle.bs_flat_meaning.specs.Paths.{ArePaths}
use Rattle.bs_flat_meaning.specs.declared.paths.Node.{Node}
use Rattle.bs_flat_meaning.proofs.MemberLemmas.{Member, all_member, all_of, mapped, filtered}
use Rattle.bs_flat_meaning.proofs.RootLemmas.{Valid, module_at_is, top_is_path, on_of}
use Rattle.bs_flat_meaning.proofs.HomeLemmas.{number_within}
use Rattle.bs_flat_meaning.proofs.DriverLemmas.{IsModeValid, input_valid, flop_valid, const_valid, gate_valid}
use Rattle.bs_flat_nets.specs.Blocks.{design_of, module_of}
use Rattle.bs_flat_nets.specs.declared.blocks.FlatModule.{FlatModule}
use Rattle.bs_flat_elaborate.specs.Naming.{keys_of}
use Rattle.bs_flat_elaborate.specs.Whole.{IsGateNamed, AreNamed}

-- ---- the top's path

member_longer : (ps : List Path) (p : Path) → Member p ps → 0 < length ps
member_longer [] p m = absurd m
member_longer (q ∷ ps) p m = omega arith

pub nodes_there : (d : Design) (nodes : List Node) → ArePaths d nodes (paths d) → 0 < length nodes
nodes_there d nodes a = let some = member_longer (paths d) [] (top_is_path d) in omega (arith, some, a.count)

-- ---- gates take as many inputs as their kinds

abbrev Takes : Gate → Type 0
Takes g = IsTrue (takes g.kind (length g.ins))

takes_in : (blocks : List FlatModule) (top n : ℕ) → All (λ (b : FlatModule). All Takes b.gates) blocks → All Takes (module_in (design_of blocks top) n).own.gates
takes_in blocks top n h =
    ⊎_elim
    (λ (lt : n < length blocks). there blocks n h lt)
    (λ (ge : length blocks ≤ n).
    subst (λ (m : Module). All Takes m.own.gates)
    (sym (get_or_past (map module_of blocks) n no_module (omega (arith, ge, length-map blocks module_of))))
    (All-nil Takes))
    (cases_lt n (length blocks))
  where
    some : (bs : List FlatModule) (k : ℕ) → k < length bs → FlatModule
    some [] k lt = absurd (omega (arith, lt))
    some (b ∷ bs) k lt = b

    there : (bs : List FlatModule) (k : ℕ) → All (λ (b : FlatModule). All Takes b.gates) bs → k < length bs → All Takes (get_or (map module_of bs) k no_module).own.gates
    there bs k a lt =
        let b = some bs k lt in
        subst (λ (m : Module). All Takes m.own.gates) (sym (get_or-map module_of bs k b no_module lt)) (a k b lt)

takes_at : (blocks : List FlatModule) (top : ℕ) (p : Path) → All (λ (b : FlatModule). All Takes b.gates) blocks → All Takes (own (design_of blocks top) p).gates
unfolding module_at
takes_at blocks top [] h = takes_in blocks top top h
takes_at blocks top (i ∷ p) h = takes_in blocks top (instance_in (module_at (design_of blocks top) p) i).of h

-- ---- nets have names

module _ (d : Design) (h : IsDesign d) where
  abbrev count : ℕ
  count = length (flat_nets d)

  low : (a : PathNet) → Valid d a → (flat_net d a.path (record { 0 = a.it })).0 < count
  low a v = number_within d h a v

  output_valid : (n : NetId) → Member n (own d []).outputs → Valid d (net_on [] n)
  output_valid n m = (
    top_is_path d,
    all_member (λ (k : NetId). k.0 < length (own d []).names) (own d []).outputs n
        (recursion_from_All (λ (k : NetId). k.0 < length (own d []).names) _ (module_at_is d h []).nets.outputs) m,
  )

  nets_low : (p : Path) (nets : List NetId) → ((n : NetId) → Member n nets → Valid d (net_on p n)) → All (λ (n : NetId). n.0 < count) (map (flat_net d p) nets)
  nets_low p nets v =
      All-from_recursion (λ (n : NetId). n.0 < count) (map (flat_net d p) nets)
      (all_of (λ (n : NetId). n.0 < count) (map (flat_net d p) nets)
      (λ n m.
      let k = mapped (flat_net d p) n nets m in
      subst (λ (u : NetId). u.0 < count) (sym k.2) (number_within d h (net_on p k.0) (v k.0 k.1))))

  mode_low : (p : Path) (m : Mode) → IsModeValid d p m → IsModePlaced count (flat_mode d p m)
  mode_low p Plain v = All-nil _
  mode_low p (Enable e) v = nets_low p (e ∷ []) (λ n m. ⊎_elim (λ (s : n ≡ e). subst (λ (u : NetId). Valid d (net_on p u)) (sym s) v) (λ (x : ⊥). absurd x) m)
  mode_low p (Clear r) v = nets_low p (r ∷ []) (λ n m. ⊎_elim (λ (s : n ≡ r). subst (λ (u : NetId). Valid d (net_on p u)) (sym s) v) (λ (x : ⊥). absurd x) m)

  flops_low : All (IsFlopPlaced count) (map (flat_flop d) (flops d))
  flops_low =
      All-from_recursion (IsFlopPlaced count) (map (flat_flop d) (flops d))
      (all_of (IsFlopPlaced count) (map (flat_flop d) (flops d))
      (λ f m.
      let k = mapped (flat_flop d) f (flops d) m in
      let v = flop_valid d h k.0 k.1 in
      let q = k.0.path in
      subst (IsFlopPlaced count) (sym k.2)
      (number_within d h (net_on q k.0.it.q) v.0, number_within d h (net_on q k.0.it.d) v.1, number_within d h (net_on q k.0.it.ck) v.2, mode_low q k.0.it.mode v.3)))

  consts_low : All (λ (k : Const). k.net.0 < count) (map (flat_const d) (filter (λ k. not (is_repeat d k)) (constants d)))
  consts_low =
      let kept = filter (λ (k : At Const). not (is_repeat d k)) (constants d) in
      All-from_recursion (λ (k : Const). k.net.0 < count) (map (flat_const d) kept)
      (all_of (λ (k : Const). k.net.0 < count) (map (flat_const d) kept)
      (λ f m.
      let k = mapped (flat_const d) f kept m in
      let there = (filtered (λ (u : At Const). not (is_repeat d u)) k.0 (constants d) k.1).0 in
      subst (λ (u : Const). u.net.0 < count) (sym k.2) (number_within d h (net_on k.0.path k.0.it.net) (const_valid d h k.0 there))))

  gates_low : ((p : Path) → All Takes (own d p).gates) → All (IsGateNamed count) (map (flat_gate d) (gates d))
  gates_low takes_all =
      All-from_recursion (IsGateNamed count) (map (flat_gate d) (gates d))
      (all_of (IsGateNamed count) (map (flat_gate d) (gates d))
      (λ f m.
      let k = mapped (flat_gate d) f (gates d) m in
      let g = k.0 in
      let v = gate_valid d h g k.1 in
      let o = on_of d (λ p. (own d p).gates) g k.1 in
      let right : Takes g.it = all_member Takes (own d g.path).gates g.it (recursion_from_All Takes _ (takes_all g.path)) o.1 in
      let wide : length (map (flat_net d g.path) g.it.ins) ≡ length g.it.ins = length-map g.it.ins (flat_net d g.path) in
      subst (IsGateNamed count) (sym k.2)
      (number_within d h (net_on g.path g.it.out) v.0, nets_low g.path g.it.ins v.1, subst (λ (n : ℕ). IsTrue (takes g.it.kind n)) (sym wide) right)))

  pub named_all : ((p : Path) → All Takes (own d p).gates) → length (keys_of d) ≤ MAX_NETS → AreNamed (flat_parts d)
  unfolding flat_parts
  named_all takes_all few =
      let wide : count ≡ length (map (flat_key d) (flat_nets d)) = sym (length-map (flat_nets d) (flat_key d)) in
      record {
        few = few;
        inputs = subst (λ (n : ℕ). All (λ (k : NetId). k.0 < n) (map (flat_net d []) (own d []).inputs)) wide (nets_low [] (own d []).inputs (input_valid d h));
        outputs = subst (λ (n : ℕ). All (λ (k : NetId). k.0 < n) (map (flat_net d []) (own d []).outputs)) wide (nets_low [] (own d []).outputs output_valid);
        consts =
            subst (λ (n : ℕ). All (λ (k : Const). k.net.0 < n) (map (flat_const d) (filter (λ k. not (is_repeat d k)) (constants d)))) wide consts_low;
        gates = subst (λ (n : ℕ). All (IsGateNamed n) (map (flat_gate d) (gates d))) wide (gates_low takes_all);
        flops = subst (λ (n : ℕ). All (IsFlopPlaced n) (map (flat_flop d) (flops d))) wide flops_low;
      }

-- the flat parts of a design of blocks
pub flat_named : (blocks : List FlatModule) (top : ℕ) → IsDesign (design_of blocks top) → All (λ (b : FlatModule). All Takes b.gates) blocks →
    length (keys_of (design_of blocks top)) ≤ MAX_NETS → AreNamed (flat_parts (design_of blocks top))
flat_named blocks top h takes_all few = named_all (design_of blocks top) h (λ p. takes_at blocks top p takes_all) few

-- parts that are the flat parts, one by one
pub whole_is : (d : Design) (names : List (List ℕ)) (inputs outputs : List NetId) (consts : List Const) (gs : List Gate) (fs : List Flop) → names ≡ keys_of d →
    inputs ≡ map (flat_net d []) (own d []).inputs → outputs ≡ map (flat_net d []) (own d []).outputs → consts ≡ (flat_parts d).consts →
    gs ≡ map (flat_gate d) (gates d) → fs ≡ map (flat_flop d) (flops d) →
    record { names = names; inputs = inputs; outputs = outputs; consts = consts; gates = gs; flops = fs } ≡ flat_parts d
unfolding flat_parts
whole_is d names inputs outputs consts gs fs en ei eo ec eg ef =
    λ i. record { names = en i; inputs = ei i; outputs = eo i; consts = ec i; gates = eg i; flops = ef i }
