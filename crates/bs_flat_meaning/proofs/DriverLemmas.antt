-- The drivers of the flat netlist are those of the design.
use Rattle.std.proofs.Common.{◌≡◌, ◌≢◌, ℕ, ◌<◌, Bool, true, false, not, ◌&&◌, List, [], ◌∷◌, ◌++◌, map, length, refl, subst, ap, sym, ◌∙◌, ◌⊎◌, inl, inr}
use Rattle.std.proofs.Common.{⊎_elim, nat_eq, Option, Some, None, eq-eqb}
use Rattle.std.specs.Prelude.{filter}
use Rattle.std.specs.List.{All, IsDistinct}
use Rattle.std.proofs.lemmas.Bool.{true≢false, and_parts, eqb-true}
use Rattle.std.proofs.lemmas.List.Elements.{recursion_from_All}
use Rattle.std.proofs.lemmas.Map.Keys.{IsDistinct-head}
use Rattle.bs_net.specs.declared.net.NetId.{NetId}
use Rattle.bs_net.specs.declared.net.Gate.{Gate}
use Rattle.bs_net.specs.declared.net.Flop.{Flop}
use Rattle.bs_net.specs.declared.net.Mode.{Mode}
use Rattle.bs_net.specs.declared.net.Mode.TheVariants.{Plain, Enable, Clear}
use Rattle.bs_net.specs.Parts.{IsFlopPlaced, IsModePlaced}
use Rattle.bs_net.specs.declared.net.Const.{Const}
use Rattle.bs_net.specs.Circuit.{number, drivers, state_nets}
use Rattle.bs_net.specs.Netlist.{circuit_of, clock_of}
use Rattle.bs_flat_meaning.specs.Design.{Design, Path, At, PathNet, net_on, own, paths, flops, gates, constants}
use Rattle.bs_flat_meaning.specs.Meaning.{IsLinked, root_of, is_same, driven, clock, clock_in, data_inputs, IsUndriven}
use Rattle.bs_flat_meaning.specs.Flat.{IsDesign, bit_of, is_named_so, is_root, first_constant, home, flat_number, flat_net, flat_gate, flat_flop, flat_const}
use Rattle.bs_flat_meaning.specs.Flat.{is_repeat, flat_parts}
use Rattle.bs_flat_meaning.proofs.MemberLemmas.{Member, all_member, member_filter, filtered, member_map, mapped, member_left, member_right, member_split, contains}
use Rattle.bs_flat_meaning.proofs.MemberLemmas.{filter_map_comm, filter_same}
use Rattle.bs_flat_meaning.proofs.RootLemmas.{same_from, same_to, module_at_is, Valid, on_of, root_is, root_bare, linked_trans, linked_sym, top_is_path}
use Rattle.bs_flat_meaning.proofs.HomeLemmas.{first_is, home_some, HomeCases, HomeCases.{at_root, at_constant}, home_cases, root_constant, same_home, same_number}
use Rattle.bs_flat_meaning.proofs.HomeLemmas.{root_number, constant_at, constant_there, constant_known}

-- the net of an enable or of a clear is a net of the design
abbrev pub IsModeValid : Design → Path → Mode → Type 0
IsModeValid d p Plain = Unit {0}
IsModeValid d p (Enable e) = Valid d (net_on p e)
IsModeValid d p (Clear r) = Valid d (net_on p r)

mode_valid : (d : Design) (p : Path) (m : Mode) → Member p (paths d) → IsModePlaced (length (own d p).names) m → IsModeValid d p m
mode_valid d p Plain mp w = tt
mode_valid d p (Enable e) mp w = (mp, (recursion_from_All (λ (n : NetId). n.0 < length (own d p).names) (e ∷ []) w).0)
mode_valid d p (Clear r) mp w = (mp, (recursion_from_All (λ (n : NetId). n.0 < length (own d p).names) (r ∷ []) w).0)

module _ (d : Design) (h : IsDesign d) where
  -- ---- the nets of parts are nets of the design

  pub input_valid : (n : NetId) → Member n (own d []).inputs → Valid d (net_on [] n)
  input_valid n m = (
    top_is_path d,
    all_member (λ (k : NetId). k.0 < length (own d []).names) (own d []).inputs n
        (recursion_from_All (λ (k : NetId). k.0 < length (own d []).names) _ (module_at_is d h []).nets.inputs) m,
  )

  pub flop_valid : (f : At Flop) → Member f (flops d) →
      Valid d (net_on f.path f.it.q) × Valid d (net_on f.path f.it.d) × Valid d (net_on f.path f.it.ck) × IsModeValid d f.path f.it.mode
  flop_valid f m =
      let o = on_of d (λ p. (own d p).flops) f m in
      let count = length (own d f.path).names in
      let P : Flop → Type 0 = IsFlopPlaced count in
      let w : P f.it = all_member P (own d f.path).flops f.it (recursion_from_All P _ (module_at_is d h f.path).nets.flops) o.1 in
      ((o.0, w.0), (o.0, w.1), (o.0, w.2), mode_valid d f.path f.it.mode o.0 w.3)

  pub const_valid : (k : At Const) → Member k (constants d) → Valid d (net_on k.path k.it.net)
  const_valid k m =
      let o = on_of d (λ p. (own d p).consts) k m in
      let P : Const → Type 0 = λ c. c.net.0 < length (own d k.path).names in
      (o.0, all_member P (own d k.path).consts k.it (recursion_from_All P _ (module_at_is d h k.path).nets.consts) o.1)

  pub gate_valid : (g : At Gate) → Member g (gates d) → Valid d (net_on g.path g.it.out) × ((n : NetId) → Member n g.it.ins → Valid d (net_on g.path n))
  gate_valid g m =
      let o = on_of d (λ p. (own d p).gates) g m in
      let count = length (own d g.path).names in
      let P : Gate → Type 0 = λ k. (k.out.0 < count) × All (λ (n : NetId). n.0 < count) k.ins in
      let w : P g.it = all_member P (own d g.path).gates g.it (recursion_from_All P _ (module_at_is d h g.path).nets.gates) o.1 in
      let Q : NetId → Type 0 = λ n. n.0 < count in
      ((o.0, w.0), λ n mn. (o.0, all_member Q g.it.ins n (recursion_from_All Q _ w.1) mn))

  -- ---- the one constant of a bit

  abbrev pub kept_constants : List (At Const)
  kept_constants = filter (λ k. not (is_repeat d k)) (constants d)

  -- the kept constant that stands for a constant
  pub record IsKept (k : At Const) : Type 0 where
    pub constant : At Const
    pub there : Member constant kept_constants
    pub number : flat_number d (net_on constant.path constant.it.net) ≡ flat_number d (net_on k.path k.it.net)
    pub value : constant.it.value ≡ k.it.value

  pub kept : (k : At Const) → Member k (constants d) → IsKept k
  kept k m = by (is_repeat d k) refl
    where
      a : PathNet
      a = net_on k.path k.it.net

      first : is_root d a ≡ true → is_named_so (own d k.path) k.it ≡ true → IsKept k
      first r named =
          let b = k.it.value in
          let bare : root_of d a ≡ a = root_bare d h a r in
          let up : bit_of d (root_of d a) ≡ Some b = ap (bit_of d) bare ∙ constant_known d h k m named in
          let f = first_is d h (root_of d a) b (root_constant d h a b (const_valid k m) up) in
          let s = first_constant d b in
          let there = constant_there d h s b f.0 f.2 in
          let at_home : home d s ≡ s = home_some d h s b (ap (bit_of d) (root_bare d h s f.1) ∙ f.2) in
          let once : is_repeat d (constant_at d h s b) ≡ false =
          ap (λ t. is_root d s && is_named_so (own d s.path) (constant_at d h s b).it && not t) (same_to (home d s) s at_home)
          ∙ last (is_root d s) (is_named_so (own d s.path) (constant_at d h s b).it) in
          record {
            constant = constant_at d h s b;
            there = member_filter (λ j. not (is_repeat d j)) (constant_at d h s b) (constants d) there (ap not once);
            number = same_number d h s a (at_home ∙ sym (home_some d h a b up));
            value = refl;
          }
        where
          last : (x y : Bool) → (x && y && not true) ≡ false
          last true true = refl
          last true false = refl
          last false y = refl

      by : (t : Bool) → is_repeat d k ≡ t → IsKept k
      by false e = record { constant = k; there = member_filter (λ j. not (is_repeat d j)) k (constants d) m (ap not e); number = refl; value = refl }
      by true e =
          let parts = and_parts (is_root d a && is_named_so (own d k.path) k.it) (not (is_same (home d a) a)) e in
          let both = and_parts (is_root d a) (is_named_so (own d k.path) k.it) parts.0 in
          first both.0 both.1

  -- ---- the clock

  abbrev flat_clock : ℕ
  flat_clock = (clock_of (flat_parts d).flops).0

  clock_from : (fs : List (At Flop)) → map (flat_flop d) fs ≢ [] → (clock_of (map (flat_flop d) fs)).0 ≡ flat_number d (clock_in fs)
  clock_from [] ne = absurd (ne refl)
  clock_from (f ∷ fs) ne = refl

  pub clock_is : (flat_parts d).flops ≢ [] → (clock_of (flat_parts d).flops).0 ≡ flat_number d (clock d)
  unfolding flat_parts
  clock_is ne = clock_from (flops d) ne

  clock_valid_from : (fs : List (At Flop)) → ((f : At Flop) → Member f fs → Valid d (net_on f.path f.it.ck)) → map (flat_flop d) fs ≢ [] → Valid d (clock_in fs)
  clock_valid_from [] v ne = absurd (ne refl)
  clock_valid_from (f ∷ fs) v ne = v f (inl refl)

  pub clock_valid : (flat_parts d).flops ≢ [] → Valid d (clock d)
  unfolding flat_parts
  clock_valid ne = clock_valid_from (flops d) (λ f m. (flop_valid f m).2) ne

  -- ---- drivers

  -- a driver of the flat netlist is one of the design
  pub driver_from : (k : ℕ) → Member k (drivers (circuit_of (flat_parts d))) → (b : PathNet) × Member b (driven d) × Valid d b × (flat_number d b ≡ k)
  unfolding flat_parts
  driver_from k m =
      let ins = map (net_on []) (own d []).inputs in
      let qs = map (λ (f : At Flop). net_on f.path f.it.q) (flops d) in
      let ks = map (λ (c : At Const). net_on c.path c.it.net) (constants d) in
      let gs = map (λ (g : At Gate). net_on g.path g.it.out) (gates d) in
      let c = circuit_of (flat_parts d) in
      ⊎_elim
      (λ (i : Member k (map number c.inputs)).
      let a = mapped number k c.inputs i in
      let b = filtered (λ (n : NetId). not (nat_eq n.0 flat_clock)) a.0 (flat_parts d).inputs a.1 in
      let e = mapped (flat_net d []) a.0 (own d []).inputs b.0 in
      (net_on [] e.0, member_left _ ins (qs ++ (ks ++ gs)) (member_map (net_on []) e.0 _ e.1), input_valid e.0 e.1, sym (a.2 ∙ ap number e.2)))
      (λ (r : Member k (map number (state_nets c) ++ (map (λ (c' : Const). c'.net.0) c.constants ++ map (λ (g : Gate). g.out.0) c.gates))).
      ⊎_elim
      (λ (q : Member k (map number (state_nets c))).
      let a = mapped number k (state_nets c) q in
      let b = mapped (λ (f : Flop). f.q) a.0 c.flops a.1 in
      let e = mapped (flat_flop d) b.0 (flops d) b.1 in
      let same : a.0 ≡ flat_net d e.0.path e.0.it.q = b.2 ∙ ap (λ (f : Flop). f.q) e.2 in (
        net_on e.0.path e.0.it.q,
        member_right _ ins (qs ++ (ks ++ gs))
            (member_left _ qs (ks ++ gs) (member_map (λ (f : At Flop). net_on f.path f.it.q) e.0 _ e.1)),
        (flop_valid e.0 e.1).0,
        sym (a.2 ∙ ap number same),
      ))
      (λ (t : Member k (map (λ (c' : Const). c'.net.0) c.constants ++ map (λ (g : Gate). g.out.0) c.gates)).
      ⊎_elim
      (λ (w : Member k (map (λ (c' : Const). c'.net.0) c.constants)).
      let a = mapped (λ (c' : Const). c'.net.0) k c.constants w in
      let e = mapped (flat_const d) a.0 kept_constants a.1 in
      let there = filtered (λ (j : At Const). not (is_repeat d j)) e.0 (constants d) e.1 in (
        net_on e.0.path e.0.it.net,
        member_right _ ins (qs ++ (ks ++ gs))
            (member_right _ qs (ks ++ gs) (member_left _ ks gs
            (member_map (λ (j : At Const). net_on j.path j.it.net) e.0 _ there.0))),
        const_valid e.0 there.0,
        sym (a.2 ∙ ap (λ (c' : Const). c'.net.0) e.2),
      ))
      (λ (w : Member k (map (λ (g : Gate). g.out.0) c.gates)).
      let a = mapped (λ (g : Gate). g.out.0) k c.gates w in
      let e = mapped (flat_gate d) a.0 (gates d) a.1 in (
        net_on e.0.path e.0.it.out,
        member_right _ ins (qs ++ (ks ++ gs))
            (member_right _ qs (ks ++ gs) (member_right _ ks gs (member_map (λ (g : At Gate). net_on g.path g.it.out) e.0 _ e.1))),
        (gate_valid e.0 e.1).0,
        sym (a.2 ∙ ap (λ (g : Gate). g.out.0) e.2),
      ))
      (member_split k (map (λ (c' : Const). c'.net.0) c.constants) _ t))
      (member_split k (map number (state_nets c)) _ r))
      (member_split k (map number c.inputs) _ m)

  -- a constant of the design drives a flat net
  pub constant_to : (k : At Const) → Member k (constants d) → Member (flat_number d (net_on k.path k.it.net)) (drivers (circuit_of (flat_parts d)))
  unfolding flat_parts
  constant_to k m =
      let c = circuit_of (flat_parts d) in
      let w = kept k m in
      let one : Member (flat_number d (net_on w.constant.path w.constant.it.net)) (map (λ (c' : Const). c'.net.0) c.constants) =
      member_map (λ (c' : Const). c'.net.0) (flat_const d w.constant) c.constants (member_map (flat_const d) w.constant kept_constants w.there) in
      let two : Member (flat_number d (net_on k.path k.it.net)) (map (λ (c' : Const). c'.net.0) c.constants) =
      subst (λ (n : ℕ). Member n (map (λ (c' : Const). c'.net.0) c.constants)) w.number one in
      member_right _ (map number c.inputs) _ (member_right _ (map number (state_nets c)) _ (member_left _ (map (λ (c' : Const). c'.net.0) c.constants) _ two))

  -- and so does every driver of the design, but for the clock's port
  pub driver_to : (b : PathNet) → Member b (driven d) → (flat_number d b ≡ flat_clock) ⊎ Member (flat_number d b) (drivers (circuit_of (flat_parts d)))
  unfolding flat_parts
  driver_to b m =
      let ins = map (net_on []) (own d []).inputs in
      let qs = map (λ (f : At Flop). net_on f.path f.it.q) (flops d) in
      let ks = map (λ (c : At Const). net_on c.path c.it.net) (constants d) in
      let gs = map (λ (g : At Gate). net_on g.path g.it.out) (gates d) in
      let c = circuit_of (flat_parts d) in
      let Driven : PathNet → Type 0 = λ s. (flat_number d s ≡ flat_clock) ⊎ Member (flat_number d s) (drivers c) in
      ⊎_elim
      (λ (i : Member b ins).
      let a = mapped (net_on []) b (own d []).inputs i in
      subst Driven (sym a.2) (port a.0 a.1 (nat_eq (flat_number d (net_on [] a.0)) flat_clock) refl))
      (λ (r : Member b (qs ++ (ks ++ gs))).
      ⊎_elim
      (λ (q : Member b qs).
      let a = mapped (λ (f : At Flop). net_on f.path f.it.q) b (flops d) q in
      subst Driven (sym a.2)
      (inr (member_right _ (map number c.inputs) _ (member_left _ (map number (state_nets c)) _
      (member_map number (flat_net d a.0.path a.0.it.q) (state_nets c)
      (member_map (λ (f : Flop). f.q) (flat_flop d a.0) c.flops (member_map (flat_flop d) a.0 (flops d) a.1)))))))
      (λ (t : Member b (ks ++ gs)).
      ⊎_elim
      (λ (w : Member b ks).
      let a = mapped (λ (k : At Const). net_on k.path k.it.net) b (constants d) w in
      subst Driven (sym a.2) (inr (constant_to a.0 a.1)))
      (λ (w : Member b gs).
      let a = mapped (λ (g : At Gate). net_on g.path g.it.out) b (gates d) w in
      subst Driven (sym a.2)
      (inr (member_right _ (map number c.inputs) _ (member_right _ (map number (state_nets c)) _ (member_right _ (map (λ (c' : Const). c'.net.0) c.constants) _
      (member_map (λ (g : Gate). g.out.0) (flat_gate d a.0) c.gates (member_map (flat_gate d) a.0 (gates d) a.1)))))))
      (member_split b ks gs t))
      (member_split b qs (ks ++ gs) r))
      (member_split b ins (qs ++ (ks ++ gs)) m)
    where
      port : (n : NetId) → Member n (own d []).inputs → (t : Bool) → nat_eq (flat_number d (net_on [] n)) flat_clock ≡ t →
          (flat_number d (net_on [] n) ≡ flat_clock) ⊎ Member (flat_number d (net_on [] n)) (drivers (circuit_of (flat_parts d)))
      port n mn true e = inl (eqb-true _ _ e)
      port n mn false e =
          inr (member_left _ (map number (circuit_of (flat_parts d)).inputs) _
          (member_map number (flat_net d [] n) (circuit_of (flat_parts d)).inputs
          (member_filter (λ (k : NetId). not (nat_eq k.0 flat_clock)) (flat_net d [] n) (flat_parts d).inputs
          (member_map (flat_net d []) n (own d []).inputs mn) (ap not e))))

  -- ---- undriven nets

  -- where a net is undriven, no driver of the design has its number
  pub undriven_apart : (a b : PathNet) → Valid d a → Valid d b → IsUndriven d a → Member b (driven d) → flat_number d a ≡ flat_number d b → ⊥
  undriven_apart a b va vb u m e = by (home_cases d h a) (home_cases d h b)
    where
      same : home d a ≡ home d b
      same = same_home d h a b va vb e

      ra : IsLinked d a (root_of d a)
      ra = (root_is d h a va).links

      rb : IsLinked d b (root_of d b)
      rb = (root_is d h b vb).links

      by : HomeCases d h a → HomeCases d h b → ⊥
      by (at_constant c q s) other =
          let r = root_constant d h a c va q in
          let k = constant_there d h (root_of d a) c r.0 r.2 in
          u (root_of d a) ra
          (contains (driven d) (root_of d a)
          (member_right _ (map (net_on []) (own d []).inputs) _ (member_right _ (map (λ (f : At Flop). net_on f.path f.it.q) (flops d)) _
          (member_left _ (map (λ (k' : At Const). net_on k'.path k'.it.net) (constants d)) _
          (member_map (λ (k' : At Const). net_on k'.path k'.it.net) (constant_at d h (root_of d a) c) (constants d) k)))))
      by (at_root q s) (at_root q' s') =
          let roots : root_of d b ≡ root_of d a = sym s' ∙ (sym same ∙ s) in
          let back : IsLinked d (root_of d a) b = subst (λ (r : PathNet). IsLinked d r b) roots (linked_sym d h b (root_of d b) rb) in
          u b (linked_trans d h a (root_of d a) b ra back) (contains (driven d) b m)
      by (at_root q s) (at_constant c q' s') =
          let f = first_is d h (root_of d b) c (root_constant d h b c vb q') in
          let bit : bit_of d (root_of d a) ≡ Some c = ap (bit_of d) (sym s ∙ (same ∙ s')) ∙ f.2 in
          absurd (apart (bit_of d (root_of d a)) q bit)
        where
          apart : (o : Option Bool) → o ≡ None → o ≡ Some c → ⊥
          apart None x y = cc
          apart (Some z) x y = cc

  -- ---- the data inputs

  module _ (ne : (flat_parts d).flops ≢ []) (apart : IsDistinct nat_eq ((clock_of (flat_parts d).flops).0 ∷ drivers (circuit_of (flat_parts d)))) where
    -- the clock is no constant
    clock_no_constant : (r : PathNet) (b : Bool) → Valid d r → bit_of d r ≡ Some b → flat_number d r ≡ flat_number d (clock d) → ⊥
    clock_no_constant r b v e same =
        let m = constant_to (constant_at d h r b) (constant_there d h r b v e) in
        let no : nat_eq flat_clock (flat_number d r) ≡ false =
        all_member (λ y. nat_eq flat_clock y ≡ false) (drivers (circuit_of (flat_parts d))) (flat_number d r) (IsDistinct-head nat_eq flat_clock _ apart) m in
        true≢false (sym (eq-eqb flat_clock (flat_number d r) (clock_is ne ∙ sym same)) ∙ no)

    root_known : (a : PathNet) → Valid d a → flat_number d (root_of d a) ≡ flat_number d a
    root_known a v = root_number d h (root_of d a) a (root_bare d h (root_of d a) (root_is d h a v).bare)

    port_is : (n : NetId) → Member n (own d []).inputs → nat_eq (flat_number d (net_on [] n)) flat_clock ≡ is_same (net_on [] n) (root_of d (clock d))
    port_is n m = by (is_same (net_on [] n) (root_of d (clock d))) refl (nat_eq (flat_number d (net_on [] n)) flat_clock) refl
      where
        a : PathNet
        a = net_on [] n

        va : Valid d a
        va = input_valid n m

        vc : Valid d (clock d)
        vc = clock_valid ne

        own_root : root_of d a ≡ a
        own_root = root_bare d h a refl

        homes : flat_number d a ≡ flat_number d (clock d) → HomeCases d h a → HomeCases d h (clock d) → a ≡ root_of d (clock d)
        homes e (at_root q s) (at_root q' s') = sym own_root ∙ (sym s ∙ (same_home d h a (clock d) va vc e ∙ s'))
        homes e (at_constant b q s) other =
            let r = root_constant d h a b va q in
            absurd (clock_no_constant (root_of d a) b r.0 r.2 (root_known a va ∙ e))
        homes e (at_root q s) (at_constant b q' s') =
            let r = root_constant d h (clock d) b vc q' in
            absurd (clock_no_constant (root_of d (clock d)) b r.0 r.2 (root_known (clock d) vc))

        by : (t : Bool) → is_same a (root_of d (clock d)) ≡ t → (u : Bool) → nat_eq (flat_number d a) flat_clock ≡ u → u ≡ t
        by true e true k = refl
        by false e false k = refl
        by true e false k =
            let same : flat_number d a ≡ flat_clock =
            ap (flat_number d) (same_from a (root_of d (clock d)) e) ∙ (root_known (clock d) vc ∙ sym (clock_is ne)) in
            absurd (true≢false (sym (eq-eqb _ _ same) ∙ k))
        by false e true k =
            let same = homes (eqb-true _ _ k ∙ clock_is ne) (home_cases d h a) (home_cases d h (clock d)) in
            absurd (true≢false (sym (same_to a (root_of d (clock d)) same) ∙ e))

    pub inputs_are : (circuit_of (flat_parts d)).inputs ≡ map (flat_net d []) (data_inputs d)
    unfolding flat_parts
    inputs_are =
        filter_map_comm (flat_net d []) (λ (k : NetId). not (nat_eq k.0 flat_clock)) (own d []).inputs
        ∙ ap (map (flat_net d []))
        (filter_same (λ (n : NetId). not (nat_eq (flat_number d (net_on [] n)) flat_clock))
        (λ (n : NetId). not (is_same (net_on [] n) (root_of d (clock d)))) (own d []).inputs (λ n m. ap not (port_is n m)))
