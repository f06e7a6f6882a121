-- The flat parts keep the meaning of the design.
use Rattle.std.proofs.Common.{◌≡◌, ◌≢◌, ℕ, ◌<◌, Bool, true, false, not, cond, ◌||◌, List, [], map, length, get_or, refl, subst, ap, sym, ◌∙◌, ⊎_elim}
use Rattle.std.proofs.Common.{nat_eq, eq-eqb, ne_eqb, zero-add}
use Rattle.std.specs.List.{AllByRecursion, range_with_len}
use Rattle.std.proofs.lemmas.Bool.{true≢false, eqb-true, cases_eq}
use Rattle.std.proofs.lemmas.List.{length-map, get_or-map}
use Rattle.std.proofs.lemmas.List.FromFn.{length-range_with_len, get_or-range_with_len}
use Rattle.std.proofs.lemmas.List.Elements.{All-from_recursion, recursion_from_All}
use Rattle.bs_net.specs.declared.net.NetId.{NetId}
use Rattle.bs_net.specs.declared.net.Flop.{Flop}
use Rattle.bs_net.specs.declared.net.Mode.{Mode}
use Rattle.bs_net.specs.declared.net.Mode.TheVariants.{Plain, Enable, Clear}
use Rattle.bs_net.specs.declared.net.Const.{Const}
use Rattle.bs_net.specs.Parts.{PartsArePlaced}
use Rattle.bs_net.specs.Check.{Passes}
use Rattle.bs_net.specs.Order.{IsChecked}
use Rattle.bs_net.specs.Circuit.{Circuit, Fits, IsSettled, bit_at, shown, drivers, state_nets, is_zero_net, mode_loads, loaded, next_state, next}
use Rattle.bs_net.specs.Gate.{gate_value}
use Rattle.bs_net.specs.Netlist.{circuit_of}
use Rattle.bs_net.proofs.CallerLemmas.{passes_checked, exactly_one_fits, undriven_zero, zero_undriven, next_from_fits}
use Rattle.bs_flat_meaning.specs.Design.{Design, Path, At, PathNet, net_on, own, path_nets, flops, gates, constants, joins, outer, inner, Join}
use Rattle.bs_flat_meaning.specs.Meaning.{driven, clock, data_inputs, IsUndriven, Valuation, IsSettledAt, FitsDesign, mode_loads_on, loaded_on, loaded_by}
use Rattle.bs_flat_meaning.specs.Flat.{IsDesign, flat_nets, flat_number, flat_net, flat_gate, flat_mode, flat_flop, flat_const, flat_parts}
use Rattle.bs_flat_meaning.specs.Law.{FlatMeans, FlatKeepsMeaning}
use Rattle.bs_flat_meaning.proofs.MemberLemmas.{Member, all_member, all_of, filtered, member_map, mapped, map_twice, map_same, contained, member_at}
use Rattle.bs_flat_meaning.proofs.RootLemmas.{Valid, member_valid, valid_member, wire_root}
use Rattle.bs_flat_meaning.proofs.HomeLemmas.{number_within, number_home, root_number, linked_number, home_is, same_number, home_shown, same_shown}
use Rattle.bs_flat_meaning.proofs.DriverLemmas.{IsModeValid, input_valid, flop_valid, const_valid, gate_valid, kept, kept_constants, clock_is, clock_valid}
use Rattle.bs_flat_meaning.proofs.DriverLemmas.{driver_from, driver_to, undriven_apart, inputs_are}

module _ (d : Design) (h : IsDesign d) (placed : PartsArePlaced (flat_parts d)) (passes : Passes (flat_parts d)) where
  abbrev c : Circuit
  c = circuit_of (flat_parts d)

  checked : IsChecked c
  checked = passes_checked (flat_parts d) placed passes

  ne : (flat_parts d).flops ≢ []
  ne = passes.some_flop

  ports : c.inputs ≡ map (flat_net d []) (data_inputs d)
  ports = inputs_are d h ne checked.single_driver

  nets : c.nets ≡ length (flat_nets d)
  unfolding flat_parts
  nets = length-map (flat_nets d) _

  clock_number : c.clock.0 ≡ flat_number d (clock d)
  clock_number = clock_is d h ne

  data_valid : (n : NetId) → Member n (data_inputs d) → Valid d (net_on [] n)
  data_valid n m = input_valid d h n (filtered _ n (own d []).inputs m).0

  -- ---- what the flat nets show is a valuation of the design

  abbrev lifted : List Bool → Valuation
  lifted v a = bit_at v (flat_number d a)

  shown_ports : (v : List Bool) → shown v c.inputs ≡ map (λ n. lifted v (net_on [] n)) (data_inputs d)
  shown_ports v = ap (shown v) ports ∙ map_twice (flat_net d []) (λ (n : NetId). bit_at v n.0) (data_inputs d)

  shown_state : (v : List Bool) → shown v (state_nets c) ≡ map (λ (f : At Flop). lifted v (net_on f.path f.it.q)) (flops d)
  unfolding flat_parts
  shown_state v =
      ap (shown v) (map_twice (flat_flop d) (λ (f : Flop). f.q) (flops d))
      ∙ map_twice (λ (f : At Flop). flat_net d f.path f.it.q) (λ (n : NetId). bit_at v n.0) (flops d)

  mode_lifted : (v : List Bool) (p : Path) (m : Mode) (a b : Bool) → mode_loads_on p (lifted v) m a b ≡ mode_loads v (flat_mode d p m) a b
  mode_lifted v p Plain a b = refl
  mode_lifted v p (Enable e) a b = refl
  mode_lifted v p (Clear r) a b = refl

  next_lifted : (v : List Bool) → loaded_by d (lifted v) ≡ next_state c v
  unfolding flat_parts
  next_lifted v =
      map_same (loaded_on (lifted v)) (λ (f : At Flop). loaded v (flat_flop d f)) (flops d) (λ f m. mode_lifted v f.path f.it.mode _ _)
      ∙ sym (map_twice (flat_flop d) (loaded v) (flops d))

  -- the number of a net is a zero net's where the net is undriven
  zero_number : (a : PathNet) → Valid d a → IsUndriven d a → is_zero_net c (flat_number d a) ≡ true
  zero_number a va u =
      undriven_zero c (flat_number d a)
      (all_of (λ y. nat_eq (flat_number d a) y ≡ false) (drivers c)
      (λ y m.
      let b = driver_from d h y m in
      ne_eqb (flat_number d a) y (λ e. undriven_apart d h a b.0 va b.2 u b.1 (e ∙ sym b.3))))

  module _ (s x : List Bool) where
    lift_constants : (v : List Bool) → Fits c s x v → AllByRecursion (λ (k : At Const). lifted v (net_on k.path k.it.net) ≡ k.it.value) (constants d)
    unfolding flat_parts
    lift_constants v f =
        all_of (λ (k : At Const). lifted v (net_on k.path k.it.net) ≡ k.it.value) (constants d)
        (λ k m.
        let w = kept d h k m in
        let one = all_member (λ (k' : Const). bit_at v k'.net.0 ≡ k'.value) c.constants (flat_const d w.constant)
        (recursion_from_All (λ (k' : Const). bit_at v k'.net.0 ≡ k'.value) c.constants f.constants)
        (member_map (flat_const d) w.constant (kept_constants d h) w.there) in
        ap (bit_at v) (sym w.number) ∙ (one ∙ w.value))

    lift_gates : (v : List Bool) → Fits c s x v → AllByRecursion (IsSettledAt (lifted v)) (gates d)
    unfolding flat_parts
    lift_gates v f =
        all_of (IsSettledAt (lifted v)) (gates d)
        (λ g m.
        all_member (IsSettled v) c.gates (flat_gate d g) (recursion_from_All (IsSettled v) c.gates f.gates) (member_map (flat_gate d) g (gates d) m)
        ∙ ap (gate_value g.it.kind) (map_twice (flat_net d g.path) (λ (n : NetId). bit_at v n.0) g.it.ins))

    lift_zeros : (v : List Bool) → Fits c s x v → AllByRecursion (λ (a : PathNet). IsUndriven d a → lifted v a ≡ false) (path_nets d)
    lift_zeros v f =
        all_of (λ (a : PathNet). IsUndriven d a → lifted v a ≡ false) (path_nets d)
        (λ a m u.
        let va = member_valid d a m in
        f.zeros (flat_number d a) (subst (λ (n : ℕ). flat_number d a < n) (sym nets) (number_within d h a va)) (zero_number a va u))

    clock_shown : (v : List Bool) → Fits c s x v → lifted v (clock d) ≡ false
    clock_shown v f =
        let zero : is_zero_net c c.clock.0 ≡ true =
        ap (λ (b : Bool). b || not (Rattle.std.specs.List.list_any (λ (m : ℕ). nat_eq c.clock.0 m) (drivers c))) (eq-eqb c.clock.0 c.clock.0 refl) in
        ap (bit_at v) (sym clock_number) ∙ f.zeros c.clock.0 checked.clock_placed zero

    pub lift : (v : List Bool) → Fits c s x v → FitsDesign d s x (lifted v)
    lift v f =
        record {
          input = sym (shown_ports v) ∙ f.input;
          state = sym (shown_state v) ∙ f.state;
          constants = All-from_recursion _ (constants d) (lift_constants v f);
          gates = All-from_recursion (IsSettledAt (lifted v)) (gates d) (lift_gates v f);
          joins =
              All-from_recursion _ (joins d)
              (all_of (λ (j : At Join). lifted v (outer j) ≡ lifted v (inner j)) (joins d)
              (λ j m. ap (bit_at v) (root_number d h (outer j) (inner j) (sym (wire_root d h j m)))));
          clock = clock_shown v f;
          zeros = All-from_recursion _ (path_nets d) (lift_zeros v f);
        }

  -- ---- a valuation of the design shows bits on the flat nets

  abbrev no_net : PathNet
  no_net = record { path = []; it = 0 }

  -- the bit of the net that has a number first
  abbrev bit_for : Valuation → ℕ → Bool
  bit_for v k = let a = get_or (flat_nets d) k no_net in cond (nat_eq (flat_number d a) k) (v a) false

  abbrev lowered : Valuation → List Bool
  lowered v = map (bit_for v) (range_with_len 0 (length (flat_nets d)))

  lowered_at : (v : Valuation) (k : ℕ) → k < length (flat_nets d) → bit_at (lowered v) k ≡ bit_for v k
  lowered_at v k lt =
      let within : k < length (range_with_len 0 (length (flat_nets d))) = rw (length-range_with_len 0 (length (flat_nets d))) lt in
      get_or-map (bit_for v) (range_with_len 0 (length (flat_nets d))) k 0 false within
      ∙ ap (bit_for v) (get_or-range_with_len 0 (length (flat_nets d)) k 0 lt ∙ zero-add k)

  module _ (s x : List Bool) (v : Valuation) (f : FitsDesign d s x v) where
    wires : AllByRecursion (λ (j : At Join). v (outer j) ≡ v (inner j)) (joins d)
    wires = recursion_from_All (λ (j : At Join). v (outer j) ≡ v (inner j)) (joins d) f.joins

    values : AllByRecursion (λ (k : At Const). v (net_on k.path k.it.net) ≡ k.it.value) (constants d)
    values = recursion_from_All (λ (k : At Const). v (net_on k.path k.it.net) ≡ k.it.value) (constants d) f.constants

    pub shows : (a : PathNet) → Valid d a → bit_at (lowered v) (flat_number d a) ≡ v a
    shows a va =
        let k = flat_number d a in
        let first : PathNet = get_or (flat_nets d) k no_net in
        let at_home : first ≡ Rattle.bs_flat_meaning.specs.Flat.home d a = number_home d h a no_net va in
        let number : flat_number d first ≡ k = same_number d h first a (ap (Rattle.bs_flat_meaning.specs.Flat.home d) at_home ∙ (home_is d h a va).again) in
        lowered_at v k (number_within d h a va)
        ∙ (ap (λ (b : Bool). cond b (v first) false) (eq-eqb _ _ number)
        ∙ (ap v at_home ∙ sym (home_shown d h v wires values a va)))

    flat_member : (a : PathNet) → Member a (flat_nets d) → Member a (path_nets d)
    unfolding flat_nets
    flat_member a m = (filtered _ a (path_nets d) m).0

    low_zeros : (k : ℕ) → k < c.nets → is_zero_net c k ≡ true → bit_at (lowered v) k ≡ false
    low_zeros k lt z = lowered_at v k within ∙ by (nat_eq (flat_number d first) k) refl
      where
        within : k < length (flat_nets d)
        within = subst (λ (n : ℕ). k < n) nets lt

        first : PathNet
        first = get_or (flat_nets d) k no_net

        first_valid : Valid d first
        first_valid = member_valid d first (flat_member first (member_at (flat_nets d) k no_net within))

        none : AllByRecursion (λ y. nat_eq k y ≡ false) (drivers c)
        none = zero_undriven c k checked.single_driver z

        undriven : flat_number d first ≡ k → (k ≡ c.clock.0 → ⊥) → IsUndriven d first
        undriven e apart b l m =
            let same : flat_number d b ≡ k = sym (linked_number d h first b l) ∙ e in
            ⊎_elim
            (λ (q : flat_number d b ≡ c.clock.0). apart (sym same ∙ q))
            (λ (q : Member (flat_number d b) (drivers c)).
            true≢false (sym (eq-eqb k (flat_number d b) (sym same)) ∙ all_member (λ y. nat_eq k y ≡ false) (drivers c) (flat_number d b) none q))
            (driver_to d h b (contained (driven d) b m))

        by : (t : Bool) → nat_eq (flat_number d first) k ≡ t → cond t (v first) false ≡ false
        by false e = refl
        by true e =
            let number : flat_number d first ≡ k = eqb-true _ _ e in
            ⊎_elim
            (λ (q : k ≡ c.clock.0).
            same_shown d h v wires values first (clock d) first_valid (clock_valid d h ne) (number ∙ (q ∙ clock_number)) ∙ f.clock)
            (λ (apart : k ≡ c.clock.0 → ⊥).
            all_member (λ (a : PathNet). IsUndriven d a → v a ≡ false) (path_nets d) first
            (recursion_from_All (λ (a : PathNet). IsUndriven d a →
            v a ≡ false) (path_nets d) f.zeros) (valid_member d first first_valid) (undriven number apart))
            (cases_eq k c.clock.0)

    low_gates : AllByRecursion (IsSettled (lowered v)) c.gates
    unfolding flat_parts
    low_gates =
        all_of (IsSettled (lowered v)) c.gates
        (λ y m.
        let g = mapped (flat_gate d) y (gates d) m in
        let w = gate_valid d h g.0 g.1 in
        let settled : IsSettledAt v g.0 = all_member (IsSettledAt v) (gates d) g.0 (recursion_from_All (IsSettledAt v) (gates d) f.gates) g.1 in
        let ins : map (λ (n : NetId). v (net_on g.0.path n)) g.0.it.ins ≡ shown (lowered v) (map (flat_net d g.0.path) g.0.it.ins) =
        map_same (λ (n : NetId). v (net_on g.0.path n)) (λ (n : NetId). bit_at (lowered v) (flat_number d (net_on g.0.path n))) g.0.it.ins
        (λ n mn. sym (shows (net_on g.0.path n) (w.1 n mn)))
        ∙ sym (map_twice (flat_net d g.0.path) (λ (n : NetId). bit_at (lowered v) n.0) g.0.it.ins) in
        subst (IsSettled (lowered v)) (sym g.2) (shows (net_on g.0.path g.0.it.out) w.0 ∙ (settled ∙ ap (gate_value g.0.it.kind) ins)))

    low_constants : AllByRecursion (λ (k : Const). bit_at (lowered v) k.net.0 ≡ k.value) c.constants
    unfolding flat_parts
    low_constants =
        let P : Const → Type 0 = λ k. bit_at (lowered v) k.net.0 ≡ k.value in
        all_of P c.constants
        (λ y m.
        let k = mapped (flat_const d) y (kept_constants d h) m in
        let there = (filtered _ k.0 (constants d) k.1).0 in
        subst P (sym k.2) (shows (net_on k.0.path k.0.it.net) (const_valid d h k.0 there)
        ∙ all_member (λ (j : At Const). v (net_on j.path j.it.net) ≡ j.it.value) (constants d) k.0 values there))

    pub lower : Fits c s x (lowered v)
    lower =
        record {
          sources =
              record {
                every_net = length-map (range_with_len 0 (length (flat_nets d))) (bit_for v) ∙ (length-range_with_len 0 (length (flat_nets d)) ∙ sym nets);
                input =
                    shown_ports (lowered v)
                    ∙ (map_same (λ (n : NetId). lifted (lowered v) (net_on [] n)) (λ (n : NetId). v (net_on [] n)) (data_inputs d)
                    (λ n m. shows (net_on [] n) (data_valid n m)) ∙ f.input);
                state =
                    shown_state (lowered v)
                    ∙ (map_same (λ (q : At Flop). lifted (lowered v) (net_on q.path q.it.q)) (λ (q : At Flop). v (net_on q.path q.it.q)) (flops d)
                    (λ q m. shows (net_on q.path q.it.q) (flop_valid d h q m).0) ∙ f.state);
                constants = All-from_recursion _ c.constants low_constants;
                zeros = low_zeros;
              };
          gates = All-from_recursion (IsSettled (lowered v)) c.gates low_gates;
        }

    mode_lowered : (p : Path) (m : Mode) (a b a' b' : Bool) → IsModeValid d p m → a ≡ a' → b ≡ b' →
        mode_loads_on p v m a b ≡ mode_loads_on p (lifted (lowered v)) m a' b'
    mode_lowered p Plain a b a' b' w ea eb = ea
    mode_lowered p (Enable e) a b a' b' w ea eb =
        let on = lifted (lowered v) (net_on p e) in
        ap (λ (t : Bool). cond t a b) (sym (shows (net_on p e) w)) ∙ (ap (λ (t : Bool). cond on t b) ea ∙ ap (λ (t : Bool). cond on a' t) eb)
    mode_lowered p (Clear r) a b a' b' w ea eb =
        let on = lifted (lowered v) (net_on p r) in
        ap (λ (t : Bool). cond t false a) (sym (shows (net_on p r) w)) ∙ ap (λ (t : Bool). cond on false t) ea

    pub next_lowered : loaded_by d v ≡ next_state c (lowered v)
    next_lowered =
        map_same (loaded_on v) (loaded_on (lifted (lowered v))) (flops d)
        (λ q m.
        let w = flop_valid d h q m in
        mode_lowered q.path q.it.mode _ _ _ _ w.3 (sym (shows (net_on q.path q.it.d) w.1)) (sym (shows (net_on q.path q.it.q) w.0)))
        ∙ next_lifted (lowered v)

  -- ---- the law

  pub flop_count : length c.flops ≡ length (flops d)
  unfolding flat_parts
  flop_count = length-map (flops d) (flat_flop d)

  pub input_count : length c.inputs ≡ length (data_inputs d)
  input_count = ap length ports ∙ length-map (data_inputs d) (flat_net d [])

  pub means : (s x : List Bool) → length s ≡ length (flops d) → length x ≡ length (data_inputs d) → FlatMeans d s x
  means s x ls lx =
      let ls' : length s ≡ length c.flops = ls ∙ sym flop_count in
      let lx' : length x ≡ length c.inputs = lx ∙ sym input_count in
      let one = exactly_one_fits c s x checked ls' lx' in
      let v = lifted one.0 in
      let fits = lift s x one.0 one.1 in
      let loads : loaded_by d v ≡ next c s x = next_lifted one.0 ∙ next_from_fits c s x one.0 checked ls' lx' one.1 in
      record {
        one = (
          v,
          fits,
          λ w g.
              All-from_recursion _ (path_nets d)
              (all_of (λ (a : PathNet). w a ≡ v a) (path_nets d)
              (λ a m. sym (shows s x w g a (member_valid d a m)) ∙ ap (λ (u : List Bool). bit_at u (flat_number d a)) (one.2 (lowered w) (lower s x w g)))),
        );
        next = λ p. (
          λ led. sym led.2 ∙ (next_lowered s x led.0 led.1 ∙ next_from_fits c s x (lowered led.0) checked ls' lx' (lower s x led.0 led.1)),
          λ e. (v, fits, loads ∙ sym e),
        );
      }

pub flat_keeps_meaning : FlatKeepsMeaning
flat_keeps_meaning d s x h placed passes ls lx = means d h placed passes s x ls lx
