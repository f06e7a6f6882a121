-- Writes to planes that lie in another order than the nets: each net's bit is where its plane lies.
use Rattle.std.proofs.Common.{◌≡◌, ◌≢◌, ℕ, ◌<◌, ◌≤◌, ◌+◌, ◌*◌, ◌/◌, ◌%◌, Bool, false, cond, ◌&&◌, ◌||◌, List, [], ◌∷◌, ◌++◌, map, length, get_or, set}
use Rattle.std.proofs.Common.{replicate, refl, arith, subst, ap, sym, ◌∙◌, ⊎_elim, length-set, get_or-set_same, get_or-set_other}
use Rattle.std.specs.Prelude.{◌==◌, IsTrue, nat_lt}
use Rattle.std.specs.Int.{bit_at}
use Rattle.std.specs.List.{All, AllByRecursion}
use Rattle.std.proofs.lemmas.Bool.{cases_eq, cases_lt, le-ltb, eqb-true, or_cases}
use Rattle.std.proofs.lemmas.List.{ext_get_or, get_or-map, get_or_past, get_or-replicate, length-map, length-replicate, map-append}
use Rattle.std.proofs.lemmas.List.Elements.{recursion_from_All, All-map, All-weaker}
use Rattle.std.proofs.lemmas.List.Sorted.{All-permutation}
use Rattle.std.proofs.lemmas.List.FromFn.{length-map-range_with_len, get_or-map-range_with_len}
use Rattle.std.proofs.lemmas.Nat.{div-mul-add, mod-mul-add, mul-le, row_fits}
use Rattle.bs_net.specs.declared.net.NetId.{NetId}
use Rattle.bs_net.specs.declared.net.Flop.{Flop}
use Rattle.bs_net.specs.declared.net.Const.{Const}
use Rattle.bs_net.specs.declared.net.Gate.{Gate}
use Rattle.bs_net.specs.declared.net.Mode.{Mode}
use Rattle.bs_net.specs.declared.net.Mode.TheVariants.{Plain, Enable, Clear}
use Rattle.bs_net.specs.Circuit.{Circuit, Fits, IsZeroed, shown, bit_at as net_shows, mode_loads, loaded, state_nets, next, reset_state}
use Rattle.bs_net.specs.Netlist.{Checked, circuit}
use Rattle.bs_net.specs.Order.{gates_in, IsOrder}
use Rattle.bs_net.specs.Parts.{mode_nets, IsFlopPlaced}
use Rattle.bs_net.specs.Gate.{takes}
use Rattle.bs_net.specs.Steps.{Step, run, put, puts, gate_write, constant_step, steps}
use Rattle.bs_net.proofs.ResettleLemmas.{settled_from, zeroed_by_fit, zeroed_zeros}
use Rattle.bs_net.proofs.NetlistLemmas.{run-append}
use Rattle.bs_net.proofs.LawLemmas.{gates_move}
use Rattle.bs_net.proofs.NextLemmas.{next_from_fits}
use Rattle.bs_stim.specs.Packing.{bit_in}
use Rattle.bs_lanes.specs.Planes.{bit_place, lane, IsWidened}
use Rattle.bs_lanes.proofs.PlaneLemmas.{bit_from, lane_at, lane_zeros, length_lane}
use Rattle.bs_lanes.specs.declared.layout.Layout.{Layout}
use Rattle.bs_lanes.specs.Layout.{place_of, placed_net, placed_gate, placed_const, placed_mode, placed_flop, unplaced, words_by_net, layout_steps}
use Rattle.bs_lanes.specs.Layout.{AreInside, IsPlacing, IsLayout, IsGateOf, SettlesAll, HasLayout}
use Rattle.bs_lanes.specs.Lanes.{LaneTable, is_wide, IsLaneTable, AreReset, AreStepped}
use Rattle.bs_lanes.specs.Program.{program_gates, HasGate}
use Rattle.bs_lanes.specs.Settling.{HasPlane, HasFlop, lane_loads, RunsAll, LoadsAll, ResetsAll}
use Rattle.bs_lanes.proofs.SettlingLemmas.{has_plane}
use Rattle.bs_lanes.proofs.LoadLemmas.{lane_bit_is}

-- ---- the planes of the nets, one net behind another

pub length_by_net : (wide : ℕ) (places words : List ℕ) → length (words_by_net wide places words) ≡ length places * wide
length_by_net wide places words =
    length-map-range_with_len (λ k. get_or words (place_of places (k / wide) * wide + k % wide) 0) 0 (length places * wide)

-- a net's bit in a lane stands where its plane lies
pub by_net_bit : (wide : ℕ) (places words : List ℕ) (n r : ℕ) → n < length places → r < 64 * wide →
    bit_in (words_by_net wide places words) (bit_place wide n r) ≡ bit_in words (bit_place wide (place_of places n) r)
by_net_bit wide places words n r lt small =
    let f : ℕ → ℕ = λ k. get_or words (place_of places (k / wide) * wide + k % wide) 0 in
    let low : r / 64 < wide = omega (arith, small) in
    let k = n * wide + r / 64 in
    let within : k < length places * wide = omega (arith, row_fits n wide (length places) wide lt (omega arith), low) in
    let word : get_or (words_by_net wide places words) k 0 ≡ get_or words (place_of places n * wide + r / 64) 0 =
    get_or-map-range_with_len f 0 (length places * wide) k k 0 within (omega arith)
    ∙ (ap (λ m. get_or words (place_of places m * wide + k % wide) 0) (div-mul-add n wide (r / 64) low)
    ∙ ap (λ m. get_or words (place_of places n * wide + m) 0) (mod-mul-add n wide (r / 64) low)) in
    bit_from (words_by_net wide places words) (n * wide) r
    ∙ (ap (λ w. bit_at w (r % 64) == 1) word ∙ sym (bit_from words (place_of places n * wide) r))

-- the bits of the nets in a lane, by the planes as they lie
pub by_net_lane : (wide nets planes : ℕ) (places words : List ℕ) (r : ℕ) → IsPlacing nets planes places → r < 64 * wide →
    lane wide nets (words_by_net wide places words) r ≡ unplaced places (lane wide planes words r)
by_net_lane wide nets planes places words r p small =
    let v : List Bool = lane wide planes words r in
    ext_get_or false (lane wide nets (words_by_net wide places words) r) (unplaced places v)
    (length_lane wide nets (words_by_net wide places words) r ∙ (sym p.size ∙ sym (length-map places (λ q. get_or v q false))))
    (λ n lt.
    let here : n < nets = omega (arith, lt, length_lane wide nets (words_by_net wide places words) r) in
    let there : n < length places = omega (arith, here, p.size) in
    lane_at wide nets (words_by_net wide places words) r n here
    ∙ (by_net_bit wide places words n r there small
    ∙ (sym (lane_at wide planes words r (place_of places n) (p.below n 0 there))
    ∙ sym (get_or-map (λ q. get_or v q false) places n 0 false there))))

-- ---- writes, in the places' numbering and in the nets'

-- a write with places for nets
abbrev pub placed_step : List ℕ → Step → Step
placed_step places s = record { target = place_of places s.target; reads = map (placed_net places) s.reads; rule = s.rule }

-- a write changes and reads nets below a bound
abbrev pub IsStepIn : ℕ → Step → Type 0
IsStepIn count s = (s.target < count) × AllByRecursion (λ (n : NetId). n.0 < count) s.reads

unplaced_at : (places : List ℕ) (v : List Bool) (n : ℕ) → n < length places → get_or (unplaced places v) n false ≡ get_or v (place_of places n) false
unplaced_at places v n lt = get_or-map (λ q. get_or v q false) places n 0 false lt

-- a write to a net's plane changes that net alone
unplaced_set : (nets planes : ℕ) (places : List ℕ) (v : List Bool) (t : ℕ) (b : Bool) → IsPlacing nets planes places → t < nets → length v ≡ planes →
    unplaced places (set v (place_of places t) b) ≡ set (unplaced places v) t b
unplaced_set nets planes places v t b p lt size =
    let old : List Bool = unplaced places v in
    let new : List Bool = set v (place_of places t) b in
    let long : length old ≡ length places = length-map places (λ q. get_or v q false) in
    let there : t < length places = omega (arith, lt, p.size) in
    let room : place_of places t < length v = omega (arith, p.below t 0 there, size) in
    ext_get_or false (unplaced places new) (set old t b)
    (length-map places (λ q. get_or new q false) ∙ (sym long ∙ sym (length-set old t b)))
    (λ n small.
    let here : n < length places = omega (arith, small, length-map places (λ q. get_or new q false)) in
    unplaced_at places new n here
    ∙ ⊎_elim
    (λ (e : n ≡ t).
    let P : ℕ → Type 0 = λ m. get_or new (place_of places m) false ≡ get_or (set old t b) m false in
    subst P (sym e) (get_or-set_same v (place_of places t) b false room ∙ sym (get_or-set_same old t b false (omega (arith, there, long)))))
    (λ (other : n ≢ t).
    get_or-set_other v (place_of places t) (place_of places n) b false (λ same. other (p.apart n t (omega (arith, here, p.size)) lt same))
    ∙ (sym (unplaced_at places v n here) ∙ sym (get_or-set_other old t n b false other)))
    (cases_eq n t))

-- what planes show on some places is what the nets there show
unplaced_shown : (places : List ℕ) (v : List Bool) (ns : List NetId) → AllByRecursion (λ (n : NetId). n.0 < length places) ns →
    shown v (map (placed_net places) ns) ≡ shown (unplaced places v) ns
unplaced_shown places v [] h = refl
unplaced_shown places v (n ∷ ns) h =
    ap (λ b. b ∷ shown v (map (placed_net places) ns)) (sym (unplaced_at places v n.0 h.0))
    ∙ ap (λ bs. get_or (unplaced places v) n.0 false ∷ bs) (unplaced_shown places v ns h.1)

-- writes to planes are the same writes to nets
pub unplaced_run : (nets planes : ℕ) (places : List ℕ) (ss : List Step) (v : List Bool) → IsPlacing nets planes places →
    AllByRecursion (IsStepIn nets) ss → length v ≡ planes → unplaced places (run (map (placed_step places) ss) v) ≡ run ss (unplaced places v)
unplaced_run nets planes places [] v p h size = refl
unplaced_run nets planes places (s ∷ ss) v p h size =
    let P : ℕ → Type 0 = λ m. AllByRecursion (λ (n : NetId). n.0 < m) s.reads in
    let same : shown v (map (placed_net places) s.reads) ≡ shown (unplaced places v) s.reads =
    unplaced_shown places v s.reads (subst P (sym p.size) h.0.1) in
    let b = s.rule (shown v (map (placed_net places) s.reads)) in
    unplaced_run nets planes places ss (set v (place_of places s.target) b) p h.1 (length-set v (place_of places s.target) b ∙ size)
    ∙ (ap (run ss) (unplaced_set nets planes places v s.target b p h.0.0 size)
    ∙ ap (λ bits. run ss (set (unplaced places v) s.target (s.rule bits))) same)

-- ---- the writes that settle a layout are those that settle its netlist

puts_placed : (places : List ℕ) (ns : List NetId) (bs : List Bool) → puts (map (placed_net places) ns) bs ≡ map (placed_step places) (puts ns bs)
puts_placed places [] bs = refl
puts_placed places (n ∷ ns) [] = refl
puts_placed places (n ∷ ns) (b ∷ bs) = ap (λ ss. put (place_of places n.0) b ∷ ss) (puts_placed places ns bs)

outputs_placed : (places : List ℕ) (fs : List Flop) (bs : List Bool) →
    puts (map (λ (f : Flop). placed_net places f.q) fs) bs ≡ map (placed_step places) (puts (map (λ (f : Flop). f.q) fs) bs)
outputs_placed places [] bs = refl
outputs_placed places (f ∷ fs) [] = refl
outputs_placed places (f ∷ fs) (b ∷ bs) = ap (λ ss. put (place_of places f.q.0) b ∷ ss) (outputs_placed places fs bs)

consts_placed : (places : List ℕ) (ks : List Const) → map constant_step (map (placed_const places) ks) ≡ map (placed_step places) (map constant_step ks)
consts_placed places [] = refl
consts_placed places (k ∷ ks) = ap (λ ss. constant_step (placed_const places k) ∷ ss) (consts_placed places ks)

writes_placed : (places : List ℕ) (gs : List Gate) → map gate_write (map (placed_gate places) gs) ≡ map (placed_step places) (map gate_write gs)
writes_placed places [] = refl
writes_placed places (g ∷ gs) = ap (λ ss. gate_write (placed_gate places g) ∷ ss) (writes_placed places gs)

pub steps_placed : (c : Circuit) (l : Layout) (s x : List Bool) (h : IsLayout c l) → layout_steps l s x ≡ map (placed_step l.places) (steps c s x h.order)
steps_placed c l s x h =
    let f : Step → Step = placed_step l.places in
    let a = puts c.inputs x in
    let b = puts (state_nets c) s in
    let k = map constant_step c.constants in
    let g = map gate_write (gates_in h.order c.gates) in
    let ea : puts l.inputs x ≡ map f a = ap (λ ns. puts ns x) h.inputs ∙ puts_placed l.places c.inputs x in
    let eb : puts l.outputs s ≡ map f b = ap (λ ns. puts ns s) h.outputs ∙ outputs_placed l.places c.flops s in
    let ek : map constant_step l.consts ≡ map f k = ap (map constant_step) h.consts ∙ consts_placed l.places c.constants in
    let eg : map gate_write (program_gates l.program) ≡ map f g = ap (map gate_write) h.gates ∙ writes_placed l.places (gates_in h.order c.gates) in
    ap (λ ss. ss ++ (puts l.outputs s ++ (map constant_step l.consts ++ map gate_write (program_gates l.program)))) ea
    ∙ (ap (λ ss. map f a ++ (ss ++ (map constant_step l.consts ++ map gate_write (program_gates l.program)))) eb
    ∙ (ap (λ ss. map f a ++ (map f b ++ (ss ++ map gate_write (program_gates l.program)))) ek
    ∙ (ap (λ ss. map f a ++ (map f b ++ (map f k ++ ss))) eg
    ∙ (ap (λ ss. map f a ++ (map f b ++ ss)) (sym (map-append f k g))
    ∙ (ap (λ ss. map f a ++ ss) (sym (map-append f b (k ++ g))) ∙ sym (map-append f a (b ++ (k ++ g))))))))

-- one list of writes after another, in each lane
pub runs_on : (wide : ℕ) (front back : ℕ → List Step) (old mid new : List ℕ) → RunsAll wide front old mid → RunsAll wide back mid new →
    RunsAll wide (λ r. front r ++ back r) old new
runs_on wide front back old mid new h k =
    record {
      size = k.size ∙ h.size;
      each =
          λ count r size lt.
          k.each count r (h.size ∙ size) lt
          ∙ (ap (run (back r)) (h.each count r size lt) ∙ sym (run-append (front r) (back r) (lane wide count old r)));
    }

-- ---- the writes of a settling stay among the nets

all_nets : (count : ℕ) (ns : List NetId) → All (λ (n : NetId). n.0 < count) ns → AllByRecursion (λ (n : NetId). n.0 < count) ns
all_nets count ns h = recursion_from_All (λ (n : NetId). n.0 < count) ns h

puts_in : (count : ℕ) (ns : List NetId) (bs : List Bool) → AllByRecursion (λ (n : NetId). n.0 < count) ns → AllByRecursion (IsStepIn count) (puts ns bs)
puts_in count [] bs h = tt
puts_in count (n ∷ ns) [] h = tt
puts_in count (n ∷ ns) (b ∷ bs) h = ((h.0, tt), puts_in count ns bs h.1)

outputs_in : (count : ℕ) (fs : List Flop) → AllByRecursion (IsFlopPlaced count) fs →
    AllByRecursion (λ (n : NetId). n.0 < count) (map (λ (f : Flop). f.q) fs)
outputs_in count [] h = tt
outputs_in count (f ∷ fs) h = (h.0.0, outputs_in count fs h.1)

consts_in : (count : ℕ) (ks : List Const) → AllByRecursion (λ (k : Const). k.net.0 < count) ks → AllByRecursion (IsStepIn count) (map constant_step ks)
consts_in count [] h = tt
consts_in count (k ∷ ks) h = ((h.0, tt), consts_in count ks h.1)

gates_in_bound : (count : ℕ) (gs : List Gate) → AllByRecursion (IsGateOf count) gs → AllByRecursion (IsStepIn count) (map gate_write gs)
gates_in_bound count [] h = tt
gates_in_bound count (g ∷ gs) h = ((h.0.0, all_nets count g.ins h.0.1.1), gates_in_bound count gs h.1)

steps_join : (count : ℕ) (xs ys : List Step) → AllByRecursion (IsStepIn count) xs → AllByRecursion (IsStepIn count) ys →
    AllByRecursion (IsStepIn count) (xs ++ ys)
steps_join count [] ys a b = b
steps_join count (x ∷ xs) ys a b = (a.0, steps_join count xs ys a.1 b)

-- the gates of an order are gates of the circuit
ordered_gates : (c : Circuit) (order : List ℕ) → AreInside c → IsOrder c.gates order → All (IsGateOf c.nets) (gates_in order c.gates)
ordered_gates c order h o = All-permutation (IsGateOf c.nets) c.gates (gates_in order c.gates) (gates_move c.gates order o) h.gates

pub steps_in : (c : Circuit) (s x : List Bool) (order : List ℕ) → AreInside c → IsOrder c.gates order → AllByRecursion (IsStepIn c.nets) (steps c s x order)
steps_in c s x order h o =
    let a = puts_in c.nets c.inputs x (all_nets c.nets c.inputs h.inputs) in
    let b = puts_in c.nets (state_nets c) s
    (outputs_in c.nets c.flops (recursion_from_All (IsFlopPlaced c.nets) c.flops h.flops)) in
    let k = consts_in c.nets c.constants (recursion_from_All (λ (k : Const). k.net.0 < c.nets) c.constants h.consts) in
    let g = gates_in_bound c.nets (gates_in order c.gates) (recursion_from_All (IsGateOf c.nets) (gates_in order c.gates) (ordered_gates c order h o)) in
    steps_join c.nets (puts c.inputs x) _ a
    (steps_join c.nets (puts (state_nets c) s) _ b (steps_join c.nets (map constant_step c.constants) (map gate_write (gates_in order c.gates)) k g))

-- ---- the words have the planes of a layout

place_below : (nets planes : ℕ) (places : List ℕ) (n : ℕ) → IsPlacing nets planes places → n < nets → place_of places n < planes
place_below nets planes places n p lt = p.below n 0 (omega (arith, lt, p.size))

net_has : (nets planes wide : ℕ) (places words : List ℕ) (n : NetId) → IsPlacing nets planes places → length words ≡ planes * wide → n.0 < nets →
    HasPlane wide words (placed_net places n).0
net_has nets planes wide places words n p size lt = has_plane wide planes (place_of places n.0) words (place_below nets planes places n.0 p lt) size

nets_at_have : (nets planes wide : ℕ) (places words : List ℕ) (ns : List NetId) → IsPlacing nets planes places → length words ≡ planes * wide →
    All (λ (n : NetId). n.0 < nets) ns → All (λ (n : NetId). HasPlane wide words n.0) (map (placed_net places) ns)
nets_at_have nets planes wide places words ns p size h =
    All-map (λ (n : NetId). HasPlane wide words n.0) (placed_net places) ns
    (All-weaker (λ (n : NetId). n.0 < nets) (λ (n : NetId). HasPlane wide words (placed_net places n).0)
    (λ n lt. net_has nets planes wide places words n p size lt) ns h)

gate_has : (nets planes wide : ℕ) (places words : List ℕ) (g : Gate) → IsPlacing nets planes places → length words ≡ planes * wide → IsGateOf nets g →
    HasGate wide words (placed_gate places g)
gate_has nets planes wide places words g p size h =
    let P : ℕ → Type 0 = λ k. IsTrue (takes g.kind k) in
    record {
      out = net_has nets planes wide places words g.out p size h.0;
      small = omega (arith, place_below nets planes places g.out.0 p h.0, p.few);
      ins = nets_at_have nets planes wide places words g.ins p size h.1.1;
      taken = subst P (sym (length-map g.ins (placed_net places))) h.2;
    }

mode_moves : (places : List ℕ) (m : Mode) → mode_nets (placed_mode places m) ≡ map (placed_net places) (mode_nets m)
mode_moves places Plain = refl
mode_moves places (Enable e) = refl
mode_moves places (Clear r) = refl

flop_has : (nets planes wide : ℕ) (places words : List ℕ) (f : Flop) → IsPlacing nets planes places → length words ≡ planes * wide → IsFlopPlaced nets f →
    HasFlop wide words (placed_flop places f)
flop_has nets planes wide places words f p size h =
    let P : List NetId → Type 0 = λ ns. All (λ (n : NetId). HasPlane wide words n.0) ns in (
      net_has nets planes wide places words f.q p size h.0,
      net_has nets planes wide places words f.d p size h.1,
      subst P (sym (mode_moves places f.mode)) (nets_at_have nets planes wide places words (mode_nets f.mode) p size h.3),
    )

pub has_layout : (c : Circuit) (l : Layout) (wide : ℕ) (words : List ℕ) → IsLayout c l → length words ≡ l.planes * wide → HasLayout wide words l
has_layout c l wide words h size =
    let Has : NetId → Type 0 = λ n. HasPlane wide words n.0 in
    let Ns : List NetId → Type 0 = λ ns. All Has ns in
    let Ks : List Const → Type 0 = λ ks. All (λ (k : Const). HasPlane wide words k.net.0) ks in
    let Gs : List Gate → Type 0 = λ gs. All (HasGate wide words) gs in
    let Fs : List Flop → Type 0 = λ fs. All (HasFlop wide words) fs in
    let has : (n : NetId) → n.0 < c.nets → Has (placed_net l.places n) = λ n lt. net_has c.nets l.planes wide l.places words n h.placing size lt in
    record {
      inputs = subst Ns (sym h.inputs) (nets_at_have c.nets l.planes wide l.places words c.inputs h.placing size h.inside.inputs);
      outputs =
          subst Ns (sym h.outputs)
          (All-map Has (λ (f : Flop). placed_net l.places f.q) c.flops
          (All-weaker (IsFlopPlaced c.nets) (λ (f : Flop). Has (placed_net l.places f.q)) (λ f k. has f.q k.0) c.flops h.inside.flops));
      flops =
          subst Fs (sym h.flops)
          (All-map (HasFlop wide words) (placed_flop l.places) c.flops
          (All-weaker (IsFlopPlaced c.nets) (λ (f : Flop). HasFlop wide words (placed_flop l.places f))
          (λ f k. flop_has c.nets l.planes wide l.places words f h.placing size k) c.flops h.inside.flops));
      consts =
          subst Ks (sym h.consts)
          (All-map (λ (k : Const). HasPlane wide words k.net.0) (placed_const l.places) c.constants
          (All-weaker (λ (k : Const). k.net.0 < c.nets) (λ (k : Const). HasPlane wide words (placed_const l.places k).net.0) (λ k lt. has k.net lt) c.constants
          h.inside.consts));
      gates =
          subst Gs (sym h.gates)
          (All-map (HasGate wide words) (placed_gate l.places) (gates_in h.order c.gates)
          (All-weaker (IsGateOf c.nets) (λ (g : Gate). HasGate wide words (placed_gate l.places g))
          (λ g k. gate_has c.nets l.planes wide l.places words g h.placing size k)
          (gates_in h.order c.gates) (ordered_gates c h.order h.inside h.ordered)));
    }

pub length_inputs : (c : Circuit) (l : Layout) → IsLayout c l → length l.inputs ≡ length c.inputs
length_inputs c l h = ap length h.inputs ∙ length-map c.inputs (placed_net l.places)

pub length_outputs : (c : Circuit) (l : Layout) → IsLayout c l → length l.outputs ≡ length c.flops
length_outputs c l h = ap length h.outputs ∙ length-map c.flops (λ (f : Flop). placed_net l.places f.q)

pub length_flops : (c : Circuit) (l : Layout) → IsLayout c l → length l.flops ≡ length c.flops
length_flops c l h = ap length h.flops ∙ length-map c.flops (placed_flop l.places)

-- ---- a settling of a layout settles its netlist in each lane

-- each lane's nets show 0 on the zero nets
abbrev pub AreZeroed : Circuit → Layout → ℕ → List ℕ → Type 0
AreZeroed c l wide words = (r : ℕ) → r < 64 * wide → IsZeroed c (lane wide c.nets (words_by_net wide l.places words) r)

pub settled_lane : (c : Circuit) (l : Layout) (wide : ℕ) (flops inputs old new : List ℕ) (r : ℕ) → IsLayout c l → length old ≡ l.planes * wide →
    AreZeroed c l wide old → SettlesAll wide l flops inputs old new → r < 64 * wide →
    Fits c (lane wide (length c.flops) flops r) (lane wide (length c.inputs) inputs r) (lane wide c.nets (words_by_net wide l.places new) r)
settled_lane c l wide flops inputs old new r h size zeroed k lt =
    let s : List Bool = lane wide (length c.flops) flops r in
    let x : List Bool = lane wide (length c.inputs) inputs r in
    let v : List Bool = lane wide l.planes old r in
    let w : List Bool = lane wide l.planes new r in
    let made : w ≡ run (layout_steps l s x) v =
    k.each l.planes r size lt
    ∙ (ap (λ n. run (layout_steps l (lane wide n flops r) (lane wide (length l.inputs) inputs r)) v) (length_outputs c l h)
    ∙ ap (λ n. run (layout_steps l s (lane wide n inputs r)) v) (length_inputs c l h)) in
    let by_nets : unplaced l.places w ≡ run (steps c s x h.order) (unplaced l.places v) =
    ap (unplaced l.places) made
    ∙ (ap (λ ss. unplaced l.places (run ss v)) (steps_placed c l s x h)
    ∙ unplaced_run c.nets l.planes l.places (steps c s x h.order) v h.placing (steps_in c s x h.order h.inside h.ordered) (length_lane wide l.planes old r)) in
    let Z : List Bool → Type 0 = λ u. IsZeroed c u in
    let F : List Bool → Type 0 = λ u. Fits c s x u in
    let fits : Fits c s x (run (steps c s x h.order) (unplaced l.places v)) =
    settled_from c s x (unplaced l.places v) h.order h.checked h.ordered (length_lane wide (length c.flops) flops r)
    (length_lane wide (length c.inputs) inputs r)
    (subst Z (by_net_lane wide c.nets l.planes l.places old r h.placing lt) (zeroed r lt)) in
    subst F (sym (by_net_lane wide c.nets l.planes l.places new r h.placing lt)) (subst F (sym by_nets) fits)

-- a net's bit in a lane, by the planes as they lie and by the nets
net_same : (c : Circuit) (l : Layout) (wide : ℕ) (words : List ℕ) (r : ℕ) (n : NetId) → IsPlacing c.nets l.planes l.places → length words ≡ l.planes * wide →
    r < 64 * wide → n.0 < c.nets →
    net_shows (lane wide (length words) words r) (place_of l.places n.0) ≡ net_shows (lane wide c.nets (words_by_net wide l.places words) r) n.0
net_same c l wide words r n p size lt small =
    lane_bit_is wide r words (placed_net l.places n) (net_has c.nets l.planes wide l.places words n p size small) lt
    ∙ (sym (by_net_bit wide l.places words n.0 r (omega (arith, small, p.size)) lt)
    ∙ sym (lane_at wide c.nets (words_by_net wide l.places words) r n.0 small))

-- a mode loads the same, by the planes as they lie and by the nets
mode_same : (places : List ℕ) (w u : List Bool) (m : Mode) (d q : Bool) →
    All (λ (n : NetId). net_shows w (place_of places n.0) ≡ net_shows u n.0) (mode_nets m) →
    mode_loads w (placed_mode places m) d q ≡ mode_loads u m d q
mode_same places w u Plain d q h = refl
mode_same places w u (Enable e) d q h = ap (λ b. cond b d q) (h 0 e (omega arith))
mode_same places w u (Clear r) d q h = ap (λ b. cond b false d) (h 0 r (omega arith))

-- what the flip-flops load of the planes is what they load of a lane's nets
loads_of : (c : Circuit) (l : Layout) (wide : ℕ) (words : List ℕ) (r : ℕ) (fs : List Flop) → IsPlacing c.nets l.planes l.places →
    length words ≡ l.planes * wide → r < 64 * wide → AllByRecursion (IsFlopPlaced c.nets) fs →
    map (lane_loads wide words r) (map (placed_flop l.places) fs) ≡ map (loaded (lane wide c.nets (words_by_net wide l.places words) r)) fs
loads_of c l wide words r [] p size lt h = refl
loads_of c l wide words r (f ∷ fs) p size lt h =
    let w : List Bool = lane wide (length words) words r in
    let u : List Bool = lane wide c.nets (words_by_net wide l.places words) r in
    let same : (n : NetId) → n.0 < c.nets → net_shows w (place_of l.places n.0) ≡ net_shows u n.0 = λ n small. net_same c l wide words r n p size lt small in
    let here : lane_loads wide words r (placed_flop l.places f) ≡ loaded u f =
    mode_same l.places w u f.mode (net_shows w (place_of l.places f.d.0)) (net_shows w (place_of l.places f.q.0))
    (All-weaker (λ (n : NetId). n.0 < c.nets) (λ (n : NetId). net_shows w (place_of l.places n.0) ≡ net_shows u n.0) same (mode_nets f.mode) h.0.3)
    ∙ (ap (λ b. mode_loads u f.mode b (net_shows w (place_of l.places f.q.0))) (same f.d h.0.1)
    ∙ ap (λ b. mode_loads u f.mode (net_shows u f.d.0) b) (same f.q h.0.0)) in
    ap (λ b. b ∷ map (lane_loads wide words r) (map (placed_flop l.places) fs)) here
    ∙ ap (λ bs. loaded u f ∷ bs) (loads_of c l wide words r fs p size lt h.1)

pub loaded_lane : (c : Circuit) (l : Layout) (wide : ℕ) (flops inputs words new : List ℕ) (r : ℕ) → IsLayout c l → length words ≡ l.planes * wide →
    LoadsAll wide words l.flops flops new → r < 64 * wide →
    Fits c (lane wide (length c.flops) flops r) (lane wide (length c.inputs) inputs r) (lane wide c.nets (words_by_net wide l.places words) r) →
    lane wide (length c.flops) new r ≡ next c (lane wide (length c.flops) flops r) (lane wide (length c.inputs) inputs r)
loaded_lane c l wide flops inputs words new r h size k lt fits =
    ap (λ n. lane wide n new r) (sym (length_flops c l h))
    ∙ (k.each r lt
    ∙ (ap (map (lane_loads wide words r)) h.flops
    ∙ (loads_of c l wide words r c.flops h.placing size lt (recursion_from_All (IsFlopPlaced c.nets) c.flops h.inside.flops)
    ∙ next_from_fits c (lane wide (length c.flops) flops r) (lane wide (length c.inputs) inputs r) (lane wide c.nets (words_by_net wide l.places words) r)
    h.checked (length_lane wide (length c.flops) flops r) (length_lane wide (length c.inputs) inputs r) fits)))

-- ---- the table that contracts see

-- the planes of a layout, as contracts see them
abbrev pub table : Checked → Layout → ℕ → List ℕ → List ℕ → LaneTable
table net l wide flops nets = record { net = net; wide = wide; flops = flops; nets = words_by_net wide l.places nets }

sizes : (net : Checked) (l : Layout) (wide planes : ℕ) (nets : List ℕ) → IsLayout (circuit net) l →
    length (words_by_net wide l.places nets) ≡ (circuit net).nets * wide
sizes net l wide planes nets h = length_by_net wide l.places nets ∙ ap (λ n. n * wide) h.placing.size

-- after a clock edge
pub table_stepped : (net : Checked) (l : Layout) (wide : ℕ) (flops inputs old flops' new : List ℕ) → IsLayout (circuit net) l →
    IsLaneTable (table net l wide flops old) → length old ≡ l.planes * wide → SettlesAll wide l flops inputs old new → LoadsAll wide new l.flops flops flops' →
    IsLaneTable (table net l wide flops' new) × AreStepped (table net l wide flops old) (table net l wide flops' new) inputs
table_stepped net l wide flops inputs old flops' new h t size k m =
    let c = circuit net in
    let fits = λ (r : ℕ) (lt : r < 64 * wide). settled_lane c l wide flops inputs old new r h size t.zeroed k lt in (
      record {
        wide = t.wide;
        flops = m.size ∙ t.flops;
        nets = sizes net l wide l.planes new h;
        zeroed = λ r lt. zeroed_by_fit c _ _ _ (fits r lt);
      },
      record {
        state = λ r lt. loaded_lane c l wide flops inputs new flops' r h (k.size ∙ size) m lt (fits r lt);
        fits = fits;
      },
    )

-- at reset
pub table_reset : (net : Checked) (l : Layout) (wide : ℕ) (flops zeros old flops' new : List ℕ) → IsLayout (circuit net) l → IsTrue (is_wide wide) →
    length flops ≡ length (circuit net).flops * wide → AreZeroed (circuit net) l wide old → length old ≡ l.planes * wide →
    zeros ≡ replicate (length (circuit net).inputs * wide) 0 → SettlesAll wide l flops' zeros old new → ResetsAll wide (circuit net).flops flops flops' →
    IsLaneTable (table net l wide flops' new) × AreReset (table net l wide flops' new)
table_reset net l wide flops zeros old flops' new h w fs z size none k m =
    let c = circuit net in
    let fits = λ (r : ℕ) (lt : r < 64 * wide). settled_lane c l wide flops' zeros old new r h size z k lt in (
      record {
        wide = w;
        flops = m.size ∙ fs;
        nets = sizes net l wide l.planes new h;
        zeroed = λ r lt. zeroed_by_fit c _ _ _ (fits r lt);
      },
      record {
        state = m.each;
        fits =
            λ r lt.
            let v : List Bool = lane wide c.nets (words_by_net wide l.places new) r in
            let P : List Bool → Type 0 = λ s. Fits c s (lane wide (length c.inputs) zeros r) v in
            let Q : List ℕ → Type 0 = λ ws. Fits c (reset_state c) (lane wide (length c.inputs) ws r) v in
            let R : List Bool → Type 0 = λ x. Fits c (reset_state c) x v in
            subst R (lane_zeros wide (length c.inputs) (length c.inputs * wide) r) (subst Q none (subst P (m.each r lt) (fits r lt)));
      },
    )

-- words of zeros show 0 on every net
pub zeros_zeroed : (c : Circuit) (l : Layout) (wide : ℕ) → IsLayout c l → AreZeroed c l wide (replicate (l.planes * wide) 0)
zeros_zeroed c l wide h r lt =
    let Z : List Bool → Type 0 = λ u. IsZeroed c u in
    let words : List ℕ = replicate (l.planes * wide) 0 in
    let all : (ps : List ℕ) → unplaced ps (replicate l.planes false) ≡ replicate (length ps) false = unplaced_zeros l.planes in
    let same : lane wide c.nets (words_by_net wide l.places words) r ≡ replicate c.nets false =
    by_net_lane wide c.nets l.planes l.places words r h.placing lt
    ∙ (ap (unplaced l.places) (lane_zeros wide l.planes (l.planes * wide) r) ∙ (all l.places ∙ ap (λ n. replicate n false) h.placing.size)) in
    subst Z (sym same) (zeroed_zeros c)
  where
    one_zero : (n p : ℕ) → get_or (replicate n false) p false ≡ false
    one_zero n p =
        ⊎_elim (λ (lt : p < n). get_or-replicate n p false false lt)
        (λ (ge : n ≤ p). get_or_past (replicate n false) p false (omega (arith, ge, length-replicate {A = Bool} n false))) (cases_lt p n)

    unplaced_zeros : (n : ℕ) (ps : List ℕ) → unplaced ps (replicate n false) ≡ replicate (length ps) false
    unplaced_zeros n [] = refl
    unplaced_zeros n (p ∷ ps) = ap (λ b. b ∷ unplaced ps (replicate n false)) (one_zero n p) ∙ ap (λ bs. false ∷ bs) (unplaced_zeros n ps)

-- the plane of a net, where it lies
pub plane_by_net : (wide nets planes : ℕ) (places words plane : List ℕ) (n : ℕ) → IsPlacing nets planes places → n < nets →
    IsWidened wide plane (λ r. bit_in words (bit_place wide (place_of places n) r)) →
    IsWidened wide plane (λ r. bit_in (words_by_net wide places words) (bit_place wide n r))
plane_by_net wide nets planes places words plane n p lt h =
    record {
      long = h.long;
      each =
          λ r small.
          h.each r small
          ∙ ⊎_elim
          (λ (inside : r < 64 * wide).
          ap (λ b. nat_lt r (64 * wide) && b) (sym (by_net_bit wide places words n r (omega (arith, lt, p.size)) inside)))
          (λ (beyond : 64 * wide ≤ r).
          ap (λ b. b && bit_in words (bit_place wide (place_of places n) r)) (le-ltb r (64 * wide) beyond)
          ∙ ap (λ b. b && bit_in (words_by_net wide places words) (bit_place wide n r)) (sym (le-ltb r (64 * wide) beyond)))
          (cases_lt r (64 * wide));
    }

-- what keeps the lanes' table and planes
pub wide_small : (n : ℕ) → IsTrue (is_wide n) → n ≤ 4
wide_small n t =
    ⊎_elim (λ e. omega (arith, eqb-true n 1 e))
    (λ h. ⊎_elim (λ e. omega (arith, eqb-true n 2 e)) (λ e. omega (arith, eqb-true n 4 e)) (or_cases (n == 2) (n == 4) h))
    (or_cases (n == 1) ((n == 2) || (n == 4)) t)

-- a product of a bounded number and a width is small
pub wide_product : (n wide bound : ℕ) → n ≤ bound → IsTrue (is_wide wide) → n * wide ≤ bound * 4
wide_product n wide bound le t = mul-le n wide bound 4 le (wide_small wide t)
