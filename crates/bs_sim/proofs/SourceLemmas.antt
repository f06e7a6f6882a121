-- What the sources of a netlist show: gate steps leave it as it is, and writes to zeros make it.
use Rattle.std.proofs.Common.{◌≡◌, ℕ, zero, suc, ◌<◌, Bool, true, false, not, List, [], ◌∷◌, ◌++◌, map, length, get_or, set, replicate, refl, arith}
use Rattle.std.proofs.Common.{subst, ap, sym, ◌∙◌, length-set, get_or-set_other, nat_eq}
use Rattle.std.specs.Bool.{beq}
use Rattle.std.specs.List.{AllByRecursion, All, IsDistinct}
use Rattle.std.proofs.lemmas.Bool.{eqb-false, ne_eqb}
use Rattle.std.proofs.lemmas.List.{append_assoc, append-nil}
use Rattle.std.proofs.lemmas.List.Elements.{All-from_recursion, recursion_from_All}
use Rattle.std.proofs.lemmas.List.Sorted.{IsPermutation-refl}
use Rattle.std.proofs.lemmas.Map.Keys.{IsDistinct-head, IsDistinct-tail, IsDistinct-cons}
use Rattle.bs_net.specs.declared.net.NetId.{NetId}
use Rattle.bs_net.specs.declared.net.Gate.{Gate}
use Rattle.bs_net.specs.declared.net.Const.{Const}
use Rattle.bs_net.specs.Circuit.{Circuit, Fits, Shows, bit_at, shown, state_nets, number, drivers, is_zero_net, IsSettled}
use Rattle.bs_net.specs.Gate.{gate_value}
use Rattle.bs_net.specs.Order.{IsChecked, gates_in, no_gate}
use Rattle.bs_sim.specs.Played.{IsQuietness}
use Rattle.bs_sim.specs.declared.schedule.Settled.{Settled}
use Rattle.bs_sim.specs.declared.schedule.Settled.TheVariants.{Quiet, Unstable}
use Rattle.bs_net.specs.Steps.{run, puts, constant_step, gate_write}
use Rattle.bs_net.specs.Schedule.{gate_step, play}
use Rattle.bs_net.proofs.StepLemmas.{shown_same}
use Rattle.bs_net.proofs.LawLemmas.{zero_undriven, undriven_zero}
use Rattle.bs_net.proofs.ResettleLemmas.{parts_from, zeroed_zeros}

-- ---- lists

pub all_last : (P : ℕ → Type 0) (xs ys : List ℕ) → AllByRecursion P (xs ++ ys) → AllByRecursion P ys
all_last P [] ys h = h
all_last P (x ∷ xs) ys h = all_last P xs ys h.1

pub all_first : (P : ℕ → Type 0) (xs ys : List ℕ) → AllByRecursion P (xs ++ ys) → AllByRecursion P xs
all_first P [] ys h = tt
all_first P (x ∷ xs) ys h = (h.0, all_first P xs ys h.1)

all_join : (P : ℕ → Type 0) (xs ys : List ℕ) → AllByRecursion P xs → AllByRecursion P ys → AllByRecursion P (xs ++ ys)
all_join P [] ys h k = k
all_join P (x ∷ xs) ys h k = (h.0, all_join P xs ys h.1 k)

pub all_out : (P : ℕ → Type 0) (gs : List Gate) (j : ℕ) → j < length gs → AllByRecursion P (map (λ g. g.out.0) gs) → P (get_or gs j no_gate).out.0
all_out P [] j lt h = absurd (omega arith)
all_out P (g ∷ gs) zero lt h = h.0
all_out P (g ∷ gs) (suc j) lt h = all_out P gs j (omega arith) h.1

-- a member of the first list differs from one of the second
apart_of : (P : ℕ → Type 0) (n : ℕ) (xs ys : List ℕ) → ((m : ℕ) → AllByRecursion (λ y. nat_eq m y ≡ false) ys → P m) → IsDistinct nat_eq (xs ++ ys) →
    AllByRecursion P xs
apart_of P n [] ys f d = tt
apart_of P n (x ∷ xs) ys f d = (
  f x (all_last (λ y. nat_eq x y ≡ false) xs ys (IsDistinct-head nat_eq x (xs ++ ys) d)),
  apart_of P n xs ys f (IsDistinct-tail nat_eq x (xs ++ ys) d),
)

-- ---- the nets that no gate drives

-- the nets of the sources, the clock first
abbrev pub fronts : Circuit → List ℕ
fronts c = c.clock.0 ∷ (map number c.inputs ++ (map number (state_nets c) ++ map (λ k. k.net.0) c.constants))

abbrev pub outs : Circuit → List ℕ
outs c = map (λ g. g.out.0) c.gates

fronts_outs : (c : Circuit) → fronts c ++ outs c ≡ c.clock.0 ∷ drivers c
fronts_outs c =
    let a = map number c.inputs in
    let b = map number (state_nets c) in
    let k = map (λ (n : Const). n.net.0) c.constants in
    ap (λ l. c.clock.0 ∷ l) (append_assoc a (b ++ k) (outs c) ∙ ap (λ l. a ++ l) (append_assoc b k (outs c)))

-- the net of no source is driven by gate j
pub sources_apart : (c : Circuit) → IsChecked c → (j : ℕ) → j < length c.gates →
    AllByRecursion (λ m. nat_eq m (get_or c.gates j no_gate).out.0 ≡ false) (fronts c)
sources_apart c checked j lt =
    let P : List ℕ → Type 0 = λ l. IsDistinct nat_eq l in
    apart_of (λ m. nat_eq m (get_or c.gates j no_gate).out.0 ≡ false) 0 (fronts c) (outs c)
    (λ m h. all_out (λ y. nat_eq m y ≡ false) c.gates j lt h)
    (subst P (sym (fronts_outs c)) checked.single_driver)

kept : (ns : List NetId) (v : List Bool) (out : ℕ) (b : Bool) → AllByRecursion (λ m. nat_eq m out ≡ false) (map number ns) →
    AllByRecursion (λ (n : NetId). bit_at (set v out b) n.0 ≡ bit_at v n.0) ns
kept [] v out b h = tt
kept (n ∷ ns) v out b h = (get_or-set_other v out n.0 b false (eqb-false n.0 out h.0), kept ns v out b h.1)

kept_constants : (ks : List Const) (v : List Bool) (out : ℕ) (b : Bool) → AllByRecursion (λ m. nat_eq m out ≡ false) (map (λ k. k.net.0) ks) →
    AllByRecursion (λ (k : Const). bit_at v k.net.0 ≡ k.value) ks → AllByRecursion (λ (k : Const). bit_at (set v out b) k.net.0 ≡ k.value) ks
kept_constants [] v out b h e = tt
kept_constants (k ∷ ks) v out b h e =
    (get_or-set_other v out k.net.0 b false (eqb-false k.net.0 out h.0) ∙ e.0, kept_constants ks v out b h.1 e.1)

-- a gate step leaves what the sources show
shows_step : (c : Circuit) (s x v : List Bool) → IsChecked c → (j : ℕ) → j < length c.gates → Shows c s x v →
    Shows c s x (gate_step v (get_or c.gates j no_gate))
shows_step c s x v checked j lt sh =
    let g = get_or c.gates j no_gate in
    let out = g.out.0 in
    let b = gate_value g.kind (shown v g.ins) in
    let Q : ℕ → Type 0 = λ m. nat_eq m out ≡ false in
    let apart = sources_apart c checked j lt in
    let ins = map number c.inputs in
    let states = map number (state_nets c) in
    let consts = map (λ (k : Const). k.net.0) c.constants in
    let late = all_last Q ins (states ++ consts) apart.1 in
    record {
      every_net = length-set v out b ∙ sh.every_net;
      input = shown_same c.inputs (set v out b) v (kept c.inputs v out b (all_first Q ins (states ++ consts) apart.1)) ∙ sh.input;
      state = shown_same (state_nets c) (set v out b) v (kept (state_nets c) v out b (all_first Q states consts late)) ∙ sh.state;
      constants =
          All-from_recursion (λ (k : Const). bit_at (set v out b) k.net.0 ≡ k.value) c.constants
          (kept_constants c.constants v out b (all_last Q states consts late)
          (recursion_from_All (λ (k : Const). bit_at v k.net.0 ≡ k.value) c.constants sh.constants));
      zeros =
          λ n below z.
          let R : ℕ → Type 0 = λ y. nat_eq n y ≡ false in
          let undriven = zero_undriven c n checked.single_driver z in
          let no_gates = all_last R consts (outs c) (all_last R states _ (all_last R ins _ undriven)) in
          get_or-set_other v out n b false (eqb-false n out (all_out R c.gates j lt no_gates)) ∙ sh.zeros n below z;
    }

pub shows_play : (c : Circuit) (s x v : List Bool) (schedule : List ℕ) → IsChecked c → AllByRecursion (λ i. i < length c.gates) schedule →
    Shows c s x v → Shows c s x (play c schedule v)
shows_play c s x v [] checked h sh = sh
shows_play c s x v (i ∷ is) checked h sh = shows_play c s x (gate_step v (get_or c.gates i no_gate)) is checked h.1 (shows_step c s x v checked i h.0 sh)

-- a schedule is a list of writes
pub play_writes : (c : Circuit) (schedule : List ℕ) (v : List Bool) → play c schedule v ≡ run (map gate_write (gates_in schedule c.gates)) v
play_writes c [] v = refl
play_writes c (i ∷ is) v = play_writes c is (gate_step v (get_or c.gates i no_gate))

-- ---- the sources written to zeros

-- the circuit without its gates
abbrev bare : Circuit → Circuit
bare c = record { nets = c.nets; clock = c.clock; inputs = c.inputs; flops = c.flops; gates = []; constants = c.constants }

bare_fronts : (c : Circuit) → fronts c ≡ c.clock.0 ∷ drivers (bare c)
bare_fronts c =
    ap (λ l. c.clock.0 ∷ (map number c.inputs ++ (map number (state_nets c) ++ l))) (sym (append-nil (map (λ (k : Const). k.net.0) c.constants)))

distinct_first : (xs ys : List ℕ) → IsDistinct nat_eq (xs ++ ys) → IsDistinct nat_eq xs
unfolding IsDistinct
distinct_first [] ys d = tt
distinct_first (x ∷ xs) ys d =
    IsDistinct-cons nat_eq x xs (all_first (λ y. nat_eq x y ≡ false) xs ys (IsDistinct-head nat_eq x (xs ++ ys) d))
    (distinct_first xs ys (IsDistinct-tail nat_eq x (xs ++ ys) d))

bare_checked : (c : Circuit) → IsChecked c → IsChecked (bare c)
bare_checked c checked =
    let P : List ℕ → Type 0 = λ l. IsDistinct nat_eq l in
    let Q : List ℕ → Type 0 = λ l. AllByRecursion (λ n. n < c.nets) l in
    let ins = map number c.inputs in
    let states = map number (state_nets c) in
    let consts = map (λ (k : Const). k.net.0) c.constants in
    let below = recursion_from_All (λ n. n < c.nets) (drivers c) checked.in_range in
    let late = all_last (λ n. n < c.nets) ins (states ++ (consts ++ outs c)) below in
    let last = all_last (λ n. n < c.nets) states (consts ++ outs c) late in
    record {
      clock_placed = checked.clock_placed;
      single_driver = subst P (bare_fronts c) (distinct_first (fronts c) (outs c) (subst P (sym (fronts_outs c)) checked.single_driver));
      in_range =
          All-from_recursion (λ n. n < c.nets) (drivers (bare c))
          (all_join (λ n. n < c.nets) ins _ (all_first (λ n. n < c.nets) ins (states ++ (consts ++ outs c)) below)
          (all_join (λ n. n < c.nets) states _ (all_first (λ n. n < c.nets) states (consts ++ outs c) late)
          (all_join (λ n. n < c.nets) consts [] (all_first (λ n. n < c.nets) consts (outs c) last) tt)));
      acyclic = ([], record { each_once = IsPermutation-refl []; earlier = tt });
    }

-- nets that no source drives show 0
bare_zero : (c : Circuit) (n : ℕ) → AllByRecursion (λ y. nat_eq n y ≡ false) (map number c.inputs) →
    AllByRecursion (λ y. nat_eq n y ≡ false) (map number (state_nets c)) →
    AllByRecursion (λ y. nat_eq n y ≡ false) (map (λ (k : Const). k.net.0) c.constants) → is_zero_net (bare c) n ≡ true
bare_zero c n i s k =
    let P : ℕ → Type 0 = λ y. nat_eq n y ≡ false in
    undriven_zero (bare c) n
    (all_join P (map number c.inputs) _ i (all_join P (map number (state_nets c)) _ s (all_join P (map (λ (m : Const). m.net.0) c.constants) [] k tt)))

flipped : (n : ℕ) (ms : List ℕ) → AllByRecursion (λ m. nat_eq m n ≡ false) ms → AllByRecursion (λ m. nat_eq n m ≡ false) ms
flipped n [] h = tt
flipped n (m ∷ ms) h = (ne_eqb n m (λ e. eqb-false m n h.0 (sym e)), flipped n ms h.1)

-- what the writes of the sources make of zeros
pub sources_show : (c : Circuit) (s x v₁ v₂ v₃ : List Bool) → IsChecked c → length s ≡ length c.flops → length x ≡ length c.inputs →
    v₁ ≡ run (puts c.inputs x) (replicate c.nets false) → v₂ ≡ run (puts (state_nets c) s) v₁ → v₃ ≡ run (map constant_step c.constants) v₂ →
    Shows c s x v₃ × ((j : ℕ) → j < length c.gates → bit_at v₃ (get_or c.gates j no_gate).out.0 ≡ false)
sources_show c s x v₁ v₂ v₃ checked ls lx e₁ e₂ e₃ =
    let ins = map number c.inputs in
    let states = map number (state_nets c) in
    let consts = map (λ (k : Const). k.net.0) c.constants in
    let fits : Fits (bare c) s x v₃ =
    parts_from (bare c) s x (replicate c.nets false) v₁ v₂ v₃ v₃ [] (bare_checked c checked) (record { each_once = IsPermutation-refl []; earlier = tt }) ls lx
    (zeroed_zeros (bare c)) e₁ e₂ e₃ refl in (
      record {
        every_net = fits.every_net;
        input = fits.input;
        state = fits.state;
        constants = fits.constants;
        zeros =
            λ n below z.
            let R : ℕ → Type 0 = λ y. nat_eq n y ≡ false in
            let undriven = zero_undriven c n checked.single_driver z in
            let late = all_last R ins (states ++ (consts ++ outs c)) undriven in
            fits.zeros n below
            (bare_zero c n (all_first R ins (states ++ (consts ++ outs c)) undriven) (all_first R states (consts ++ outs c) late)
            (all_first R consts (outs c) (all_last R states (consts ++ outs c) late)));
      },
      λ j lt.
          let out = (get_or c.gates j no_gate).out.0 in
          let Q : ℕ → Type 0 = λ m. nat_eq m out ≡ false in
          let apart = sources_apart c checked j lt in
          let late = all_last Q ins (states ++ consts) apart.1 in
          let below : AllByRecursion (λ n. n < c.nets) (outs c) =
          all_last (λ n. n < c.nets) consts (outs c)
          (all_last (λ n. n < c.nets) states (consts ++ outs c)
          (all_last (λ n. n < c.nets) ins (states ++ (consts ++ outs c)) (recursion_from_All (λ n. n < c.nets) (drivers c) checked.in_range))) in
          fits.zeros out (all_out (λ n. n < c.nets) c.gates j lt below)
          (bare_zero c out (flipped out ins (all_first Q ins (states ++ consts) apart.1)) (flipped out states (all_first Q states consts late))
          (flipped out consts (all_last Q states consts late))),
    )

-- ---- the code's tests

pub same_bit : (a b : Bool) → not (beq a b) ≡ false → a ≡ b
same_bit true true e = refl
same_bit false false e = refl
same_bit true false e = cc
same_bit false true e = cc

-- ---- answers

pub quiet_answer : (gates : List Gate) (v : List Bool) (answer : Settled) → IsQuietness gates v answer → All (IsSettled v) gates → answer ≡ Quiet
quiet_answer gates v Quiet a q = refl
quiet_answer gates v (Unstable i) a q = absurd (a.differs (q i no_gate a.placed))
