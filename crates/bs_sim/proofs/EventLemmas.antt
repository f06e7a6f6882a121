-- Gates that are evaluated only where an input of theirs changed.
use Rattle.std.proofs.Common.{◌≡◌, ◌≢◌, ℕ, ◌+◌, ◌<◌, Bool, true, false, not, ◌||◌, List, [], ◌∷◌, map, length, get_or, set, cond, drop, nat_eq, ◌++◌}
use Rattle.std.proofs.Common.{refl, arith, subst, ap, sym, ◌∙◌, get_or-set_other}
use Rattle.std.specs.Bool.{beq}
use Rattle.std.specs.List.{AllByRecursion, All, list_any, count_by, IsDistinct}
use Rattle.std.proofs.lemmas.Bool.{true≢false, eqb-false}
use Rattle.std.proofs.lemmas.Cmp.{nat_eq_equiv}
use Rattle.std.proofs.lemmas.List.{set-get_or, get_or_default, at_drop_more}
use Rattle.std.proofs.lemmas.List.Elements.{All-from_recursion, recursion_from_All}
use Rattle.std.proofs.lemmas.List.Sums.{sum_by-cons}
use Rattle.std.proofs.lemmas.List.Sorted.{sum_by-IsPermutation, IsPermutation-map, All-permutation}
use Rattle.std.proofs.lemmas.Map.Keys.{IsDistinct-head, IsDistinct-tail, IsDistinct-IsPermutation}
use Rattle.bs_net.specs.declared.net.NetId.{NetId}
use Rattle.bs_net.specs.declared.net.Gate.{Gate}
use Rattle.bs_net.specs.declared.net.Const.{Const}
use Rattle.bs_net.specs.Circuit.{Circuit, Fits, bit_at, shown, number, drivers, state_nets, IsSettled}
use Rattle.bs_net.specs.Gate.{gate_value}
use Rattle.bs_net.specs.Order.{IsChecked, IsOrder, IsLevelled, gates_in, no_gate}
use Rattle.bs_net.specs.Steps.{run, puts, constant_step, gate_write}
use Rattle.bs_net.proofs.StepLemmas.{Misses, run_other, shown_same}
use Rattle.bs_net.proofs.LawLemmas.{reads_missed, gates_move}
use Rattle.bs_sim.specs.Events.{IsReady, DriveApart}
use Rattle.bs_sim.specs.Work.{has_change, changed_gates}
use Rattle.bs_sim.proofs.SourceLemmas.{same_bit, all_last, all_first, outs, sources_apart}

-- ---- a gate whose inputs did not change

abbrev differs : List Bool → List Bool → NetId → Bool
differs v w n = not (beq (bit_at v n.0) (bit_at w n.0))

same_bits : (v w : List Bool) (ns : List NetId) → list_any (differs v w) ns ≡ false → AllByRecursion (λ (n : NetId). bit_at w n.0 ≡ bit_at v n.0) ns
same_bits v w [] e = tt
same_bits v w (n ∷ ns) e = by (differs v w n) refl (same_bits v w ns) e
  where
    by : (b : Bool) → differs v w n ≡ b → (list_any (differs v w) ns ≡ false → AllByRecursion (λ (m : NetId). bit_at w m.0 ≡ bit_at v m.0) ns) →
        (b || list_any (differs v w) ns) ≡ false → (bit_at w n.0 ≡ bit_at v n.0) × AllByRecursion (λ (m : NetId). bit_at w m.0 ≡ bit_at v m.0) ns
    by true d rest e' = absurd (true≢false e')
    by false d rest e' = (sym (same_bit _ _ d), rest e')

-- it shows its value already
pub still : (v w : List Bool) (g : Gate) → IsSettled v g → bit_at w g.out.0 ≡ bit_at v g.out.0 → has_change v w g ≡ false →
    w ≡ set w g.out.0 (gate_value g.kind (shown w g.ins))
still v w g settled unchanged none =
    let same : shown w g.ins ≡ shown v g.ins = shown_same g.ins w v (same_bits v w g.ins none) in
    let value : gate_value g.kind (shown w g.ins) ≡ bit_at w g.out.0 = ap (gate_value g.kind) same ∙ (sym settled ∙ sym unchanged) in
    sym (ap (set w g.out.0) value ∙ set-get_or w g.out.0 false)

-- ---- one gate after another

unchanged_after : (v w : List Bool) (out : ℕ) (b : Bool) (gs : List Gate) → AllByRecursion (λ (h : Gate). h.out.0 ≢ out) gs →
    AllByRecursion (λ (h : Gate). bit_at w h.out.0 ≡ bit_at v h.out.0) gs → AllByRecursion (λ (h : Gate). bit_at (set w out b) h.out.0 ≡ bit_at v h.out.0) gs
unchanged_after v w out b [] a e = tt
unchanged_after v w out b (h ∷ gs) a e = (get_or-set_other w out h.out.0 b false a.0 ∙ e.0, unchanged_after v w out b gs a.1 e.1)

pub ready_next : (v w : List Bool) (g : Gate) (gs : List Gate) (b : Bool) → IsReady v w (g ∷ gs) → IsReady v (set w g.out.0 b) gs
ready_next v w g gs b r =
    record {
      settled = All-from_recursion (IsSettled v) gs (recursion_from_All (IsSettled v) (g ∷ gs) r.settled).1;
      unchanged =
          All-from_recursion (λ (h : Gate). bit_at (set w g.out.0 b) h.out.0 ≡ bit_at v h.out.0) gs
          (unchanged_after v w g.out.0 b gs (recursion_from_All (λ (h : Gate). h.out.0 ≢ g.out.0) gs r.apart.0)
          (recursion_from_All (λ (h : Gate). bit_at w h.out.0 ≡ bit_at v h.out.0) (g ∷ gs) r.unchanged).1);
      apart = r.apart.1;
      levelled = r.levelled.1;
    }

same_change : (v w u : List Bool) (ns : List NetId) → AllByRecursion (λ (n : NetId). bit_at u n.0 ≡ bit_at w n.0) ns →
    list_any (differs v w) ns ≡ list_any (differs v u) ns
same_change v w u [] h = refl
same_change v w u (n ∷ ns) h =
    ap (λ b. not (beq (bit_at v n.0) b) || list_any (differs v w) ns) (sym h.0) ∙ ap (λ b. differs v u n || b) (same_change v w u ns h.1)

missed : (ns : List NetId) (gs : List Gate) (w : List Bool) → AllByRecursion (λ (n : NetId). Misses (map gate_write gs) n.0) ns →
    AllByRecursion (λ (n : NetId). bit_at (run (map gate_write gs) w) n.0 ≡ bit_at w n.0) ns
missed [] gs w h = tt
missed (n ∷ ns) gs w h = (run_other (map gate_write gs) w n.0 h.0, missed ns gs w h.1)

-- what changed at a gate when its turn comes has changed at the end
pub change_stays : (v w : List Bool) (g : Gate) (gs : List Gate) → IsLevelled (g ∷ gs) → has_change v w g ≡ has_change v (run (map gate_write (g ∷ gs)) w) g
change_stays v w g gs l =
    same_change v w (run (map gate_write (g ∷ gs)) w) g.ins
    (missed g.ins (g ∷ gs) w
    (reads_missed (g ∷ gs) g.ins (recursion_from_All (λ (n : NetId). All (λ (h : Gate). h.out.0 ≢ n.0) (g ∷ gs)) g.ins l.0)))

-- the count of what is left, one gate on
pub count_next : (p : Gate → Bool) (g : Gate) (gs : List Gate) (work next total : ℕ) → next ≡ cond (p g) (work + 1) work →
    work + count_by p (g ∷ gs) ≡ total → next + count_by p gs ≡ total
count_next p g gs work next total e h = by (p g) refl
  where
    head : count_by p (g ∷ gs) ≡ cond (p g) 1 0 + count_by p gs
    head = sum_by-cons (λ x. cond (p x) 1 0) g gs

    by : (b : Bool) → p g ≡ b → next + count_by p gs ≡ total
    by true is =
        let one : count_by p (g ∷ gs) ≡ 1 + count_by p gs = head ∙ ap (λ b. cond b 1 0 + count_by p gs) is in
        let more : next ≡ work + 1 = e ∙ ap (λ b. cond b (work + 1) work) is in
        omega (arith, one, more, h)
    by false is =
        let none : count_by p (g ∷ gs) ≡ 0 + count_by p gs = head ∙ ap (λ b. cond b 1 0 + count_by p gs) is in
        let same : next ≡ work = e ∙ ap (λ b. cond b (work + 1) work) is in
        omega (arith, none, same, h)

-- what is left of an order begins with the gate that is next
pub next_gate : (gates : List Gate) (order : List ℕ) (i : ℕ) (g d : Gate) → i < length order → get_or order i 0 < length gates →
    g ≡ get_or gates (get_or order i 0) d → gates_in (drop i order) gates ≡ g ∷ gates_in (drop (i + 1) order) gates
next_gate gates order i g d lt below is =
    at_drop_more (λ is. gates_in is gates) order i 0 lt
    ∙ ap (λ h. h ∷ gates_in (drop (i + 1) order) gates) (sym (is ∙ get_or_default gates (get_or order i 0) d no_gate below))

-- ---- the gates are ready when the sources have been shown

misses_puts : (ns : List NetId) (bs : List Bool) (out : ℕ) → AllByRecursion (λ m. nat_eq m out ≡ false) (map number ns) → Misses (puts ns bs) out
misses_puts [] bs out h = tt
misses_puts (n ∷ ns) [] out h = tt
misses_puts (n ∷ ns) (b ∷ bs) out h = (eqb-false n.0 out h.0, misses_puts ns bs out h.1)

misses_constants : (ks : List Const) (out : ℕ) → AllByRecursion (λ m. nat_eq m out ≡ false) (map (λ k. k.net.0) ks) → Misses (map constant_step ks) out
misses_constants [] out h = tt
misses_constants (k ∷ ks) out h = (eqb-false k.net.0 out h.0, misses_constants ks out h.1)

distinct_last : (xs ys : List ℕ) → IsDistinct nat_eq (xs ++ ys) → IsDistinct nat_eq ys
distinct_last [] ys d = d
distinct_last (x ∷ xs) ys d = distinct_last xs ys (IsDistinct-tail nat_eq x (xs ++ ys) d)

others : (out : ℕ) (gs : List Gate) → AllByRecursion (λ y. nat_eq out y ≡ false) (map (λ g. g.out.0) gs) → AllByRecursion (λ (h : Gate). h.out.0 ≢ out) gs
others out [] h = tt
others out (g ∷ gs) h = (λ e. eqb-false out g.out.0 h.0 (sym e), others out gs h.1)

drive_apart : (gs : List Gate) → IsDistinct nat_eq (map (λ g. g.out.0) gs) → DriveApart gs
drive_apart [] d = tt
drive_apart (g ∷ gs) d = (
  All-from_recursion (λ (h : Gate). h.out.0 ≢ g.out.0) gs (others g.out.0 gs (IsDistinct-head nat_eq g.out.0 (map (λ h. h.out.0) gs) d)),
  drive_apart gs (IsDistinct-tail nat_eq g.out.0 (map (λ h. h.out.0) gs) d),
)

-- the sources' writes change no gate's output
out_unchanged : (c : Circuit) (s x v v₁ v₂ v₃ : List Bool) → IsChecked c → v₁ ≡ run (puts c.inputs x) v → v₂ ≡ run (puts (state_nets c) s) v₁ →
    v₃ ≡ run (map constant_step c.constants) v₂ → (j : ℕ) → j < length c.gates →
    bit_at v₃ (get_or c.gates j no_gate).out.0 ≡ bit_at v (get_or c.gates j no_gate).out.0
out_unchanged c s x v v₁ v₂ v₃ checked e₁ e₂ e₃ j lt =
    let out = (get_or c.gates j no_gate).out.0 in
    let Q : ℕ → Type 0 = λ m. nat_eq m out ≡ false in
    let ins = map number c.inputs in
    let states = map number (state_nets c) in
    let consts = map (λ (k : Const). k.net.0) c.constants in
    let apart = sources_apart c checked j lt in
    let late = all_last Q ins (states ++ consts) apart.1 in
    ap (λ u. bit_at u out) e₃
    ∙ (run_other (map constant_step c.constants) v₂ out (misses_constants c.constants out (all_last Q states consts late))
    ∙ (ap (λ u. bit_at u out) e₂
    ∙ (run_other (puts (state_nets c) s) v₁ out (misses_puts (state_nets c) s out (all_first Q states consts late))
    ∙ (ap (λ u. bit_at u out) e₁ ∙ run_other (puts c.inputs x) v out (misses_puts c.inputs x out (all_first Q ins (states ++ consts) apart.1))))))

pub ready_after : (c : Circuit) (s x v v₁ v₂ v₃ s₀ x₀ : List Bool) (order : List ℕ) → IsChecked c → IsOrder c.gates order → Fits c s₀ x₀ v →
    v₁ ≡ run (puts c.inputs x) v → v₂ ≡ run (puts (state_nets c) s) v₁ → v₃ ≡ run (map constant_step c.constants) v₂ → IsReady v v₃ (gates_in order c.gates)
ready_after c s x v v₁ v₂ v₃ s₀ x₀ order checked o fits e₁ e₂ e₃ =
    let moved = gates_move c.gates order o in
    let ins = map number c.inputs in
    let states = map number (state_nets c) in
    let consts = map (λ (k : Const). k.net.0) c.constants in
    let distinct : IsDistinct nat_eq (outs c) =
    distinct_last consts (outs c)
    (distinct_last states (consts ++ outs c)
    (distinct_last ins (states ++ (consts ++ outs c)) (IsDistinct-tail nat_eq c.clock.0 (drivers c) checked.single_driver))) in
    let same : All (λ (g : Gate). bit_at v₃ g.out.0 ≡ bit_at v g.out.0) c.gates =
    λ k d lt.
    let P : Gate → Type 0 = λ g. bit_at v₃ g.out.0 ≡ bit_at v g.out.0 in
    subst P (get_or_default c.gates k no_gate d lt) (out_unchanged c s x v v₁ v₂ v₃ checked e₁ e₂ e₃ k lt) in
    record {
      settled = All-permutation (IsSettled v) _ _ moved fits.gates;
      unchanged = All-permutation (λ (g : Gate). bit_at v₃ g.out.0 ≡ bit_at v g.out.0) _ _ moved same;
      apart =
          drive_apart (gates_in order c.gates)
          (IsDistinct-IsPermutation nat_eq nat_eq_equiv.symm _ _ (IsPermutation-map (λ (g : Gate). g.out.0) _ _ moved) distinct);
      levelled = o.earlier;
    }

-- the gates in order are the gates
pub count_moved : (c : Circuit) (order : List ℕ) (v w : List Bool) → IsOrder c.gates order →
    count_by (has_change v w) (gates_in order c.gates) ≡ changed_gates c v w
count_moved c order v w o = sum_by-IsPermutation (λ g. cond (has_change v w g) 1 0) c.gates (gates_in order c.gates) (gates_move c.gates order o)
