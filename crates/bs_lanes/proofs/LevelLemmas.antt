-- Levels of nets, and an order of the gates by level.
use Rattle.std.proofs.Common.{◌≡◌, ◌≢◌, ℕ, true, suc, ◌<◌, ◌≤◌, ◌+◌, ◌-◌, ◌*◌, ◌/◌, ◌%◌, List, [], ◌∷◌, ◌++◌, map, length, get_or, set, drop, take, max, refl, arith}
use Rattle.std.proofs.Common.{subst, ap, sym, ◌∙◌, ⊎_elim, length-set, get_or-set_same, get_or-set_other, nat_eq}
use Rattle.std.specs.List.{All, AllByRecursion, range_with_len, list_any}
use Rattle.std.specs.List.Sorted.{IsPermutation, IsNonDecreasing}
use Rattle.std.proofs.lemmas.Bool.{cases_eq, cases_lt, eqb-true, false≢true, or_cases}
use Rattle.std.proofs.lemmas.Map.Keys.{IsDistinct-tail}
use Rattle.std.proofs.lemmas.Map.Steps.{length-le_from_distinct_below}
use Rattle.std.proofs.lemmas.List.{drop_more, drop_all, get_or_past, get_or_default, length-append, length-map, map-append, take_all, append-nil}
use Rattle.std.proofs.lemmas.List.Elements.{All-from_recursion, recursion_from_All, All-weaker, All-push}
use Rattle.std.proofs.lemmas.List.Sorted.{All-permutation, IsPermutation-map, IsPermutation-refl, length_permutation, IsPermutation-trans, IsPermutation-sym}
use Rattle.bs_net.specs.declared.net.NetId.{NetId}
use Rattle.bs_net.specs.declared.net.Gate.{Gate}
use Rattle.bs_bits.proofs.RangeLemmas.{range_push}
use Rattle.bs_net.proofs.LawLemmas.{gates_apart, gates_move, gates_placed}
use Rattle.bs_net.proofs.StepLemmas.{Apart, Misses, Placed}
use Rattle.bs_net.specs.declared.net.Const.{Const}
use Rattle.bs_net.specs.Circuit.{Circuit, drivers, number, state_nets}
use Rattle.bs_net.specs.Steps.{gate_write}
use Rattle.bs_net.specs.Order.{gates_in, no_gate, IsLevelled, IsOrder, IsChecked}
use Rattle.bs_lanes.specs.Levels.{level_at, highest, turn_of, level_above, level_for, raised, AreRaised, number_in, level_in, IsKey, AreKeys}

-- ---- the highest level

pub highest_more : (levels : List ℕ) (ns : List NetId) (i top : ℕ) (d : NetId) → i < length ns →
    max (max top (level_at levels (get_or ns i d).0)) (highest levels (drop (i + 1) ns)) ≡ max top (highest levels (drop i ns))
highest_more levels ns i top d lt =
    let three : (a b c : ℕ) → max (max a b) c ≡ max a (max b c) = λ a b c. omega arith in
    three top (level_at levels (get_or ns i d).0) (highest levels (drop (i + 1) ns)) ∙ ap (λ ms. max top (highest levels ms)) (sym (drop_more ns i d lt))

pub highest_end : (levels : List ℕ) (ns : List NetId) (i top : ℕ) → length ns ≤ i → max top (highest levels (drop i ns)) ≡ top
highest_end levels ns i top ge = ap (λ ms. max top (highest levels ms)) (drop_all i ns ge) ∙ omega arith

pub highest_low : (levels : List ℕ) (ns : List NetId) (bound : ℕ) → ((k : ℕ) → level_at levels k ≤ bound) → highest levels ns ≤ bound
highest_low levels [] bound low = omega arith
highest_low levels (n ∷ ns) bound low = omega (arith, low n.0, highest_low levels ns bound low)

pub below_highest : (levels : List ℕ) (ns : List NetId) → AllByRecursion (λ (n : NetId). level_at levels n.0 ≤ highest levels ns) ns
below_highest levels [] = tt
below_highest levels (n ∷ ns) = (omega arith, wider ns (below_highest levels ns))
  where
    wider : (ms : List NetId) → AllByRecursion (λ (m : NetId). level_at levels m.0 ≤ highest levels ns) ms →
        AllByRecursion (λ (m : NetId). level_at levels m.0 ≤ highest levels (n ∷ ns)) ms
    wider [] h = tt
    wider (m ∷ ms) h = (omega (arith, h.0), wider ms h.1)

-- ---- levels are raised

-- a level above another is higher, and not much
above_top : (turn top : ℕ) → top < level_above turn top
above_top turn top = higher ((((top + 1) / 4) + (turn + 8 - (top + 1) / 4 % 8) % 8) * 4)
  where
    higher : (other : ℕ) → top < max (top + 1) other
    higher other = omega arith

above_low : (turn top : ℕ) → level_above turn top ≤ top + 32
above_low turn top = near (turn + 8 - (top + 1) / 4 % 8)
  where
    near : (more : ℕ) → max (top + 1) (((top + 1) / 4 + more % 8) * 4) ≤ top + 32
    near more = omega arith

-- no gate of the list drives a net
abbrev NotDriven : List Gate → ℕ → Type 0
NotDriven gs n = AllByRecursion (λ (h : Gate). h.out.0 ≢ n) gs

-- no two of the gates drive one net
abbrev pub DriveApart : List Gate → Type 0
DriveApart [] = Unit {0}
DriveApart (g ∷ gs) = NotDriven gs g.out.0 × DriveApart gs

-- a net that no gate of the list drives keeps its level
raised_other : (gs : List Gate) (levels : List ℕ) (n : ℕ) → NotDriven gs n → level_at (raised gs levels) n ≡ level_at levels n
raised_other [] levels n h = refl
raised_other (g ∷ gs) levels n h =
    raised_other gs _ n h.1 ∙ get_or-set_other levels g.out.0 n (level_for levels g) 0 (λ e. h.0 (sym e))

pub length-raised : (gs : List Gate) (levels : List ℕ) → length (raised gs levels) ≡ length levels
length-raised [] levels = refl
length-raised (g ∷ gs) levels = length-raised gs _ ∙ length-set levels g.out.0 _

-- each gate's output stands above its inputs
pub are_raised : (gs : List Gate) (levels : List ℕ) → DriveApart gs → IsLevelled gs → AllByRecursion (λ (g : Gate). g.out.0 < length levels) gs →
    AllByRecursion (λ (g : Gate). All (λ (n : NetId). level_at (raised gs levels) n.0 < level_at (raised gs levels) g.out.0) g.ins) gs
are_raised [] levels a l p = tt
are_raised (g ∷ gs) levels a l p =
    let rise = level_for levels g in
    let next : List ℕ = set levels g.out.0 rise in
    let out : level_at (raised gs next) g.out.0 ≡ rise = raised_other gs next g.out.0 a.0 ∙ get_or-set_same levels g.out.0 rise 0 p.0 in
    let P : ℕ → Type 0 = λ m. AllByRecursion (λ (h : Gate). h.out.0 < m) gs in (
      All-from_recursion (λ (n : NetId). level_at (raised gs next) n.0 < level_at (raised gs next) g.out.0) g.ins
          (each g.ins (recursion_from_All (λ (n : NetId). All (λ (h : Gate). h.out.0 ≢ n.0) (g ∷ gs)) g.ins l.0) (below_highest levels g.ins) out),
      are_raised gs next a.1 l.1 (subst P (sym (length-set levels g.out.0 rise)) p.1),
    )
  where
    each : (ns : List NetId) → AllByRecursion (λ (n : NetId). All (λ (h : Gate). h.out.0 ≢ n.0) (g ∷ gs)) ns →
        AllByRecursion (λ (n : NetId). level_at levels n.0 ≤ highest levels g.ins) ns →
        level_at (raised gs (set levels g.out.0 (level_for levels g))) g.out.0 ≡ level_for levels g →
        AllByRecursion (λ (n : NetId). level_at (raised gs (set levels g.out.0 (level_for levels g))) n.0 < level_at
        (raised gs (set levels g.out.0 (level_for levels g))) g.out.0) ns
    each [] h k out = tt
    each (n ∷ ns) h k out =
        let same = raised_other (g ∷ gs) levels n.0 (recursion_from_All (λ (m : Gate). m.out.0 ≢ n.0) (g ∷ gs) h.0) in
        (omega (arith, same, k.0, out, above_top (turn_of g) (highest levels g.ins)), each ns h.1 k.1 out)

-- every level is as low as the order is long
level_low : (levels : List ℕ) (bound : ℕ) → All (λ level. level ≤ bound) levels → (k : ℕ) → level_at levels k ≤ bound
level_low levels bound h k =
    ⊎_elim (λ (lt : k < length levels). h k 0 lt) (λ (ge : length levels ≤ k). omega (arith, get_or_past levels k 0 ge)) (cases_lt k (length levels))

-- one gate more is raised
pub one_raised : (gates : List Gate) (order : List ℕ) (i : ℕ) (levels : List ℕ) (g : Gate) → i < length order → g ≡ get_or gates (get_or order i 0) no_gate →
    raised (gates_in (drop i order) gates) levels ≡ raised (gates_in (drop (i + 1) order) gates) (set levels g.out.0 (level_for levels g))
one_raised gates order i levels g lt is =
    ap (λ is. raised (gates_in is gates) levels) (drop_more order i 0 lt)
    ∙ ap (λ (h : Gate). raised (gates_in (drop (i + 1) order) gates) (set levels h.out.0 (level_for levels h))) (sym is)

pub raised_low : (levels : List ℕ) (i : ℕ) (g : Gate) → All (λ level. level ≤ i * 32) levels → g.out.0 < length levels →
    All (λ level. level ≤ (i + 1) * 32) (set levels g.out.0 (level_for levels g))
raised_low levels i g low lt = λ k d small.
    let out = g.out.0 in
    let rise = level_for levels g in
    ⊎_elim
    (λ (e : k ≡ out).
    let P : ℕ → Type 0 = λ j. get_or (set levels out rise) j d ≤ (i + 1) * 32 in
    subst P (sym e)
    (omega
    (arith, get_or-set_same levels out rise d lt, above_low (turn_of g) (highest levels g.ins), highest_low levels g.ins (i * 32) (level_low levels (i * 32) low))))
    (λ (other : k ≢ out).
    omega (arith, get_or-set_other levels out k rise d other, low k d (omega (arith, small, length-set levels out rise))))
    (cases_eq k out)

pub highest_fits : (levels : List ℕ) (i : ℕ) (ns : List NetId) → All (λ level. level ≤ i) levels → highest levels ns ≤ i
highest_fits levels i ns low = highest_low levels ns i (level_low levels i low)

pub raised_end : (gates : List Gate) (order : List ℕ) (i : ℕ) (levels : List ℕ) → length order ≤ i → raised (gates_in (drop i order) gates) levels ≡ levels
raised_end gates order i levels ge = ap (λ is. raised (gates_in is gates) levels) (drop_all i order ge)

pub low_end : (levels : List ℕ) (i bound : ℕ) → i ≤ bound → All (λ level. level ≤ i) levels → All (λ level. level ≤ bound) levels
low_end levels i bound le low = All-weaker (λ level. level ≤ i) (λ level. level ≤ bound) (λ level h. omega (arith, h, le)) levels low

-- ---- an order by level

-- one key more
pub one_key : (levels : List ℕ) (gates : List Gate) (keys : List ℕ) (key i : ℕ) (d : Gate) → i < length gates → number_in key ≡ i →
    level_in key ≡ level_at levels (get_or gates i d).out.0 →
    All (IsKey levels gates) keys → All (IsKey levels gates) (keys ++ key ∷ [])
one_key levels gates keys key i d lt number level all =
    let same : get_or gates i d ≡ get_or gates (number_in key) no_gate = get_or_default gates i d no_gate lt ∙ ap (λ k. get_or gates k no_gate) (sym number) in
    All-push (IsKey levels gates) keys key all
    (record { placed = omega (arith, number, lt); level = level ∙ ap (λ (g : Gate). level_at levels g.out.0) same })

pub one_number : (keys : List ℕ) (key i : ℕ) → number_in key ≡ i → map number_in keys ≡ range_with_len 0 i →
    map number_in (keys ++ key ∷ []) ≡ range_with_len 0 (i + 1)
one_number keys key i number so_far =
    map-append number_in keys (key ∷ []) ∙ (ap (λ ns. ns ++ number_in key ∷ []) so_far ∙ (ap (λ n. range_with_len 0 i ++ n ∷ []) number ∙ sym (range_push i)))

-- where the output of a gate stands, by its key
abbrev gate_of : List Gate → ℕ → Gate
gate_of gates key = get_or gates (number_in key) no_gate

-- gates in the order of their keys read no net that a later one drives
sorted_levelled : (levels : List ℕ) (gates : List Gate) (keys : List ℕ) → AreRaised levels gates → IsNonDecreasing keys →
    AllByRecursion (IsKey levels gates) keys →
    IsLevelled (gates_in (map number_in keys) gates)
sorted_levelled levels gates [] up sorted all = tt
sorted_levelled levels gates (k ∷ ks) up sorted all =
    let g = gate_of gates k in
    let below : All (λ (n : NetId). level_at levels n.0 < level_at levels g.out.0) g.ins = up (number_in k) no_gate all.0.placed in (
      All-weaker (λ (n : NetId). level_at levels n.0 < level_at levels g.out.0)
          (λ (n : NetId). All (λ (h : Gate). h.out.0 ≢ n.0) (gates_in (map number_in (k ∷ ks)) gates))
          (λ n lt. All-from_recursion (λ (h : Gate). h.out.0 ≢ n.0) (gates_in (map number_in (k ∷ ks)) gates)
          (apart n lt (omega arith), later n lt ks (from_first k ks sorted) all.1)) g.ins below,
      sorted_levelled levels gates ks up (λ i j d le small. sorted (suc i) (suc j) d (omega (arith, le)) (omega (arith, small))) all.1,
    )
  where
    apart : (n : NetId) → level_at levels n.0 < level_at levels (gate_of gates k).out.0 → k ≤ k → (gate_of gates k).out.0 ≢ n.0
    apart n lt le e = let same : level_at levels (gate_of gates k).out.0 ≡ level_at levels n.0 = ap (level_at levels) e in omega (arith, lt, same)

    from_first : (j : ℕ) (js : List ℕ) → IsNonDecreasing (j ∷ js) → AllByRecursion (λ i. j ≤ i) js
    from_first j js up = recursion_from_All (λ i. j ≤ i) js (λ m d small. up 0 (suc m) d (omega arith) (omega (arith, small)))

    later : (n : NetId) → level_at levels n.0 < level_at levels (gate_of gates k).out.0 →
        (js : List ℕ) → AllByRecursion (λ i. k ≤ i) js → AllByRecursion (IsKey levels gates) js →
        AllByRecursion (λ (h : Gate). h.out.0 ≢ n.0) (gates_in (map number_in js) gates)
    later n lt [] up keyed = tt
    later n lt (j ∷ js) up keyed = (
      λ e.
          let same : level_at levels (gate_of gates j).out.0 ≡ level_at levels n.0 = ap (level_at levels) e in
          let above : level_in k ≤ level_in j = omega (arith, up.0) in
          omega (arith, lt, same, above, all.0.level, keyed.0.level),
      later n lt js up.1 keyed.1,
    )

-- keys in their order name the gates in an order
pub keys_order : (levels : List ℕ) (gates : List Gate) (keys sorted : List ℕ) → AreKeys levels gates keys → IsPermutation keys sorted →
    IsNonDecreasing sorted → AreRaised levels gates →
    IsOrder gates (map number_in sorted)
keys_order levels gates keys sorted k moved up raised =
    record {
      each_once = IsPermutation-trans _ _ _ k.once (IsPermutation-map number_in keys sorted moved);
      earlier = sorted_levelled levels gates sorted raised up (recursion_from_All (IsKey levels gates) sorted
          (All-permutation (IsKey levels gates) keys sorted moved k.each));
    }

pub all_keys : (levels : List ℕ) (gates : List Gate) (keys : List ℕ) (i : ℕ) → length gates ≤ i → i ≤ length gates → All (IsKey levels gates) keys →
    map number_in keys ≡ range_with_len 0 i →
    AreKeys levels gates keys
all_keys levels gates keys i ge le each numbers =
    let all : i ≡ length gates = omega (arith, ge, le) in
    let P : List ℕ → Type 0 = λ ns. IsPermutation (range_with_len 0 (length gates)) ns in
    record { each = each; once = subst P (sym (numbers ∙ ap (range_with_len 0) all)) (IsPermutation-refl (range_with_len 0 (length gates))) }

pub moved_keys : (levels : List ℕ) (gates : List Gate) (keys sorted : List ℕ) → AreKeys levels gates keys → IsPermutation keys sorted →
    AreKeys levels gates sorted
moved_keys levels gates keys sorted k moved =
    record {
      each = All-permutation (IsKey levels gates) keys sorted moved k.each;
      once = IsPermutation-trans _ _ _ k.once (IsPermutation-map number_in keys sorted moved);
    }

-- ---- the levels of a checked netlist

drives_apart : (gs : List Gate) → Apart (map gate_write gs) → DriveApart gs
drives_apart [] a = tt
drives_apart (g ∷ gs) a = (not_driven gs g.out.0 a.0, drives_apart gs a.1)
  where
    not_driven : (hs : List Gate) (n : ℕ) → Misses (map gate_write hs) n → NotDriven hs n
    not_driven [] n m = tt
    not_driven (h ∷ hs) n m = (m.0, not_driven hs n m.1)

outs_placed : (m : ℕ) (gs : List Gate) → Placed m (map gate_write gs) → AllByRecursion (λ (g : Gate). g.out.0 < m) gs
outs_placed m [] p = tt
outs_placed m (g ∷ gs) p = (p.0, outs_placed m gs p.1)

-- in a checked netlist each gate's output stands above its inputs
pub checked_raised : (c : Circuit) (order zeros : List ℕ) → IsChecked c → IsOrder c.gates order → length zeros ≡ c.nets →
    AreRaised (raised (gates_in order c.gates) zeros) c.gates
checked_raised c order zeros checked o size =
    let gs = gates_in order c.gates in
    let levels = raised gs zeros in
    let P : ℕ → Type 0 = λ m. AllByRecursion (λ (g : Gate). g.out.0 < m) gs in
    let above : Gate → Type 0 = λ g. All (λ (n : NetId). level_at levels n.0 < level_at levels g.out.0) g.ins in
    All-permutation above gs c.gates (IsPermutation-sym _ _ (gates_move c.gates order o))
    (All-from_recursion above gs
    (are_raised gs zeros (drives_apart gs (gates_apart c order o checked.single_driver)) o.earlier
    (subst P (sym size) (outs_placed c.nets gs (gates_placed c order o checked.in_range)))))

-- a checked netlist has no more gates than nets
pub few_gates : (c : Circuit) → IsChecked c → length c.gates ≤ c.nets
few_gates c checked =
    let outs = map (λ (g : Gate). g.out.0) c.gates in
    let front = map (λ (k : Const). k.net.0) c.constants in
    let states = map number (state_nets c) in
    let ins = map number c.inputs in
    let few : length (drivers c) ≤ c.nets =
    length-le_from_distinct_below (drivers c) c.nets (IsDistinct-tail nat_eq c.clock.0 (drivers c) checked.single_driver)
    (λ q h. inside (drivers c) q h (recursion_from_All (λ n. n < c.nets) (drivers c) checked.in_range)) in
    omega (
      arith,
      few,
      length-append ins (states ++ (front ++ outs)),
      length-append states (front ++ outs),
      length-append front outs,
      length-map c.gates
          (λ (g : Gate). g.out.0),
    )
  where
    inside : (ns : List ℕ) (q : ℕ) → list_any (nat_eq q) ns ≡ true → AllByRecursion (λ n. n < c.nets) ns → q < c.nets
    inside [] q h a = absurd (false≢true h)
    inside (n ∷ ns) q h a =
        ⊎_elim (λ (e : nat_eq q n ≡ true). omega (arith, eqb-true q n e, a.0)) (λ (k : list_any (nat_eq q) ns ≡ true). inside ns q k a.1)
        (or_cases (nat_eq q n) (list_any (nat_eq q) ns) h)

pub length-order : (gates : List Gate) (order : List ℕ) → IsOrder gates order → length order ≡ length gates
length-order gates order o = sym (length-map order (λ i. get_or gates i no_gate)) ∙ length_permutation _ _ (gates_move gates order o)

-- what a vector holds after its slice was written whole
pub written : (new items : List ℕ) (len : ℕ) → len ≡ length new → length items ≤ length new → take len (new ++ drop (length new) items) ≡ new
written new items len e le =
    ap (λ rest. take len (new ++ rest)) (drop_all (length new) items le) ∙ (ap (take len) (append-nil new) ∙ take_all len new (omega (arith, e)))
