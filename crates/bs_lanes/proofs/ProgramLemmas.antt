-- Gates in stretches.
use Rattle.std.proofs.Common.{take-add, ◌≡◌, ℕ, suc, zero, ◌<◌, ◌≤◌, ◌+◌, List, [], ◌∷◌, ◌++◌, map, length, get_or, drop, take, refl, arith, ap, sym, ◌∙◌}
use Rattle.std.specs.List.{All, AllByRecursion}
use Rattle.std.proofs.lemmas.Grind.{flat_map-append}
use Rattle.std.proofs.lemmas.List.{append-nil, drop_more, take_more, take_all, map-append, length-append, length-map, get_or-map}
use Rattle.std.proofs.lemmas.List.Elements.{All-weaker, All-from_recursion, recursion_from_All}
use Rattle.bs_net.specs.declared.net.Gate.{Gate}
use Rattle.bs_net.specs.declared.gate.Kind.{Kind}
use Rattle.bs_net.specs.Steps.{Step, run, gate_write}
use Rattle.bs_net.proofs.NetlistLemmas.{run-append}
use Rattle.bs_net.specs.Order.{no_gate, gates_in}
use Rattle.bs_lanes.specs.Planes.{lane}
use Rattle.bs_lanes.specs.declared.pairs.Pair.{Pair}
use Rattle.bs_lanes.specs.declared.program.GateStretch.{GateStretch}
use Rattle.bs_lanes.specs.declared.program.GateStretch.TheVariants.{Pairs, Others}
use Rattle.bs_lanes.specs.Layout.{placed_net, placed_gate, placed_gates, IsGateOf}
use Rattle.std.proofs.Common.{◌≢◌, false, subst}
use Rattle.std.specs.Prelude.{IsTrue}
use Rattle.std.proofs.lemmas.Bool.{true≢false, false≢true}
use Rattle.bs_net.specs.Gate.{takes}
use Rattle.bs_net.specs.declared.gate.Kind.TheVariants.{And, Nand, Or, Nor, Xor, Xnor, Buf, Not}
use Rattle.bs_lanes.specs.Program.{pair_gate, pair_gates, same_kind, IsNoPair, stretch_gates, program_gates, ArePairs, AreFirst, IsFirst, HasGate}
use Rattle.bs_lanes.specs.Settling.{RunsTo, RunsAll}
use Rattle.bs_lanes.proofs.PairLemmas.{gate_stays}

-- ---- gates that are no pair of a kind with an output at a place

own_kind : (kind : Kind) → same_kind kind kind ≡ false → IsTrue (takes kind 2) → ⊥
own_kind And isnt two = true≢false isnt
own_kind Nand isnt two = true≢false isnt
own_kind Or isnt two = true≢false isnt
own_kind Nor isnt two = true≢false isnt
own_kind Xor isnt two = true≢false isnt
own_kind Xnor isnt two = true≢false isnt
own_kind Buf isnt two = false≢true two
own_kind Not isnt two = false≢true two

two_inputs : (places : List ℕ) (gate : Gate) (kind : Kind) (out : ℕ) (p : Pair) → pair_gate kind out p ≡ placed_gate places gate → length gate.ins ≡ 2
two_inputs places gate kind out p is = sym (length-map gate.ins (placed_net places)) ∙ sym (ap (λ (g : Gate). length g.ins) is)

-- another kind
pub no_pair_by_kind : (places : List ℕ) (gate : Gate) (kind : Kind) (out count : ℕ) → same_kind kind gate.kind ≡ false → IsGateOf count gate →
    IsNoPair kind out (placed_gate places gate)
no_pair_by_kind places gate kind out count isnt of = record { none = λ p is. differ p is }
  where
    differ : (p : Pair) → pair_gate kind out p ≡ placed_gate places gate → ⊥
    differ p is =
        let same : kind ≡ gate.kind = ap (λ (g : Gate). g.kind) is in
        let two : IsTrue (takes gate.kind 2) = subst (λ (n : ℕ). IsTrue (takes gate.kind n)) (two_inputs places gate kind out p is) of.2 in
        own_kind gate.kind (subst (λ (k : Kind). same_kind k gate.kind ≡ false) same isnt) two

-- another place
pub no_pair_by_place : (places : List ℕ) (gate : Gate) (kind : Kind) (out : ℕ) → (placed_net places gate.out).0 ≢ out →
    IsNoPair kind out (placed_gate places gate)
no_pair_by_place places gate kind out isnt = record { none = λ p is. isnt (sym (ap (λ (g : Gate). g.out.0) is)) }

-- another number of inputs
pub no_pair_by_inputs : (places : List ℕ) (gate : Gate) (kind : Kind) (out : ℕ) → length gate.ins ≢ 2 → IsNoPair kind out (placed_gate places gate)
no_pair_by_inputs places gate kind out isnt = record { none = λ p is. isnt (two_inputs places gate kind out p is) }

-- ---- the gates of an order, with places for nets

pub length_placed : (places order : List ℕ) (gates : List Gate) → length (placed_gates places order gates) ≡ length order
length_placed places order gates = length-map (gates_in order gates) (placed_gate places) ∙ length-map order (λ j. get_or gates j no_gate)

-- the gate at a place of the order
pub placed_at : (places order : List ℕ) (gates : List Gate) (i : ℕ) (d : Gate) → i < length order →
    get_or (placed_gates places order gates) i d ≡ placed_gate places (get_or gates (get_or order i 0) no_gate)
placed_at places order gates i d lt =
    get_or-map (placed_gate places) (gates_in order gates) i no_gate d (omega (arith, lt, length-map order (λ j. get_or gates j no_gate)))
    ∙ ap (placed_gate places) (get_or-map (λ j. get_or gates j no_gate) order i 0 no_gate lt)

-- the first gates of the order, and one more
pub placed_more : (places order : List ℕ) (gates : List Gate) (i : ℕ) → i < length order →
    take (i + 1) (placed_gates places order gates) ≡ take i (placed_gates places order gates) ++ placed_gate places (get_or gates
    (get_or order i 0) no_gate) ∷ []
placed_more places order gates i lt =
    take_more (placed_gates places order gates) i no_gate (omega (arith, lt, length_placed places order gates))
    ∙ ap (λ g. take i (placed_gates places order gates) ++ g ∷ []) (placed_at places order gates i no_gate lt)

-- the gates from a place of the order on
pub placed_drop : (places order : List ℕ) (gates : List Gate) (at : ℕ) → placed_gates places (drop at order) gates ≡ drop at (placed_gates places order gates)
placed_drop places order gates zero = refl
placed_drop places [] gates (suc at) = refl
placed_drop places (i ∷ is) gates (suc at) = placed_drop places is gates at

-- ---- pairs

pub pairs_push : (kind : Kind) (start : ℕ) (pairs : List Pair) (p : Pair) →
    pair_gates kind start (pairs ++ p ∷ []) ≡ pair_gates kind start pairs ++ pair_gate kind (start + length pairs) p ∷ []
pairs_push kind start [] p = let e : start ≡ start + 0 = omega arith in ap (λ n. pair_gate kind n p ∷ []) e
pairs_push kind start (q ∷ qs) p =
    let e : (start + 1) + length qs ≡ start + suc (length qs) = omega arith in
    ap (λ gs. pair_gate kind start q ∷ gs) (pairs_push kind (start + 1) qs p ∙
    ap (λ n. pair_gates kind (start + 1) qs ++ pair_gate kind n p ∷ []) e)

-- one pair more
pub one_more_pair : (places order : List ℕ) (gates : List Gate) (kind : Kind) (start : ℕ) (pairs : List Pair) (p : Pair) (i : ℕ) → i < length order →
    pair_gate kind (start + i) p ≡ placed_gate places (get_or gates (get_or order i 0) no_gate) →
    length pairs ≡ i → pair_gates kind start pairs ≡ take i (placed_gates places order gates) →
    record {
      count : length (pairs ++ p ∷ []) ≡ i + 1;
      so_far : pair_gates kind start (pairs ++ p ∷ []) ≡ take (i + 1) (placed_gates places order gates);
    }
one_more_pair places order gates kind start pairs p i lt is count so_far =
    let before : List Gate = take i (placed_gates places order gates) in
    record {
      count = length-append pairs (p ∷ []) ∙ omega (arith, count);
      so_far =
          pairs_push kind start pairs p
          ∙ (ap (λ gs. gs ++ pair_gate kind (start + length pairs) p ∷ []) so_far
          ∙ (ap (λ n. before ++ pair_gate kind (start + n) p ∷ []) count
          ∙ (ap (λ g. before ++ g ∷ []) is ∙ sym (placed_more places order gates i lt))));
    }

pub pairs_so_far : (gates : List Gate) (kind : Kind) (start : ℕ) (pairs : List Pair) (i : ℕ) → i ≤ length gates → length pairs ≡ i →
    pair_gates kind start pairs ≡ take i gates → ArePairs gates kind start pairs
pairs_so_far gates kind start pairs i le count so_far =
    record { few = omega (arith, le, count); first = so_far ∙ ap (λ n. take n gates) (sym count) }

-- the first stretch has pairs
pub pairs_first : (gates : List Gate) (kind : Kind) (start : ℕ) (pairs : List Pair) (count : ℕ) → count ≡ length pairs → 0 < count →
    ArePairs gates kind start pairs → IsFirst gates (Pairs kind start pairs) count
pairs_first gates kind start pairs count same some are =
    let few : length pairs ≤ length gates = are.few in
    record { some = some; few = omega (arith, same, few); first = are.first ∙ ap (λ n. take n gates) (sym same) }

-- or others
pub others_first : (gates others : List Gate) (count : ℕ) → count ≡ length others → AreFirst gates others → IsFirst gates (Others others) count
others_first gates others count same are =
    let few : length others ≤ length gates = are.few in
    let some : 0 < length others = are.some in
    record { some = omega (arith, same, some); few = omega (arith, same, few); first = are.first ∙ ap (λ n. take n gates) (sym same) }

-- one other gate more
pub one_more_other : (places order : List ℕ) (gates others : List Gate) (g : Gate) (i : ℕ) → i < length order →
    g ≡ placed_gate places (get_or gates (get_or order i 0) no_gate) → others ≡ take i (placed_gates places order gates) →
    others ++ g ∷ [] ≡ take (i + 1) (placed_gates places order gates)
one_more_other places order gates others g i lt is so_far =
    ap (λ gs. gs ++ g ∷ []) so_far
    ∙ (ap (λ h. take i (placed_gates places order gates) ++ h ∷ []) is ∙ sym (placed_more places order gates i lt))

pub others_so_far : (places order : List ℕ) (gates others : List Gate) (i : ℕ) → 0 < i → i ≤ length order →
    others ≡ take i (placed_gates places order gates) → AreFirst (placed_gates places order gates) others
others_so_far places order gates others i some le so_far =
    let all : List Gate = placed_gates places order gates in
    let size : length others ≡ i = ap length so_far ∙ length_take i all (omega (arith, le, length_placed places order gates)) in
    record {
      some = omega (arith, size, some);
      few = omega (arith, size, le, length_placed places order gates);
      first = so_far ∙ ap (λ n. take n all) (sym size);
    }
  where
    length_take : (n : ℕ) (gs : List Gate) → n ≤ length gs → length (take n gs) ≡ n
    length_take zero gs le = refl
    length_take (suc n) [] le = absurd (omega (arith, le))
    length_take (suc n) (h ∷ gs) le = ap suc (length_take n gs (omega (arith, le)))

-- ---- stretches

flat_push : (ss : List GateStretch) (s : GateStretch) → program_gates (ss ++ s ∷ []) ≡ program_gates ss ++ stretch_gates s
flat_push ss s =
    flat_map-append stretch_gates ss (s ∷ []) ∙ ap (λ gs. program_gates ss ++ gs) (append-nil (stretch_gates s))

-- one stretch more
pub one_more_stretch : (places order : List ℕ) (gates : List Gate) (ss : List GateStretch) (s : GateStretch) (at count : ℕ) →
    program_gates ss ≡ take at (placed_gates places order gates) → IsFirst (placed_gates places (drop at order) gates) s count →
    program_gates (ss ++ s ∷ []) ≡ take (at + count) (placed_gates places order gates)
one_more_stretch places order gates ss s at count h k =
    let all : List Gate = placed_gates places order gates in
    flat_push ss s
    ∙ (ap (λ gs. gs ++ stretch_gates s) h
    ∙ (ap (λ gs. take at all ++ gs) (k.first ∙ ap (take count) (placed_drop places order gates at))
    ∙ sym (take-add at count all)))

pub all_stretches : (places order : List ℕ) (gates : List Gate) (ss : List GateStretch) (at : ℕ) → length order ≤ at →
    program_gates ss ≡ take at (placed_gates places order gates) → program_gates ss ≡ placed_gates places order gates
all_stretches places order gates ss at ge h = h ∙ take_all at (placed_gates places order gates) (omega (arith, ge, length_placed places order gates))

-- ---- what the gates of a program read and drive

-- what holds of all gates of a program holds of those of a stretch
pub of_stretch : (P : Gate → Type 0) (ss : List GateStretch) (i : ℕ) (d : GateStretch) → i < length ss → All P (program_gates ss) →
    All P (stretch_gates (get_or ss i d))
of_stretch P ss i d lt h = All-from_recursion P (stretch_gates (get_or ss i d)) (go ss i lt (recursion_from_All P (program_gates ss) h))
  where
    front : (xs ys : List Gate) → AllByRecursion P (xs ++ ys) → AllByRecursion P xs
    front [] ys a = tt
    front (x ∷ xs) ys a = (a.0, front xs ys a.1)

    back : (xs ys : List Gate) → AllByRecursion P (xs ++ ys) → AllByRecursion P ys
    back [] ys a = a
    back (x ∷ xs) ys a = back xs ys a.1

    go : (ts : List GateStretch) (k : ℕ) → k < length ts → AllByRecursion P (program_gates ts) → AllByRecursion P (stretch_gates (get_or ts k d))
    go [] k small a = absurd (omega (arith, small))
    go (t ∷ ts) zero small a = front (stretch_gates t) (program_gates ts) a
    go (t ∷ ts) (suc k) small a = go ts k (omega (arith, small)) (back (stretch_gates t) (program_gates ts) a)

pub keeps_gates : (wide : ℕ) (old new : List ℕ) (gs : List Gate) → length new ≡ length old → All (HasGate wide old) gs → All (HasGate wide new) gs
keeps_gates wide old new gs size h = All-weaker (HasGate wide old) (HasGate wide new) (λ g k. gate_stays wide old new g size k) gs h

-- one stretch more is evaluated
pub one_stretch : (wide : ℕ) (ss : List GateStretch) (i : ℕ) (d : GateStretch) (old now new : List ℕ) (whole : ℕ → List Step) → i < length ss →
    RunsTo wide (λ r. map gate_write (program_gates (drop i ss))) whole old now →
    RunsAll wide (λ r. map gate_write (stretch_gates (get_or ss i d))) now new →
    RunsTo wide (λ r. map gate_write (program_gates (drop (i + 1) ss))) whole old new
one_stretch wide ss i d old now new whole lt h k =
    let here : List Step = map gate_write (stretch_gates (get_or ss i d)) in
    let rest : List Step = map gate_write (program_gates (drop (i + 1) ss)) in
    let parts : map gate_write (program_gates (drop i ss)) ≡ here ++ rest =
    ap (λ ts. map gate_write (program_gates ts)) (drop_more ss i d lt) ∙
    map-append gate_write (stretch_gates (get_or ss i d)) (program_gates (drop (i + 1) ss)) in
    record {
      size = k.size ∙ h.size;
      each =
          λ count r e small.
          ap (run rest) (k.each count r (h.size ∙ e) small)
          ∙ (sym (run-append here rest (lane wide count now r)) ∙ (ap (λ ts. run ts (lane wide count now r)) (sym parts) ∙ h.each count r e small));
    }
