-- The nearest to each of some states.
use Rattle.std.proofs.Common.{◌≡◌, ◌≢◌, ℕ, ◌<◌, ◌≤◌, ◌+◌, ◌-◌, List, [], ◌∷◌, ◌++◌, length, replicate, get_or, set, Option, Some, None}
use Rattle.std.proofs.Common.{refl, ap, sym, subst, ◌∙◌, ◌⊎◌, ⊎_elim, arith}
use Rattle.std.specs.Prelude.{All}
use Rattle.std.proofs.lemmas.Bool.{cases_eq}
use Rattle.std.proofs.lemmas.List.{get_or_append_left, get_or-replicate, get_or-set_other, get_or-set_same, get_or_default, get_or_push, length-replicate, length-set, length_push}
use Rattle.bs_net.specs.Circuit.{Circuit}
use Rattle.bs_net.specs.Order.{IsBounded}
use Rattle.bs_net.specs.declared.limits.TheConstants.{MAX_FLOPS}
use Rattle.bs_scan.specs.declared.seen.Seen.{Seen}
use Rattle.bs_stim.specs.Runs.{IsStimulus, Stimulus, inputs_of}
use Rattle.bs_scan.specs.Moments.{Run, moment}
use Rattle.bs_chip.specs.Lockstep.{IsLongest}
use Rattle.bs_inspect_near.specs.Nearest.{AreNearest, IsNearest, no_near, no_state}
use Rattle.bs_inspect_near.specs.Visited.{AreBest, AreFound, FoundNearest, IsBest}
use Rattle.bs_inspect_near.specs.declared.search.Near.{Near}
use Rattle.bs_inspect_near.proofs.SearchLemmas.{all_visited, best_none, best_whole, first_there}

-- ---- the netlist, and how wide states are

pub flops_few : (c : Circuit) → IsBounded c → length c.flops ≤ MAX_FLOPS
flops_few c bounded = bounded.few_flops

pub state_wide : (states : List Seen) (i width : ℕ) (s : Seen) → All (λ s. length s.bits ≡ width) states → i < length states →
    s ≡ get_or states i s → length s.bits ≡ width
state_wide states i width s wide lt at = ap (λ (t : Seen). length t.bits) at ∙ wide i s lt

pub state_few : (c : Circuit) (s : Seen) → length s.bits ≡ length c.flops → length c.flops ≤ MAX_FLOPS → length s.bits ≤ MAX_FLOPS
state_few c s size few = omega (arith, size, few)

state_here : (states : List Seen) (i : ℕ) (s : Seen) → i < length states → s ≡ get_or states i s → get_or states i no_state ≡ s
state_here states i s lt at = sym (at ∙ get_or_default states i s no_state lt)

-- ---- one state after another, at a cycle

-- the first states are done with the cycle, and the others are not
pub record EachSo (c : Circuit) (runs : List Run) (states : List Seen) (cycle i : ℕ) (bests : List (Option Near)) : Type 0 where
  pub count : length bests ≡ length states
  pub done : (j : ℕ) → j < i → IsBest c runs (get_or states j no_state) (cycle + 1) 0 (get_or bests j None)
  pub due : (j : ℕ) → i ≤ j → j < length states → IsBest c runs (get_or states j no_state) cycle 0 (get_or bests j None)

pub each_begin : (c : Circuit) (runs : List Run) (states : List Seen) (cycle : ℕ) (bests : List (Option Near)) → AreBest c runs states cycle bests →
    EachSo c runs states cycle 0 bests
each_begin c runs states cycle bests so = record {
  count = so.count;
  done = λ j lt. absurd (omega (arith, lt));
  due = λ j le lt. so.each j lt;
}

pub each_room : (c : Circuit) (runs : List Run) (states : List Seen) (cycle i : ℕ) (bests : List (Option Near)) →
    EachSo c runs states cycle i bests → i < length states → i < length bests
each_room c runs states cycle i bests so lt = omega (arith, so.count, lt)

pub each_due : (c : Circuit) (runs : List Run) (states : List Seen) (cycle i : ℕ) (bests : List (Option Near)) (s : Seen) (old : Option Near) →
    EachSo c runs states cycle i bests → i < length states → s ≡ get_or states i s → old ≡ get_or bests i old → IsBest c runs s cycle 0 old
each_due c runs states cycle i bests s old so lt at is =
    let here : get_or bests i None ≡ old = sym (is ∙ get_or_default bests i old None (omega (arith, so.count, lt))) in
    subst (λ (t : Seen). IsBest c runs t cycle 0 old) (state_here states i s lt at)
    (subst (λ (o : Option Near). IsBest c runs (get_or states i no_state) cycle 0 o) here (so.due i (omega arith) lt))

pub each_more : (c : Circuit) (runs : List Run) (states : List Seen) (cycle i : ℕ) (bests : List (Option Near)) (s : Seen) (best : Option Near) →
    EachSo c runs states cycle i bests → i < length states → s ≡ get_or states i s → IsBest c runs s (cycle + 1) 0 best →
    EachSo c runs states cycle (i + 1) (set bests i best)
each_more c runs states cycle i bests s best so lt at is = record {
  count = length-set bests i best ∙ so.count;
  done = λ j less. ⊎_elim (λ (same : j ≡ i). here j same) (λ (other : j ≢ i). before j less other) (cases_eq j i);
  due =
      λ j le there.
      let other : j ≢ i = λ same. absurd (omega (arith, le, same)) in
      subst (λ (o : Option Near). IsBest c runs (get_or states j no_state) cycle 0 o) (sym (get_or-set_other bests i j best None other))
      (so.due j (omega (arith, le)) there);
}
  where
    here : (j : ℕ) → j ≡ i → IsBest c runs (get_or states j no_state) (cycle + 1) 0 (get_or (set bests i best) j None)
    here j same =
        let put : best ≡ get_or (set bests i best) j None =
        sym (ap (λ (n : ℕ). get_or (set bests i best) n None) same ∙ get_or-set_same bests i best None (omega (arith, so.count, lt))) in
        let state : s ≡ get_or states j no_state = sym (ap (λ (n : ℕ). get_or states n no_state) same ∙ state_here states i s lt at) in
        subst (λ (o : Option Near). IsBest c runs (get_or states j no_state) (cycle + 1) 0 o) put
        (subst (λ (t : Seen). IsBest c runs t (cycle + 1) 0 best) state is)

    before : (j : ℕ) → j < i + 1 → j ≢ i → IsBest c runs (get_or states j no_state) (cycle + 1) 0 (get_or (set bests i best) j None)
    before j less other =
        subst (λ (o : Option Near). IsBest c runs (get_or states j no_state) (cycle + 1) 0 o) (sym (get_or-set_other bests i j best None other))
        (so.done j (omega (arith, less, other)))

pub each_all : (c : Circuit) (runs : List Run) (states : List Seen) (cycle i : ℕ) (bests : List (Option Near)) → length states ≤ i →
    EachSo c runs states cycle i bests → AreBest c runs states (cycle + 1) bests
each_all c runs states cycle i bests le so = record {
  count = so.count;
  each = λ j lt. so.done j (omega (arith, lt, le));
}

-- ---- cycle by cycle

pub bests_none : (c : Circuit) (runs : List Run) (states : List Seen) (count : ℕ) (bests : List (Option Near)) → count ≡ length states →
    bests ≡ replicate count None → AreBest c runs states 0 bests
bests_none c runs states count bests e is = record {
  count = ap length is ∙ (length-replicate {A = Option Near} count None ∙ e);
  each = λ i lt.
      let none : None ≡ get_or bests i None =
      sym (ap (λ (os : List (Option Near)). get_or os i None) is ∙ get_or-replicate {A = Option Near} count i None None (omega (arith, e, lt))) in
      subst (λ (o : Option Near). IsBest c runs (get_or states i no_state) 0 0 o) none (best_none c runs (get_or states i no_state));
}

pub found_all : (c : Circuit) (s : Stimulus) (states : List Seen) (cycle most : ℕ) (bests : List (Option Near)) → IsStimulus s → most + 1 ≤ cycle →
    IsLongest (inputs_of s) most → AreBest c (inputs_of s) states cycle bests → AreFound c (inputs_of s) states bests
found_all c s states cycle most bests sound le longest so = record {
  count = so.count;
  each = λ i lt. by (get_or states i no_state) (get_or bests i None) (so.each i lt);
}
  where
    by : (seen : Seen) (o : Option Near) → IsBest c (inputs_of s) seen cycle 0 o → FoundNearest c (inputs_of s) seen o
    by seen None is = is.is.is (moment 1 0) (first_there s sound) (all_visited (inputs_of s) cycle most (moment 1 0) le longest (first_there s sound))
    by seen (Some near) is = best_whole c (inputs_of s) seen cycle most (Some near) near le longest refl is

-- ---- what was found

pub found_slice : (c : Circuit) (runs : List Run) (states : List Seen) (bests slice : List (Option Near)) → slice ≡ bests →
    AreFound c runs states bests → AreFound c runs states slice
found_slice c runs states bests slice e found = subst (λ (os : List (Option Near)). AreFound c runs states os) (sym e) found

pub found_some : (c : Circuit) (runs : List Run) (states : List Seen) (i : ℕ) (bests : List (Option Near)) (best : Option Near) →
    AreFound c runs states bests → i < length bests → best ≡ get_or bests i best → best ≢ None
found_some c runs states i bests best so lt at none =
    let here : get_or bests i None ≡ None = sym (at ∙ get_or_default bests i best None lt) ∙ none in
    (let is : FoundNearest c runs (get_or states i no_state) None =
    subst (λ (o : Option Near). FoundNearest c runs (get_or states i no_state) o) here (so.each i (omega (arith, so.count, lt))) in is)

-- so many of them are taken
pub record NearsSo (c : Circuit) (runs : List Run) (states : List Seen) (i : ℕ) (nears : List Near) : Type 0 where
  pub count : length nears ≡ i
  pub each : (j : ℕ) → j < i → IsNearest c runs (get_or states j no_state) (get_or nears j no_near)

pub nears_begin : (c : Circuit) (runs : List Run) (states : List Seen) (nears : List Near) → nears ≡ [] → NearsSo c runs states 0 nears
nears_begin c runs states nears none = record {
  count = ap length none;
  each = λ j lt. absurd (omega (arith, lt));
}

pub nears_more : (c : Circuit) (runs : List Run) (states : List Seen) (i : ℕ) (bests : List (Option Near)) (best : Option Near) (near : Near) (nears after : List Near) →
    AreFound c runs states bests → i < length bests → best ≡ get_or bests i best → best ≡ Some near → after ≡ nears ++ near ∷ [] →
    NearsSo c runs states i nears → NearsSo c runs states (i + 1) after
nears_more c runs states i bests best near nears after found lt at is goes so = record {
  count = ap length goes ∙ (length_push nears near ∙ ap (λ (n : ℕ). n + 1) so.count);
  each = λ j less.
      subst (λ (ns : List Near). IsNearest c runs (get_or states j no_state) (get_or ns j no_near)) (sym goes)
      (⊎_elim (λ (same : j ≡ i). here j same) (λ (other : j ≢ i). before j less other) (cases_eq j i));
}
  where
    nearest : IsNearest c runs (get_or states i no_state) near
    nearest =
        let this : get_or bests i None ≡ Some near = sym (at ∙ get_or_default bests i best None lt) ∙ is in
        (let one : FoundNearest c runs (get_or states i no_state) (Some near) =
        subst (λ (o : Option Near). FoundNearest c runs (get_or states i no_state) o) this (found.each i (omega (arith, found.count, lt))) in one)

    here : (j : ℕ) → j ≡ i → IsNearest c runs (get_or states j no_state) (get_or (nears ++ near ∷ []) j no_near)
    here j same =
        let put : near ≡ get_or (nears ++ near ∷ []) j no_near = sym (get_or_push nears near no_near j (so.count ∙ sym same)) in
        subst (λ (n : Near). IsNearest c runs (get_or states j no_state) n) put
        (subst (λ (n : ℕ). IsNearest c runs (get_or states n no_state) near) (sym same) nearest)

    before : (j : ℕ) → j < i + 1 → j ≢ i → IsNearest c runs (get_or states j no_state) (get_or (nears ++ near ∷ []) j no_near)
    before j less other =
        let low : j < i = omega (arith, less, other) in
        subst (λ (n : Near). IsNearest c runs (get_or states j no_state) n) (sym (get_or_append_left nears (near ∷ []) no_near j (omega (arith, low, so.count))))
        (so.each j low)

pub nears_all : (c : Circuit) (runs : List Run) (states : List Seen) (i : ℕ) (bests : List (Option Near)) (nears : List Near) →
    AreFound c runs states bests → length bests ≤ i → i ≤ length bests → NearsSo c runs states i nears → AreNearest c runs states nears
nears_all c runs states i bests nears found le ge so = record {
  count = omega (arith, so.count, found.count, le, ge);
  each = λ j lt. so.each j (omega (arith, lt, found.count, le));
}
