-- Whether a netlist goes through a trace, state by state.
use Rattle.std.proofs.Common.{◌≡◌, ◌↔◌, ℕ, ◌<◌, ◌≤◌, ◌+◌, ◌-◌, Bool, List, [], length, get_or, IsTrue, refl, ap, sym, subst, ◌∙◌, ⊎_elim, arith, add-one, Option}
use Rattle.std.specs.Prelude.{All}
use Rattle.std.proofs.lemmas.Bool.{cases_lt}
use Rattle.std.proofs.lemmas.List.{get_or_default}
use Rattle.bs_net.specs.Circuit.{Circuit, next, reset_state}
use Rattle.bs_net.specs.Netlist.{circuit_of}
use Rattle.bs_net.specs.Parts.{Parts}
use Rattle.bs_scan.specs.Moments.{Moment, Run, state_at}
use Rattle.bs_report.specs.declared.report.Report.{Report}
use Rattle.bs_inspect_report_texts.specs.Bench.{Drives, IsBench, StraysAt}
use Rattle.bs_inspect_report_texts.specs.Driven.{GoesOn, GoesThrough, IsAstray, IsThere, begin_of, cycles_before, driven}
use Rattle.bs_inspect_report_texts.proofs.DriveLemmas.{driven_long}

-- ---- one cycle

pub input_wide : (n : ℕ) (inputs : Run) (i : ℕ) (x : List Bool) → All (λ y. length y ≡ n) inputs → i < length inputs → x ≡ get_or inputs i x → length x ≡ n
input_wide n inputs i x wide lt e = ap length e ∙ wide i x lt

pub state_first : (c : Circuit) (inputs : Run) (state : List Bool) → state ≡ reset_state c → state ≡ state_at c inputs 0
unfolding state_at
state_first c inputs state e = e

step_is : (c : Circuit) (inputs : Run) (k : ℕ) (s x : List Bool) → s ≡ state_at c inputs k → x ≡ get_or inputs k [] → next c s x ≡ state_at c inputs (k + 1)
unfolding state_at
step_is c inputs k s x e f = rw (e, f, add-one) refl

pub state_more : (c : Circuit) (inputs : Run) (k : ℕ) (s x after : List Bool) → k < length inputs → s ≡ state_at c inputs k → x ≡ get_or inputs k x →
    after ≡ next c s x → after ≡ state_at c inputs (k + 1)
state_more c inputs k s x after lt e f goes = goes ∙ step_is c inputs k s x e (f ∙ get_or_default inputs k x [] lt)

-- ---- the states of the trace

pub stands_there : (now state : List Bool) (states : List (List Bool)) (i : ℕ) (b : Bool) → i < length states → state ≡ get_or states i state →
    (IsTrue b ↔ (now ≡ state)) → (IsTrue b ↔ (now ≡ get_or states i []))
stands_there now state states i b lt e h =
    let same : state ≡ get_or states i [] = e ∙ get_or_default states i state [] lt in
    (λ is. h.0 is ∙ same, λ f. h.1 (f ∙ sym same))

pub goes_first : (c : Circuit) (inputs : Run) (cycles : ℕ) (states : List (List Bool)) (state : List Bool) → state ≡ state_at c inputs cycles →
    state ≡ get_or states 0 [] → GoesThrough c inputs cycles states 1
goes_first c inputs cycles states state e f = record {
  each = λ i lt.
      let here : cycles + i ≡ cycles = omega (arith, lt) in
      let first : 0 ≡ i = omega (arith, lt) in
      ap (state_at c inputs) here ∙ (sym e ∙ (f ∙ ap (λ (k : ℕ). get_or states k []) first));
}

pub goes_more : (c : Circuit) (inputs : Run) (cycles : ℕ) (states : List (List Bool)) (state : List Bool) (i n : ℕ) → GoesThrough c inputs cycles states (i + 1) →
    n ≡ cycles + i → state ≡ state_at c inputs (n + 1) → state ≡ get_or states (i + 1) [] → GoesThrough c inputs cycles states (i + 1 + 1)
goes_more c inputs cycles states state i n through at e f = record {
  each = λ k lt.
      ⊎_elim
      (λ (before : k < i + 1). through.each k before)
      (λ (le : i + 1 ≤ k).
      let here : cycles + k ≡ n + 1 = omega (arith, lt, le, at) in
      let same : i + 1 ≡ k = omega (arith, lt, le) in
      ap (state_at c inputs) here ∙ (sym e ∙ (f ∙ ap (λ (j : ℕ). get_or states j []) same)))
      (cases_lt k (i + 1));
}

pub goes_on : (c : Circuit) (inputs : Run) (cycles : ℕ) (states : List (List Bool)) (i : ℕ) → length states ≤ i + 1 →
    GoesThrough c inputs cycles states (i + 1) → GoesOn c inputs cycles states
goes_on c inputs cycles states i le through = record { each = λ k lt. through.each k (omega (arith, lt, le)) }

pub astray_first : (c : Circuit) (inputs : Run) (cycles : ℕ) (states : List (List Bool)) (state : List Bool) → 0 < length states →
    state ≡ state_at c inputs cycles → (state ≡ get_or states 0 [] → ⊥) → IsAstray c inputs cycles states 0
astray_first c inputs cycles states state some e other = record {
  there = some;
  other = λ f.
      let here : cycles + 0 ≡ cycles = omega arith in
      other (e ∙ (sym (ap (state_at c inputs) here) ∙ f));
  before = record { each = λ i lt. absurd (omega (arith, lt)) };
}

pub astray_later : (c : Circuit) (inputs : Run) (cycles : ℕ) (states : List (List Bool)) (state : List Bool) (i n : ℕ) → i + 1 < length states →
    GoesThrough c inputs cycles states (i + 1) → n ≡ cycles + i → state ≡ state_at c inputs (n + 1) → (state ≡ get_or states (i + 1) [] → ⊥) →
    IsAstray c inputs cycles states (i + 1)
astray_later c inputs cycles states state i n lt through at e other = record {
  there = lt;
  other = λ f.
      let here : n + 1 ≡ cycles + (i + 1) = omega (arith, at) in
      other (e ∙ (ap (state_at c inputs) here ∙ f));
  before = through;
}

-- ---- the answer

-- the inputs are those that are to be driven
through_is : (c : Circuit) (runs : List Run) (r : Report) → length r.states ≡ length r.inputs + 1 → IsThere runs (begin_of r) →
    GoesOn c (driven runs r) (cycles_before (begin_of r)) r.states →
    state_at c (driven runs r) (length (driven runs r)) ≡ get_or r.states (length r.inputs) []
through_is c runs r more at through =
    ap (state_at c (driven runs r)) (driven_long runs r at) ∙ through.each (length r.inputs) (omega (arith, more))

bench_of : (raw : Parts) (runs : List Run) (r : Report) (top text : List ℕ) → length r.states ≡ length r.inputs + 1 → IsThere runs (begin_of r) →
    Drives raw top (driven runs r) text → GoesOn (circuit_of raw) (driven runs r) (cycles_before (begin_of r)) r.states → IsBench raw runs r top text
bench_of raw runs r top text more at drives through = record { drives = drives; through = through; ends = through_is (circuit_of raw) runs r more at through }

-- there is a state for each cycle from the trace's first one on
pub long_is : (runs : List Run) (r : Report) (inputs : Run) (cycles : ℕ) (b : Option Moment) → b ≡ begin_of r → IsThere runs b → cycles ≡ cycles_before b →
    inputs ≡ driven runs r → length r.states ≡ length r.inputs + 1 → length inputs + 1 ≡ cycles + length r.states
long_is runs r inputs cycles b is at f e more =
    let whole = driven_long runs r (subst (IsThere runs) is at) in
    let before : cycles ≡ cycles_before (begin_of r) = f ∙ ap cycles_before is in
    omega (arith, whole, before, ap length e, more)

pub bench_is : (raw : Parts) (runs : List Run) (r : Report) (top text : List ℕ) (inputs : Run) (cycles : ℕ) (b : Option Moment) → b ≡ begin_of r →
    IsThere runs b → cycles ≡ cycles_before b → inputs ≡ driven runs r → length r.states ≡ length r.inputs + 1 → Drives raw top inputs text →
    GoesOn (circuit_of raw) inputs cycles r.states → IsBench raw runs r top text
bench_is raw runs r top text inputs cycles b is at f e more drives through =
    bench_of raw runs r top text more (subst (IsThere runs) is at) (subst (λ (run : Run). Drives raw top run text) e drives)
    (subst (λ (k : ℕ). GoesOn (circuit_of raw) (driven runs r) k r.states) (f ∙ ap cycles_before is)
    (subst (λ (run : Run). GoesOn (circuit_of raw) run cycles r.states) e through))

pub strays_at : (raw : Parts) (runs : List Run) (r : Report) (inputs : Run) (cycles i : ℕ) (b : Option Moment) → b ≡ begin_of r → IsThere runs b →
    cycles ≡ cycles_before b → inputs ≡ driven runs r → IsAstray (circuit_of raw) inputs cycles r.states i → StraysAt raw runs r i
strays_at raw runs r inputs cycles i b is at f e astray = record {
  begins = subst (IsThere runs) is at;
  astray = subst (λ (k : ℕ). IsAstray (circuit_of raw) (driven runs r) k r.states i) (f ∙ ap cycles_before is)
      (subst (λ (run : Run). IsAstray (circuit_of raw) run cycles r.states i) e astray);
}

pub not_there : (runs : List Run) (r : Report) (b : Option Moment) → b ≡ begin_of r → (IsThere runs b → ⊥) → IsThere runs (begin_of r) → ⊥
not_there runs r b is never at = never (subst (IsThere runs) (sym is) at)
