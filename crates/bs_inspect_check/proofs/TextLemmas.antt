-- The lines of a text, one after another.
use Rattle.std.proofs.Common.{◌≡◌, ℕ, ◌<◌, ◌≤◌, ◌+◌, Bool, true, false, cond, List, [], ◌∷◌, ◌++◌, length, map, take, get_or, Option, Some, Result, Ok, Err, Vec, refl, ap, sym, subst, ◌∙◌, arith, append_assoc, append-nil, take_all}
use Rattle.std.specs.Prelude.{codes, count_by, slice_index_or}
use Rattle.std.specs.List.{flat_map}
use Rattle.std.specs.Result.{IfOk, OnOk}
use Rattle.std.specs.declared.alloc.Global.{Global}
use Rattle.std.proofs.lemmas.Grind.{flat_map-append}
use Rattle.std.proofs.lemmas.List.{get_or_default, take_more}
use Rattle.std.proofs.lemmas.List.Sums.{sum_by_more}
use Rattle.std.proofs.lemmas.Result.{IfOk-weaker}
use Rattle.bs_bits.specs.Lines.{line}
use Rattle.bs_bits.specs.declared.memory.NoMemory.{NoMemory}
use Rattle.bs_net.specs.Parts.{Parts}
use Rattle.bs_inspect_view.specs.Signals.{AreSignals, Signal, signal_in}
use Rattle.bs_inspect_view.specs.declared.signal.Signal.{Signal as CodeSignal}
use Rattle.bs_inspect_report.specs.Keys.{flop_keys, input_keys}
use Rattle.bs_inspect_check.specs.declared.comparison.Comparison.{Comparison}
use Rattle.bs_inspect_check.specs.declared.tally.CycleEnd.{CycleEnd}
use Rattle.bs_inspect_check.specs.Tallies.{one_if}
use Rattle.bs_inspect_check.specs.Text.{check_text, is_set, like_text, no_comparison, run_at, run_text, TellsCheck, word_line}

one_is : (b : Bool) → cond (is_set b) 1 0 ≡ one_if b
one_is true = refl
one_is false = refl

pub set_more : (bits : List Bool) (i count r : ℕ) (b : Bool) → i < length bits → count ≡ count_by is_set (take i bits) → b ≡ slice_index_or bits i false →
    r ≡ one_if b → count + r ≡ count_by is_set (take (i + 1) bits)
set_more bits i count r b lt e at one =
    let more : count_by is_set (take (i + 1) bits) ≡ count_by is_set (take i bits) + cond (is_set (get_or bits i false)) 1 0 =
    sum_by_more (λ (x : Bool). cond (is_set x) 1 0) bits i false lt in
    let last : cond (is_set (get_or bits i false)) 1 0 ≡ r = one_is (get_or bits i false) ∙ (ap one_if (sym at) ∙ sym one) in
    omega (arith, more, last, e)

pub set_all : (bits : List Bool) (i count : ℕ) → length bits ≤ i → count ≡ count_by is_set (take i bits) → count ≡ count_by is_set bits
set_all bits i count le e = e ∙ ap (count_by is_set) (take_all i bits le)

-- what one more appends
pub ends_more : (text_of : CycleEnd → List ℕ) (ends : List CycleEnd) (i : ℕ) (d : CycleEnd) (old text after : List ℕ) → i < length ends →
    text ≡ old ++ flat_map text_of (take i ends) → after ≡ text ++ text_of (get_or ends i d) → after ≡ old ++ flat_map text_of (take (i + 1) ends)
ends_more text_of ends i d old text after lt e goes =
    let put : flat_map text_of (take (i + 1) ends) ≡ flat_map text_of (take i ends) ++ text_of (get_or ends i d) =
    ap (flat_map text_of) (take_more ends i d lt)
    ∙ (flat_map-append text_of (take i ends) (get_or ends i d ∷ [])
    ∙ ap (λ (t : List ℕ). flat_map text_of (take i ends) ++ t) (append-nil (text_of (get_or ends i d)))) in
    goes
    ∙ (ap (λ (t : List ℕ). t ++ text_of (get_or ends i d)) e
    ∙ (append_assoc old (flat_map text_of (take i ends)) (text_of (get_or ends i d)) ∙ ap (λ (t : List ℕ). old ++ t) (sym put)))

pub run_there : (flops inputs : List Signal) (comparisons : List Comparison) (i : ℕ) (m : Comparison) (old after : List ℕ) → i < length comparisons →
    m ≡ get_or comparisons i m → after ≡ old ++ run_text flops inputs (i + 1) m → after ≡ old ++ run_at flops inputs comparisons i
run_there flops inputs comparisons i m old after lt at goes =
    goes ∙ ap (λ (x : Comparison). old ++ run_text flops inputs (i + 1) x) (at ∙ get_or_default comparisons i m no_comparison lt)

pub tells_check : (result : Result (Vec ℕ Global) NoMemory) (raw : Parts) (flops inputs slice : List CodeSignal) (comparisons : List Comparison) → slice ≡ inputs →
    AreSignals [] (flop_keys raw) (map signal_in flops) → AreSignals [] (input_keys raw) (map signal_in inputs) →
    IfOk result (λ text. text.items ≡ check_text (map signal_in flops) (map signal_in slice) comparisons) →
    IfOk result (λ text. TellsCheck raw comparisons text.items)
tells_check result raw flops inputs slice comparisons e stored given says =
    IfOk-weaker result (λ text. text.items ≡ check_text (map signal_in flops) (map signal_in slice) comparisons) (λ text. TellsCheck raw comparisons text.items)
    (λ text h. record {
      flops = map signal_in flops;
      inputs = map signal_in inputs;
      stored = stored;
      given = given;
      says = h ∙ ap (λ (s : List CodeSignal). check_text (map signal_in flops) (map signal_in s) comparisons) e;
    }) says

-- ---- pieces that are appended one after another

three : (old a b c t u v : List ℕ) → t ≡ old ++ a → u ≡ t ++ b → v ≡ u ++ c → v ≡ old ++ (a ++ (b ++ c))
three old a b c t u v et eu ev =
    ev
    ∙ (ap (λ (x : List ℕ). x ++ c) (eu ∙ ap (λ (x : List ℕ). x ++ b) et)
    ∙ (append_assoc (old ++ a) b c ∙ append_assoc old a (b ++ c)))

-- the last piece, which may fail
pub three_on : {A E : Type 0} (r : Result A E) (old a b c t u v : List ℕ) → t ≡ old ++ a → u ≡ t ++ b → OnOk r (v ≡ u ++ c) →
    OnOk r (v ≡ old ++ (a ++ (b ++ c)))
three_on (Ok x) old a b c t u v et eu ev = three old a b c t u v et eu ev
three_on (Err x) old a b c t u v et eu ev = ev

-- three pieces of a line, and its end, which may fail
pub line_of_three : {A E : Type 0} (r : Result A E) (old a b c t u v w : List ℕ) → t ≡ old ++ a → u ≡ t ++ b → v ≡ u ++ c →
    OnOk r (w ≡ v ++ 10 ∷ []) → OnOk r (w ≡ old ++ line (a ++ (b ++ c)))
line_of_three (Ok x) old a b c t u v w et eu ev ew =
    ew
    ∙ (ap (λ (x : List ℕ). x ++ 10 ∷ []) (three old a b c t u v et eu ev) ∙ append_assoc old (a ++ (b ++ c)) (10 ∷ []))
line_of_three (Err x) old a b c t u v w et eu ev ew = ew

-- four pieces of a line, and its end, which may fail
pub line_of_four : {A E : Type 0} (r : Result A E) (old a b c d t u v w z : List ℕ) → t ≡ old ++ a → u ≡ t ++ b → v ≡ u ++ c → w ≡ v ++ d →
    OnOk r (z ≡ w ++ 10 ∷ []) → OnOk r (z ≡ old ++ line (a ++ (b ++ (c ++ d))))
line_of_four r old a b c d t u v w z et eu ev ew ez =
    line_of_three r old a b (c ++ d) t u w z et eu (ew ∙ (ap (λ (x : List ℕ). x ++ d) ev ∙ append_assoc u c d)) ez

pub like_there : {A E : Type 0} (r : Result A E) (old after : List ℕ) (number i : ℕ) (like : Option ℕ) → like ≡ Some i →
    OnOk r (after ≡ old ++ word_line number (codes " inputs of run ") (i + 1)) → OnOk r (after ≡ old ++ like_text number like)
like_there r old after number i like e goes =
    subst (λ (o : Option ℕ). OnOk r (after ≡ old ++ like_text number o)) (sym e) goes
