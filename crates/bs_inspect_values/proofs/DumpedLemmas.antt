-- The clock of a netlist, and how many bits a state has.
use Rattle.std.proofs.Common.{◌≡◌, ℕ, ◌≤◌, Bool, List, [], length, map, slice_get, Option, Some, Bor, Result, Ok, Err, ap, sym, subst, ◌∙◌}
use Rattle.std.specs.List.{All}
use Rattle.std.specs.Result.{IfOk}
use Rattle.std.proofs.lemmas.List.{get_or_past, length-map}
use Rattle.std.proofs.lemmas.Result.{IfOk-at_ok}
use Rattle.std.proofs.lemmas.Option.{get_or_from_slice_get}
use Rattle.bs_bits.specs.Lines.{lines_of}
use Rattle.bs_bits.specs.Reading.{◌>>=◌}
use Rattle.bs_net.specs.declared.net.NetId.{NetId}
use Rattle.bs_net.specs.declared.net.Flop.{Flop}
use Rattle.bs_net.specs.Netlist.{circuit_of}
use Rattle.bs_net.specs.Parts.{Parts, key_at}
use Rattle.bs_vcd.specs.declared.cycles.MarkedStates.{MarkedStates}
use Rattle.bs_inspect_notes.specs.declared.name.Subject.{Subject}
use Rattle.bs_inspect_report.specs.Keys.{flop_keys}
use Rattle.bs_outside.specs.Plan.{Reason}
use Rattle.bs_outside.specs.declared.diagnostic.WalkStop.{WalkStop}
use Rattle.bs_top_files.specs.Causes.{Case, with_reason}
use Rattle.bs_inspect_names.specs.declared.fault.MapFault.{MapFault}
use Rattle.bs_inspect_names.specs.Mapping.{MapEntry, entries_from, name_of, names_of}
use Rattle.bs_inspect_values.specs.Saying.{map_reason}
use Rattle.bs_inspect_values.specs.Simulated.{clock_key, names_read}

-- ---- the clock

pub clock_there : (r parts : Parts) (clock : NetId) (key : List ℕ) → r ≡ parts → clock ≡ (circuit_of parts).clock → slice_get r.names clock.0 ≡ Some key →
    key ≡ clock_key parts
clock_there r parts clock key same is e = sym (get_or_from_slice_get r.names clock.0 key [] e) ∙ (λ i. key_at (same i) (is i).0)

pub clock_past : (r parts : Parts) (clock : NetId) → r ≡ parts → clock ≡ (circuit_of parts).clock → length r.names ≤ clock.0 → [] ≡ clock_key parts
clock_past r parts clock same is le = sym (get_or_past r.names clock.0 [] le) ∙ (λ i. key_at (same i) (is i).0)

-- ---- the states

abbrev Texts : Type 0
Texts = List (Bor (List ℕ))

pub flops_wide : (keys slice : Texts) (raw : Parts) (r : Result MarkedStates WalkStop) → slice ≡ keys → map (λ k. k.now) keys ≡ flop_keys raw →
    IfOk r (λ taken. All (λ s. length s ≡ length slice) taken.states) → IfOk r (λ taken. All (λ s. length s ≡ length raw.flops) taken.states)
flops_wide keys slice raw r same is wide =
    let shown : Bor (List ℕ) → List ℕ = λ (k : Bor (List ℕ)). k.now in
    let each : length slice ≡ length raw.flops =
    ap length same ∙ (sym (length-map keys shown) ∙ (ap length is ∙ length-map raw.flops (λ (f : Flop). key_at raw f.q.0))) in
    subst (λ (n : ℕ). IfOk r (λ taken. All (λ s. length s ≡ n) taken.states)) each wide

-- a name for each key
each_named : (reason : MapFault → Reason Case) (keys names : List (List ℕ)) (r : Result (List MapEntry) MapFault) →
    with_reason reason (r >>= λ es. Ok (names_of es keys)) ≡ Ok names → length names ≡ length keys
each_named reason keys names (Ok es) e = IfOk-at_ok (λ (ns : List (List ℕ)). length ns ≡ length keys) e (length-map keys (name_of es))
each_named reason keys names (Err fault) e = absurd cc

pub names_wide : (subject : Subject) (path : List ℕ) (keys : Texts) (names : List (List ℕ)) (text : List ℕ) (r : Result MarkedStates WalkStop) →
    names_read subject path (map (λ k. k.now) keys) text ≡ Ok names →
    IfOk r (λ taken. All (λ s. length s ≡ length names) taken.states) → IfOk r (λ taken. All (λ s. length s ≡ length keys) taken.states)
names_wide subject path keys names text r is wide =
    let shown : Bor (List ℕ) → List ℕ = λ (k : Bor (List ℕ)). k.now in
    let each : length names ≡ length keys =
    each_named (map_reason subject path text (map shown keys)) (map shown keys) names (entries_from (map shown keys) [] (lines_of text)) is ∙ length-map keys shown in
    subst (λ (n : ℕ). IfOk r (λ taken. All (λ s. length s ≡ n) taken.states)) each wide

-- the names as slices
pub slices_wide : (names : List (List ℕ)) (slices slice : Texts) (r : Result MarkedStates WalkStop) → slice ≡ slices → map (λ n. n.now) slices ≡ names →
    IfOk r (λ taken. All (λ s. length s ≡ length slice) taken.states) → IfOk r (λ taken. All (λ s. length s ≡ length names) taken.states)
slices_wide names slices slice r same is wide =
    let shown : Bor (List ℕ) → List ℕ = λ (k : Bor (List ℕ)). k.now in
    let each : length slice ≡ length names = ap length same ∙ (sym (length-map slices shown) ∙ ap length is) in
    subst (λ (n : ℕ). IfOk r (λ taken. All (λ s. length s ≡ n) taken.states)) each wide

pub choice_wide : (states : List (List Bool)) (n m : ℕ) → n ≡ m → All (λ s. length s ≡ m) states → All (λ s. length s ≡ n) states
choice_wide states n m e all = subst (λ (k : ℕ). All (λ s. length s ≡ k) states) (sym e) all
