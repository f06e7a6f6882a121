-- What a test bench drives, and the moment at which its trace begins.
use Rattle.std.proofs.Common.{◌≡◌, ◌↔◌, ℕ, ◌<◌, ◌≤◌, ◌+◌, ◌-◌, nat_le, Bool, true, false, List, [], ◌∷◌, ◌++◌, length, take, get_or, IsTrue, refl, ap, sym, subst, ◌∙◌, arith}
use Rattle.std.proofs.Common.{append_assoc, append-nil, take_all, Option, Some, None}
use Rattle.std.specs.Prelude.{filter_map, option_map, All}
use Rattle.std.specs.List.{cons_option, last_or}
use Rattle.std.specs.Option.{option_or}
use Rattle.std.proofs.lemmas.Bool.{false≢true, le-leb, leb-true}
use Rattle.std.proofs.lemmas.List.{length-append, length-map, length-take-le, take_more}
use Rattle.std.proofs.lemmas.List.Elements.{All-append, All-get_or, All-take, filter_map-append}
use Rattle.bs_stim.specs.Runs.{IsRecorded, IsStimulus, Recorded, Stimulus, inputs_of, no_run, run_at}
use Rattle.bs_scan.specs.Moments.{IsMoment, Moment, Run, moment, run_of}
use Rattle.bs_scan.proofs.CrashLemmas.{placed_is, run_inputs}
use Rattle.bs_report.specs.declared.report.HitLine.{HitLine}
use Rattle.bs_report.specs.declared.report.Report.{Report}
use Rattle.bs_report.specs.declared.report.Step.{Step}
use Rattle.bs_report.specs.GoodLaw.{last_hit}
use Rattle.bs_inspect_report_texts.specs.Driven.{IsThere, begin_of, cycles_before, driven, driven_from}

-- ---- the last hit

abbrev moment_in : HitLine → Moment
moment_in hit = moment hit.run hit.cycle

-- the moment of the last hit of some steps
abbrev pub begun : List Step → Option Moment
begun steps = option_map (λ hit. moment hit.run hit.cycle) (last_hit steps)

last_push : (o : Option HitLine) (hits : List HitLine) (h : Option HitLine) → last_or o (hits ++ cons_option h []) ≡ option_or h (last_or o hits)
last_push o [] None = refl
last_push o [] (Some hit) = refl
last_push o (first ∷ hits) h = last_push (Some first) hits h

either_map : (h o : Option HitLine) → option_map moment_in (option_or h o) ≡ option_or (option_map moment_in h) (option_map moment_in o)
either_map None o = refl
either_map (Some hit) o = refl

begun_push : (steps : List Step) (step : Step) → begun (steps ++ step ∷ []) ≡ option_or (option_map moment_in step.hit) (begun steps)
begun_push steps step =
    ap (λ (hits : List HitLine). option_map moment_in (last_or None hits)) (filter_map-append (λ (s : Step). s.hit) steps (step ∷ []))
    ∙ (ap (option_map moment_in) (last_push None (filter_map (λ (s : Step). s.hit) steps) step.hit) ∙ either_map step.hit (last_hit steps))

pub begin_none : (steps : List Step) → None ≡ begun (take 0 steps)
begin_none steps = refl

pub begin_more : (steps : List Step) (i : ℕ) (step : Step) (found after : Option Moment) → i < length steps → step ≡ get_or steps i step →
    found ≡ begun (take i steps) → after ≡ option_or (option_map (λ hit. moment hit.run hit.cycle) step.hit) found → after ≡ begun (take (i + 1) steps)
begin_more steps i step found after lt at e goes =
    let more : take (i + 1) steps ≡ take i steps ++ step ∷ [] =
    take_more steps i step lt ∙ ap (λ (s : Step). take i steps ++ s ∷ []) (sym at) in
    goes ∙ (ap (option_or (option_map moment_in step.hit)) e ∙ (sym (begun_push (take i steps) step) ∙ ap begun (sym more)))

pub begin_all : (r : Report) (i : ℕ) (found : Option Moment) → length r.steps ≤ i → found ≡ begun (take i r.steps) → found ≡ begin_of r
begin_all r i found le e = e ∙ ap begun (take_all i r.steps le)

-- ---- whether the runs have it

pub moment_early : (runs : List Run) (m : Moment) → m.run < 1 → IsTrue false ↔ IsMoment runs m
moment_early runs m lt = (λ is. absurd (false≢true is), λ at. absurd (omega (arith, lt, at.from_one)))

pub moment_late : (s : Stimulus) (m : Moment) (n : ℕ) → n ≡ length s.runs → n < m.run → IsTrue false ↔ IsMoment (inputs_of s) m
moment_late s m n e lt =
    (λ is. absurd (false≢true is), λ at. absurd (omega (arith, e, lt, at.recorded, length-map s.runs (λ (run : Recorded). run.inputs))))

pub moment_there : (s : Stimulus) (m : Moment) (n k : ℕ) → 1 ≤ m.run → n ≡ length s.runs → m.run ≤ n → k ≡ length (run_at s m.run).inputs →
    IsTrue (nat_le m.cycle k) ↔ IsMoment (inputs_of s) m
moment_there s m n k from e there lasts = (
  λ is. placed_is s m.run m.cycle from (omega (arith, e, there)) (omega (arith, lasts, leb-true m.cycle k is)),
  λ at. le-leb m.cycle k (omega (arith, lasts, at.lasts, ap length (run_inputs s m.run))),
)

pub none_there : (runs : List Run) → IsTrue true ↔ IsThere runs None
none_there runs = (λ is. tt, λ at. refl)

-- ---- what is driven

pub run_there : (s : Stimulus) (m : Moment) → IsMoment (inputs_of s) m → m.run ≤ length s.runs
run_there s m at = omega (arith, at.recorded, length-map s.runs (λ (run : Recorded). run.inputs))

pub cycle_there : (s : Stimulus) (m : Moment) (cycle : ℕ) → IsMoment (inputs_of s) m → cycle < m.cycle → cycle < length (run_at s m.run).inputs
cycle_there s m cycle at lt = omega (arith, lt, at.lasts, ap length (run_inputs s m.run))

pub recorded_more : (s : Stimulus) (m : Moment) (cycle : ℕ) (old into after : List (List Bool)) (input : List Bool) → IsMoment (inputs_of s) m →
    cycle < m.cycle → into ≡ old ++ take cycle (run_of (inputs_of s) m.run) → input ≡ get_or (run_at s m.run).inputs cycle [] → after ≡ into ++ input ∷ [] →
    after ≡ old ++ take (cycle + 1) (run_of (inputs_of s) m.run)
recorded_more s m cycle old into after input at lt e is goes =
    let run : Run = run_of (inputs_of s) m.run in
    let same : input ≡ get_or run cycle [] = is ∙ ap (λ (r : Run). get_or r cycle []) (sym (run_inputs s m.run)) in
    goes
    ∙ ((λ j. e j ++ same j ∷ [])
    ∙ (append_assoc old (take cycle run) (get_or run cycle [] ∷ [])
    ∙ ap (λ (xs : Run). old ++ xs) (sym (take_more run cycle [] (omega (arith, lt, at.lasts))))))

pub recorded_none : (run : Run) (old into : List (List Bool)) → into ≡ old → into ≡ old ++ take 0 run
recorded_none run old into e = e ∙ sym (append-nil old)

pub copies_more : (inputs : List (List Bool)) (i : ℕ) (d : List Bool) (old into after : List (List Bool)) (input : List Bool) → i < length inputs →
    into ≡ old ++ take i inputs → input ≡ get_or inputs i d → after ≡ into ++ input ∷ [] → after ≡ old ++ take (i + 1) inputs
copies_more inputs i d old into after input lt e is goes =
    goes
    ∙ ((λ j. e j ++ is j ∷ [])
    ∙ (append_assoc old (take i inputs) (get_or inputs i d ∷ []) ∙ ap (λ (xs : List (List Bool)). old ++ xs) (sym (take_more inputs i d lt))))

pub copies_all : (inputs : List (List Bool)) (i : ℕ) (old into : List (List Bool)) → length inputs ≤ i → into ≡ old ++ take i inputs → into ≡ old ++ inputs
copies_all inputs i old into le e = e ∙ ap (λ (xs : List (List Bool)). old ++ xs) (take_all i inputs le)

pub driven_appended : (runs : List Run) (inputs : List (List Bool)) (m : Moment) (old into after : List (List Bool)) →
    into ≡ old ++ take m.cycle (run_of runs m.run) → after ≡ into ++ inputs → after ≡ old ++ driven_from runs inputs (Some m)
driven_appended runs inputs m old into after e goes =
    goes ∙ (ap (λ (xs : List (List Bool)). xs ++ inputs) e ∙ append_assoc old (take m.cycle (run_of runs m.run)) inputs)

-- ---- its cycles

long_from : (runs : List Run) (inputs : List (List Bool)) (o : Option Moment) → IsThere runs o →
    length (driven_from runs inputs o) ≡ cycles_before o + length inputs
long_from runs inputs None at = omega arith
long_from runs inputs (Some m) at =
    let run : Run = run_of runs m.run in
    let front : length (take m.cycle run) ≡ m.cycle = length-take-le m.cycle run at.lasts in
    let whole : length (take m.cycle run ++ inputs) ≡ length (take m.cycle run) + length inputs = length-append (take m.cycle run) inputs in
    omega (arith, front, whole)

-- each cycle before the trace's first state, and each input of the trace
pub driven_long : (runs : List Run) (r : Report) → IsThere runs (begin_of r) → length (driven runs r) ≡ cycles_before (begin_of r) + length r.inputs
driven_long runs r at = long_from runs r.inputs (begin_of r) at

abbrev Wide : ℕ → List (List Bool) → Type 0
Wide n inputs = All (λ x. length x ≡ n) inputs

wide_from : (s : Stimulus) (n : ℕ) (inputs : List (List Bool)) (o : Option Moment) → IsStimulus s → s.width ≡ n → IsThere (inputs_of s) o → Wide n inputs →
    Wide n (driven_from (inputs_of s) inputs o)
wide_from s n inputs None sound width at wide = wide
wide_from s n inputs (Some m) sound width at wide =
    let there : m.run - 1 < length s.runs = omega (arith, at.from_one, at.recorded, length-map s.runs (λ (run : Recorded). run.inputs)) in
    let own : IsRecorded s.width (run_at s m.run) = All-get_or (IsRecorded s.width) s.runs (m.run - 1) no_run there sound.recorded in
    let run : Wide n (run_of (inputs_of s) m.run) =
    subst (Wide n) (sym (run_inputs s m.run)) (subst (λ (k : ℕ). Wide k (run_at s m.run).inputs) width own.widths) in
    All-append (λ (x : List Bool). length x ≡ n) (take m.cycle (run_of (inputs_of s) m.run)) inputs
    (All-take (λ (x : List Bool). length x ≡ n) m.cycle (run_of (inputs_of s) m.run) run) wide

pub driven_wide : (s : Stimulus) (r : Report) (n : ℕ) (inputs : List (List Bool)) (b : Option Moment) → IsStimulus s → s.width ≡ n → b ≡ begin_of r →
    IsThere (inputs_of s) b → All (λ x. length x ≡ n) r.inputs → inputs ≡ driven (inputs_of s) r → All (λ x. length x ≡ n) inputs
driven_wide s r n inputs b sound width is at wide e =
    subst (Wide n) (sym e) (wide_from s n r.inputs (begin_of r) sound width (subst (IsThere (inputs_of s)) is at) wide)
