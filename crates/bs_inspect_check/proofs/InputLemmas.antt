-- The data inputs of a run beside those of a VCD.
use Rattle.std.proofs.Common.{◌≡◌, ◌⊎◌, inl, inr, ℕ, ◌<◌, ◌≤◌, ◌+◌, ◌-◌, Bool, true, false, List, [], ◌∷◌, ◌++◌, length, map, take, get_or, Option, Result, Ok, Err, ap, sym, subst, ◌∙◌, arith}
use Rattle.std.specs.Prelude.{slice_index_or}
use Rattle.std.specs.Borrow.{Bor}
use Rattle.std.specs.List.{range_with_len}
use Rattle.std.specs.Result.{IfOk}
use Rattle.std.proofs.lemmas.Bool.{true≢false}
use Rattle.std.proofs.lemmas.List.{get_or_default, get_or_past, map-append, map_more, take_all}
use Rattle.std.proofs.lemmas.List.Elements.{All-get_or}
use Rattle.bs_bits.specs.declared.memory.NoMemory.{NoMemory as Refused}
use Rattle.bs_bits.specs.Reading.{Answers}
use Rattle.bs_bits.proofs.RangeLemmas.{range_push}
use Rattle.bs_inspect_report.specs.Signal.{bit_at}
use Rattle.bs_scan.specs.Moments.{Run}
use Rattle.bs_stim.specs.Runs.{IsRecorded, IsStimulus, no_run, Recorded, run_at, Stimulus}
use Rattle.bs_vcd.specs.declared.clock_edges.SampledLines.{SampledLines}
use Rattle.bs_vcd.specs.Stimulus.{stimulus_in}
use Rattle.bs_vcd_header.specs.declared.fault.VcdFault.{VcdFault}
use Rattle.bs_vcd_header.specs.declared.fault.VcdFault.TheVariants.{NoMemory as Want}
use Rattle.bs_inspect_check.specs.declared.inputs.InputComparison.{InputComparison}
use Rattle.bs_inspect_check.specs.declared.level.FlopLevel.{FlopLevel}
use Rattle.bs_inspect_check.specs.declared.level.FlopLevel.TheVariants.{Known as Level}
use Rattle.bs_inspect_check.specs.Inputs.{input_bit, inputs_at, inputs_beside, inputs_compared, is_want, no_inputs, run_row, vcd_row}

-- ---- a bit

pub vcd_there : (vcd : Run) (cycle place : ℕ) (row : List Bool) (b : Bool) → cycle < length vcd → row ≡ get_or vcd cycle row → b ≡ bit_at row place →
    b ≡ input_bit vcd cycle place
vcd_there vcd cycle place row b lt at is = is ∙ ap (λ (r : List Bool). slice_index_or r place false) (at ∙ get_or_default vcd cycle row [] lt)

no_cycle : (run : Run) (cycle place : ℕ) → length run ≤ cycle → false ≡ input_bit run cycle place
no_cycle run cycle place le = sym (ap (λ (r : List Bool). slice_index_or r place false) (get_or_past run cycle [] le))

pub vcd_past : (vcd : Run) (cycle place n : ℕ) → n ≡ length vcd → n ≤ cycle → false ≡ input_bit vcd cycle place
vcd_past vcd cycle place n e le = no_cycle vcd cycle place (omega (arith, e, le))

-- a run at a place, from 0, is the run with a number, from 1
numbered : (s : Stimulus) (i : ℕ) → (run_at s (i + 1)).inputs ≡ inputs_at s i
numbered s i = let e : i + 1 - 1 ≡ i = omega arith in ap (λ (k : ℕ). (slice_index_or s.runs k no_run).inputs) e

none_there : (s : Stimulus) (i : ℕ) → length s.runs ≤ i → inputs_at s i ≡ []
none_there s i le = ap (λ (r : Recorded). r.inputs) (get_or_past s.runs i no_run le)

pub cycles_there : (s : Stimulus) (i n : ℕ) → n ≡ length (run_at s (i + 1)).inputs → n ≡ length (inputs_at s i)
cycles_there s i n e = e ∙ ap length (numbered s i)

pub cycles_past : (s : Stimulus) (i n : ℕ) → n ≡ length s.runs → n ≤ i → 0 ≡ length (inputs_at s i)
cycles_past s i n e le = sym (ap length (none_there s i (omega (arith, e, le))))

pub run_there : (s : Stimulus) (i cycle place : ℕ) (b : Bool) → b ≡ slice_index_or (slice_index_or (run_at s (i + 1)).inputs cycle []) place false →
    b ≡ input_bit (inputs_at s i) cycle place
run_there s i cycle place b is = is ∙ ap (λ (run : Run). input_bit run cycle place) (numbered s i)

pub run_past : (s : Stimulus) (i cycle place n : ℕ) → n ≡ length s.runs → n ≤ i → false ≡ input_bit (inputs_at s i) cycle place
run_past s i cycle place n e le = sym (ap (λ (run : Run). input_bit run cycle place) (none_there s i (omega (arith, e, le))))

pub cycle_past : (s : Stimulus) (i cycle place n : ℕ) → n ≡ length (run_at s (i + 1)).inputs → n ≤ cycle → false ≡ input_bit (inputs_at s i) cycle place
cycle_past s i cycle place n e le =
    let own : n ≡ length (inputs_at s i) = e ∙ ap length (numbered s i) in
    no_cycle (inputs_at s i) cycle place (omega (arith, own, le))

wide : (s : Stimulus) (i cycle : ℕ) → IsStimulus s → i < length s.runs → cycle < length (inputs_at s i) →
    length (slice_index_or (inputs_at s i) cycle []) ≡ s.width
wide s i cycle sound lt there =
    let run : IsRecorded s.width (get_or s.runs i no_run) = All-get_or (IsRecorded s.width) s.runs i no_run lt sound.recorded in
    All-get_or (λ (row : List Bool). length row ≡ s.width) (inputs_at s i) cycle [] there run.widths

pub place_past : (s : Stimulus) (i cycle place w n m : ℕ) → IsStimulus s → n ≡ length s.runs → i < n → m ≡ length (run_at s (i + 1)).inputs → cycle < m →
    w ≡ s.width → w ≤ place → false ≡ input_bit (inputs_at s i) cycle place
place_past s i cycle place w n m sound count lt cycles there e le =
    let own : m ≡ length (inputs_at s i) = cycles ∙ ap length (numbered s i) in
    let same : length (slice_index_or (inputs_at s i) cycle []) ≡ s.width =
    wide s i cycle sound (omega (arith, count, lt)) (omega (arith, own, there)) in
    sym (get_or_past (slice_index_or (inputs_at s i) cycle []) place false (omega (arith, same, e, le)))

-- ---- a row

row_more : {A : Type 0} (f : ℕ → A) (n : ℕ) (bits after : List A) (b : A) → bits ≡ map f (range_with_len 0 n) → b ≡ f n → after ≡ bits ++ b ∷ [] →
    after ≡ map f (range_with_len 0 (n + 1))
row_more f n bits after b e is goes =
    goes ∙ ((λ j. e j ++ is j ∷ []) ∙ sym (ap (map f) (range_push n) ∙ map-append f (range_with_len 0 n) (n ∷ [])))

pub run_more : (s : Stimulus) (i cycle n : ℕ) (bits after : List Bool) (b : Bool) → bits ≡ run_row n (inputs_at s i) cycle →
    b ≡ input_bit (inputs_at s i) cycle n → after ≡ bits ++ b ∷ [] → after ≡ run_row (n + 1) (inputs_at s i) cycle
run_more s i cycle n bits after b e is goes = row_more (input_bit (inputs_at s i) cycle) n bits after b e is goes

pub vcd_more : (vcd : Run) (cycle n : ℕ) (levels after : List FlopLevel) (b : Bool) → levels ≡ vcd_row n vcd cycle → b ≡ input_bit vcd cycle n →
    after ≡ levels ++ Level b ∷ [] → after ≡ vcd_row (n + 1) vcd cycle
vcd_more vcd cycle n levels after b e is goes =
    row_more (λ (place : ℕ). Level (input_bit vcd cycle place)) n levels after (Level b) e (ap Level is) goes

-- ---- the keys

abbrev Texts : Type 0
Texts = List (Bor (List ℕ))

abbrev shown : Texts → List (List ℕ)
shown texts = map (λ s. s.now) texts

-- nothing yet
pub bytes_none : (bytes texts : Texts) → bytes ≡ [] → map (λ s. s.now) bytes ≡ map (λ s. s.now) (take 0 texts)
bytes_none bytes texts none = ap shown none

-- a text more
pub bytes_more : (bytes : Texts) (b : Bor (List ℕ)) (texts : Texts) (i : ℕ) (d : Bor (List ℕ)) → i < length texts →
    map (λ s. s.now) bytes ≡ map (λ s. s.now) (take i texts) → b.now ≡ (get_or texts i d).now →
    map (λ s. s.now) (bytes ++ b ∷ []) ≡ map (λ s. s.now) (take (i + 1) texts)
bytes_more bytes b texts i d lt e is =
    let f : Bor (List ℕ) → List ℕ = λ (s : Bor (List ℕ)). s.now in
    map-append f bytes (b ∷ []) ∙ ((λ j. e j ++ is j ∷ []) ∙ sym (map_more f texts i d lt))

pub bytes_end : (bytes texts : Texts) (i : ℕ) → length texts ≤ i → map (λ s. s.now) bytes ≡ map (λ s. s.now) (take i texts) →
    map (λ s. s.now) bytes ≡ map (λ s. s.now) texts
bytes_end bytes texts i le e = e ∙ ap shown (take_all i texts le)

pub keys_by : (keys slice bytes : Texts) (all : List (List ℕ)) → map (λ s. s.now) keys ≡ all → slice ≡ keys →
    map (λ s. s.now) bytes ≡ map (λ s. s.now) slice → map (λ s. s.now) bytes ≡ all
keys_by keys slice bytes all is same e = e ∙ (ap shown same ∙ is)

pub lines_by : (text : List ℕ) (scope : Option (List ℕ)) (clock : List ℕ) (keys slice : Texts) (all : List (List ℕ)) (r : Result SampledLines VcdFault) →
    slice ≡ keys → map (λ s. s.now) keys ≡ all → Answers Want (λ (s : SampledLines). s) r (stimulus_in text scope clock (map (λ s. s.now) slice)) →
    Answers Want (λ (s : SampledLines). s) r (stimulus_in text scope clock all)
lines_by text scope clock keys slice all r same is answers =
    subst (λ (ks : List (List ℕ)). Answers Want (λ (s : SampledLines). s) r (stimulus_in text scope clock ks)) (ap shown same ∙ is) answers

-- ---- what is read

pub inputs_read : (s : Stimulus) (i : ℕ) (wanted : Result SampledLines VcdFault) (sampled : SampledLines) (r : Result InputComparison Refused) → wanted ≡ Ok sampled →
    IfOk r (λ m. m ≡ inputs_beside s i sampled.lines) → IfOk r (λ m. m ≡ inputs_compared s i wanted)
inputs_read s i wanted sampled r e is =
    subst (λ (w : Result SampledLines VcdFault). IfOk r (λ m. m ≡ inputs_compared s i w)) (sym e) is

pub inputs_unread : (s : Stimulus) (i : ℕ) (wanted : Result SampledLines VcdFault) (fault : VcdFault) (b : Bool) (m : InputComparison) → b ≡ is_want fault →
    b ≡ false → (fault ≡ Want) ⊎ (wanted ≡ Err fault) → m ≡ no_inputs → m ≡ inputs_compared s i wanted
inputs_unread s i wanted fault b m is other (inl want) none = absurd (true≢false (sym (ap is_want want) ∙ (sym is ∙ other)))
inputs_unread s i wanted fault b m is other (inr e) none = none ∙ ap (inputs_compared s i) (sym e)
