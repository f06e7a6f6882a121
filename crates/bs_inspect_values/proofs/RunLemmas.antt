-- The runs that were simulated, and their text.
use Rattle.std.proofs.Common.{◌≡◌, ℕ, ◌<◌, ◌≤◌, ◌+◌, Bool, true, false, cond, nat_le, nat_lt, List, [], ◌∷◌, ◌++◌, length, map, take, get_or, codes, ap, sym, subst, ◌∙◌, refl, arith, find, Option, Some, None, Bor}
use Rattle.std.specs.Prelude.{All, ◌==◌, ◌&&◌}
use Rattle.std.specs.List.{AllByRecursion, flat_map}
use Rattle.std.specs.Option.{option_map}
use Rattle.std.proofs.Math.Dec.{eqb-suc-zero}
use Rattle.std.proofs.lemmas.Bool.{and_from, lt-ltb}
use Rattle.std.proofs.lemmas.Grind.{flat_map-append}
use Rattle.std.proofs.lemmas.List.{append-nil, length-map, length-take, map_more}
use Rattle.std.proofs.lemmas.List.Elements.{All-cons, All-nil, recursion_from_All}
use Rattle.bs_bits.specs.Lines.{is_name, is_visible}
use Rattle.bs_stim.specs.declared.limits.TheConstants.{MAX_NAME}
use Rattle.bs_stim.specs.Runs.{Recorded, Stimulus, IsRecorded}
use Rattle.bs_stim.specs.StimulusText.{run_text}
use Rattle.bs_stim.proofs.ReadBackLemmas.{stimuli_read_back}
use Rattle.bs_inspect_values.specs.declared.run.SimulatedRun.{SimulatedRun as CodeSimulatedRun}
use Rattle.bs_vcd.specs.declared.clock_edges.SampledLines.{SampledLines}
use Rattle.bs_vcd.specs.Cycles.{begin_in}
use Rattle.bs_inspect_values.specs.Law.{Files, IsFile, RunsReadBack, runs_of}
use Rattle.bs_inspect_values.specs.SimulatedRun.{SimulatedRun, is_late, leaf_of, name_byte, or_vcd, recorded, recorded_in, run_in, run_name, runs_text, simulated, simulated_text, stem_of}

-- ---- the name

pub bytes_more : (name text : List ℕ) (b i d : ℕ) → i < length text → name ≡ map name_byte (take i text) → b ≡ name_byte (get_or text i d) →
    name ++ b ∷ [] ≡ map name_byte (take (i + 1) text)
bytes_more name text b i d lt e is = (λ j. e j ++ is j ∷ []) ∙ sym (map_more name_byte text i d lt)

pub name_none : (name : List ℕ) → (length name == 0) ≡ true → codes "vcd" ≡ or_vcd name
name_none name e = ap (λ (b : Bool). cond b (codes "vcd") name) (sym e)

pub name_there : (name : List ℕ) → (length name == 0) ≡ false → name ≡ or_vcd name
name_there name e = ap (λ (b : Bool). cond b (codes "vcd") name) (sym e)

abbrev is_seen : ℕ → Bool
is_seen b = nat_le 33 b && nat_le b 126

byte_seen : (b : ℕ) → is_seen (name_byte b) ≡ true
byte_seen b = by (is_seen b) refl
  where
    by : (t : Bool) → is_seen b ≡ t → is_seen (cond t b 95) ≡ true
    by true e = e
    by false e = refl

bytes_seen : (bs : List ℕ) → is_visible (map name_byte bs) ≡ true
bytes_seen [] = refl
bytes_seen (b ∷ bs) = and_from (is_seen (name_byte b)) (is_visible (map name_byte bs)) (byte_seen b) (bytes_seen bs)

-- a name that is not empty stays
stays : (b : ℕ) (bs : List ℕ) → or_vcd (b ∷ bs) ≡ b ∷ bs
stays b bs = ap (λ (t : Bool). cond t (codes "vcd") (b ∷ bs)) (eqb-suc-zero (length bs))

name_is : (name : List ℕ) → is_visible name ≡ true → is_name (or_vcd name) ≡ true
name_is [] e = refl
name_is (b ∷ bs) e =
    ap is_name (stays b bs) ∙ and_from (nat_lt 0 (length (b ∷ bs))) (is_visible (b ∷ bs)) (lt-ltb 0 (length (b ∷ bs)) (omega arith)) e

short_vcd : (name : List ℕ) → length name ≤ MAX_NAME → length (or_vcd name) ≤ MAX_NAME
short_vcd [] le = omega arith
short_vcd (b ∷ bs) le = subst (λ (name : List ℕ). length name ≤ MAX_NAME) (sym (stays b bs)) le

name_short : (s : List ℕ) → length (or_vcd (map name_byte (take MAX_NAME s))) ≤ MAX_NAME
name_short s =
    short_vcd (map name_byte (take MAX_NAME s)) (omega (arith, length-map (take MAX_NAME s) name_byte, length-take MAX_NAME s))

-- ---- a run

abbrev begun : List ℕ → List (List Bool) → ℕ → SimulatedRun
begun name lines begin = record { run = record { name = name; inputs = lines }; begin = begin }

pub simulated_by : (path name : List ℕ) (sampled : SampledLines) (begin : ℕ) → name ≡ run_name path → begin ≡ begin_in sampled →
    begun name sampled.lines begin ≡ simulated path sampled
simulated_by path name sampled begin e f = λ i. begun (e i) sampled.lines (f i)

-- ---- the text

pub runs_more : (text : List ℕ) (runs : List CodeSimulatedRun) (i : ℕ) (d : CodeSimulatedRun) → i < length runs → text ≡ runs_text (map recorded_in (take i runs)) →
    text ++ run_text (recorded_in (get_or runs i d)) ≡ runs_text (map recorded_in (take (i + 1) runs))
runs_more text runs i d lt e =
    ap (λ (t : List ℕ). t ++ run_text (recorded_in (get_or runs i d))) e
    ∙ (ap (λ (t : List ℕ). runs_text (map recorded_in (take i runs)) ++ t) (sym (append-nil (run_text (recorded_in (get_or runs i d)))))
    ∙ (sym (flat_map-append run_text (map recorded_in (take i runs)) (recorded_in (get_or runs i d) ∷ []))
    ∙ ap runs_text (sym (map_more recorded_in runs i d lt))))

-- the runs of what was simulated
runs_by : (runs : List CodeSimulatedRun) → map recorded_in runs ≡ map (λ r. r.run) (map run_in runs)
runs_by [] = refl
runs_by (r ∷ rs) = ap (λ (xs : List Recorded). recorded_in r ∷ xs) (runs_by rs)

pub text_by : (text : List ℕ) (runs : List CodeSimulatedRun) → text ≡ runs_text (map recorded_in runs) → text ≡ simulated_text (map run_in runs)
text_by text runs e = e ∙ ap runs_text (runs_by runs)

-- ---- values that begin late

late_step : (b : Bool) (r : CodeSimulatedRun) (rs : List CodeSimulatedRun) →
    option_map run_in (find (λ x. nat_lt 0 x.begin) rs) ≡ find is_late (map run_in rs) →
    option_map run_in (cond b (Some r) (find (λ x. nat_lt 0 x.begin) rs)) ≡ cond b (Some (run_in r)) (find is_late (map run_in rs))
late_step true r rs h = refl
late_step false r rs h = h

late_as : (runs : List CodeSimulatedRun) → option_map run_in (find (λ r. nat_lt 0 r.begin) runs) ≡ find is_late (map run_in runs)
late_as [] = refl
late_as (r ∷ rs) = late_step (nat_lt 0 r.begin) r rs (late_as rs)

seen : (found : Option (Bor CodeSimulatedRun)) → option_map (λ r. run_in r.now) found ≡ option_map run_in (option_map (λ r. r.now) found)
seen None = refl
seen (Some r) = refl

pub late_by : (found : Option (Bor CodeSimulatedRun)) (runs : List CodeSimulatedRun) →
    option_map (λ r. r.now) found ≡ find (λ r. nat_lt 0 r.begin) runs → option_map (λ r. run_in r.now) found ≡ find is_late (map run_in runs)
late_by found runs e = seen found ∙ (ap (option_map run_in) e ∙ late_as runs)

-- ---- read back

is_recorded : (width : ℕ) (path : List ℕ) (lines : List (List Bool)) → IsFile width path lines → IsRecorded width (recorded path lines)
is_recorded width path lines h = record {
  named = name_is (map name_byte (take MAX_NAME (stem_of (leaf_of path)))) (bytes_seen (take MAX_NAME (stem_of (leaf_of path))));
  short_name = name_short (stem_of (leaf_of path));
  few_cycles = h.few;
  widths = h.widths;
}

all_recorded : (width : ℕ) (files : Files) → AllByRecursion (λ f. IsFile width f.0 f.1) files → All (IsRecorded width) (runs_of files)
all_recorded width [] h = All-nil (IsRecorded width)
all_recorded width (f ∷ fs) h =
    All-cons (IsRecorded width) (recorded f.0 f.1) (runs_of fs) (is_recorded width f.0 f.1 h.0) (all_recorded width fs h.1)

pub runs_read_back : RunsReadBack
runs_read_back width files some few all =
    let stimulus : Stimulus = record { width = width; runs = runs_of files } in
    let each : length (runs_of files) ≡ length files = length-map files (λ (f : List ℕ × List (List Bool)). recorded f.0 f.1) in
    stimuli_read_back stimulus
    (record {
      some_run = omega (arith, some, each);
      few_runs = omega (arith, few, each);
      recorded = all_recorded width files (recursion_from_All (λ f. IsFile width f.0 f.1) files all);
    })
