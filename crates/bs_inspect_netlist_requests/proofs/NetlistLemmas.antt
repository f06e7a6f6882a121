-- What is told of runs and of a simulation, as the answer to its request; and the names of their files.
use Rattle.std.proofs.Common.{◌≡◌, ℕ, ◌<◌, ◌≤◌, ◌+◌, arith, true, false, Bor, List, [], ◌∷◌, ◌++◌, length, map, take, find, get_or, Option, Some, None, append-nil, refl, ap, sym, subst, ◌∙◌}
use Rattle.std.specs.List.{flat_map}
use Rattle.std.proofs.lemmas.Grind.{flat_map-append}
use Rattle.std.proofs.lemmas.List.{append_assoc, length-map, map_more}
use Rattle.bs_inspect_notes.specs.Simulations.{data_clock_text, late_text}
use Rattle.bs_inspect_values.specs.Simulated.{Simulated, clock_key}
use Rattle.bs_inspect_values.specs.SimulatedRun.{SimulatedRun, is_late, run_in}
use Rattle.bs_inspect_values.specs.declared.run.SimulatedRun.{SimulatedRun as CodeSimulatedRun}
use Rattle.bs_net.specs.Parts.{Parts}
use Rattle.bs_scan.specs.Moments.{IsMoment, Moment}
use Rattle.bs_stim.specs.Runs.{Recorded, Stimulus, inputs_of}
use Rattle.bs_outside.specs.declared.status.Status.{Status}
use Rattle.bs_outside.specs.declared.file_fetch.JobFault.{JobFault}
use Rattle.bs_call.specs.declared.note.Note.{Note}
use Rattle.bs_call.specs.declared.note.Note.TheVariants.{Silent}
use Rattle.bs_call.specs.Note.{Due, DueText}
use Rattle.bs_call.specs.Stops.{StopNoted}
use Rattle.bs_inspect_plans.specs.Said.{late_doubt, runs_doubt}
use Rattle.bs_inspect_plans.specs.Sources.{Sources, behind_piece, joined, named_runs, named_values, source_of}
use Rattle.bs_inspect_check.specs.declared.comparison.Comparison.{Comparison}
use Rattle.bs_inspect_check.specs.Text.{TellsCheck}
use Rattle.bs_inspect_plans.specs.Finishes.{check_status}

-- a moment's run is one of the runs
pub run_first : (s : Stimulus) (m : Moment) → IsMoment (inputs_of s) m → 1 ≤ m.run
run_first s m there = there.from_one

pub run_there : (s : Stimulus) (m : Moment) → IsMoment (inputs_of s) m → m.run ≤ length s.runs
run_there s m there = omega (arith, there.recorded, length-map s.runs (λ (run : Recorded). run.inputs))

-- what is told of runs beside their VCDs, where these are all of them
pub check_told : (raw : Parts) (given own : List Comparison) (status : Status) (text : List ℕ) → given ≡ own → status ≡ check_status given →
    TellsCheck raw given text → (status ≡ check_status own) × TellsCheck raw own text
check_told raw given own status text e answered told =
    subst (λ (ms : List Comparison). (status ≡ check_status ms) × TellsCheck raw ms text) e (answered, told)

-- what is said of a clock that is a data input, and of another
pub clock_due : (clock key : List ℕ) (s : Simulated) (note : Note) → s.sampled.data_clock ≡ true → key ≡ clock_key s.raw →
    Due (λ said. said ≡ data_clock_text clock key) note → DueText (runs_doubt clock s) note
clock_due clock key s note is e h = rw is (subst (λ (k : List ℕ). Due (λ said. said ≡ data_clock_text clock k) note) e h)

-- what is said of the first run whose values begin late
pub late_due : (clock : List ℕ) (s : Simulated) (slice runs : List CodeSimulatedRun) (note : Note) → s.sampled.data_clock ≡ false →
    s.sampled.runs ≡ map run_in runs → slice ≡ runs → DueText (late_doubt (find is_late (map run_in slice))) note → DueText (runs_doubt clock s) note
late_due clock s slice runs note not same is h =
    rw not (subst (λ (rs : List SimulatedRun). DueText (late_doubt (find is_late rs)) note) (ap (map run_in) is ∙ sym same) h)

pub run_due : (found : Option SimulatedRun) (run : SimulatedRun) (note : Note) → Some run ≡ found →
    Due (λ said. said ≡ late_text run.run.name run.begin) note → DueText (late_doubt found) note
run_due found run note e h = subst (λ (o : Option SimulatedRun). DueText (late_doubt o) note) e h

pub run_quiet : (found : Option SimulatedRun) → None ≡ found → DueText (late_doubt found) Silent
run_quiet found e = subst (λ (o : Option SimulatedRun). DueText (late_doubt o) Silent) e refl

piece_more : (names : List (Bor (List ℕ))) (i : ℕ) (d : Bor (List ℕ)) → i < length names →
    flat_map behind_piece (map (λ s. s.now) (take i names)) ++ behind_piece (get_or names i d).now
    ≡ flat_map behind_piece (map (λ s. s.now) (take (i + 1) names))
piece_more names i d lt =
    ap (λ (t : List ℕ). flat_map behind_piece (map (λ s. s.now) (take i names)) ++ t) (sym (append-nil (behind_piece (get_or names i d).now)))
    ∙ (sym (flat_map-append behind_piece (map (λ s. s.now) (take i names)) ((get_or names i d).now ∷ []))
    ∙ ap (flat_map behind_piece) (sym (map_more (λ s. s.now) names i d lt)))

-- names behind another, one after the other
pub names_more : (before now : List ℕ) (names : List (Bor (List ℕ))) (i : ℕ) (d : Bor (List ℕ)) (start : List ℕ) → i < length names →
    before ≡ start ++ flat_map behind_piece (map (λ s. s.now) (take i names)) → now ≡ before ++ behind_piece (get_or names i d).now →
    now ≡ start ++ flat_map behind_piece (map (λ s. s.now) (take (i + 1) names))
names_more before now names i d start lt e is =
    is ∙ (ap (λ (t : List ℕ). t ++ behind_piece (get_or names i d).now) e
    ∙ (append_assoc start (flat_map behind_piece (map (λ s. s.now) (take i names))) (behind_piece (get_or names i d).now)
    ∙ ap (λ (t : List ℕ). start ++ t) (piece_more names i d lt)))

-- a stop among files of values, by all their names
pub values_noted : (netlist : List ℕ) (names : Option (List ℕ)) (vcd : List ℕ) (vcds : List (List ℕ)) (given : Sources) (fault : JobFault) (note : Note) →
    given ≡ named_values netlist names vcd → vcd ≡ joined vcds → StopNoted (source_of given) fault note →
    StopNoted (source_of (named_values netlist names (joined vcds))) fault note
values_noted netlist names vcd vcds given fault note e is h =
    subst (λ (n : Sources). StopNoted (source_of n) fault note) (e ∙ ap (named_values netlist names) is) h

-- a stop among runs and files of values, by all their names
pub runs_noted : (netlist runs : List ℕ) (names : Option (List ℕ)) (vcd : List ℕ) (vcds : List (List ℕ)) (given : Sources) (fault : JobFault) (note : Note) →
    given ≡ named_runs netlist runs names vcd → vcd ≡ joined vcds → StopNoted (source_of given) fault note →
    StopNoted (source_of (named_runs netlist runs names (joined vcds))) fault note
runs_noted netlist runs names vcd vcds given fault note e is h =
    subst (λ (n : Sources). StopNoted (source_of n) fault note) (e ∙ ap (named_runs netlist runs names) is) h
