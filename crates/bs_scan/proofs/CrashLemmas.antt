-- Moments of recorded runs, and the dump of one.
use Rattle.std.proofs.Common.{◌≡◌, inl, inr, ℕ, suc, zero, ◌≤◌, ◌-◌, Bool, List, [], ◌∷◌, ◌++◌, length, map, get_or, refl, arith, ap, subst, sym, None}
use Rattle.std.specs.Prelude.{All, slice_get}
use Rattle.std.specs.List.{AllByRecursion}
use Rattle.std.specs.Option.{option_to_list}
use Rattle.std.proofs.lemmas.List.{length-map}
use Rattle.std.proofs.lemmas.List.Elements.{All-map, All-weaker, All-from_recursion}
use Rattle.bs_scan.specs.Seen.{whole, Shows}
use Rattle.bs_net.specs.Circuit.{Circuit, reset_state}
use Rattle.bs_net.specs.Netlist.{circuit_of}
use Rattle.bs_net.specs.Order.{IsChecked}
use Rattle.bs_net.specs.Parts.{Parts}
use Rattle.bs_stim.specs.declared.limits.TheConstants.{MAX_CYCLES}
use Rattle.bs_stim.specs.Runs.{Recorded, Stimulus, IsRecorded, IsStimulus, no_run, run_at, inputs_of}
use Rattle.bs_scan.specs.declared.dump.Dump.{Dump}
use Rattle.bs_scan.specs.Choice.{Chosen, depth_of, IsDepth}
use Rattle.bs_scan.specs.Crash.{Recording, recording_of, IsRecording, dump_at, crash_of, DumpFits, IsCrash}
use Rattle.bs_scan.specs.Moments.{Run, Moment, moment, IsMoment, run_of, state_at, state_of}
use Rattle.bs_scan.specs.Present.{present_in}
use Rattle.bs_scan.specs.Signature.{parity_of, signatures_before, stored_at}
use Rattle.bs_scan.proofs.SignatureLemmas.{length_state, some_kept}

-- ---- the runs of a stimulus

inputs_at : (runs : List Recorded) (i : ℕ) → get_or (map (λ (run : Recorded). run.inputs) runs) i [] ≡ (get_or runs i no_run).inputs
inputs_at [] i = refl
inputs_at (run ∷ runs) zero = refl
inputs_at (run ∷ runs) (suc i) = inputs_at runs i

pub run_inputs : (s : Stimulus) (r : ℕ) → run_of (inputs_of s) r ≡ (run_at s r).inputs
run_inputs s r = inputs_at s.runs (r - 1)

-- a moment of the inputs is one of the runs that have them
pub placed_is : (s : Stimulus) (r k : ℕ) → 1 ≤ r → r ≤ length s.runs → k ≤ length (run_at s r).inputs → IsMoment (inputs_of s) (moment r k)
placed_is s r k from there lasts =
    record {
      from_one = from;
      recorded = omega (arith, there, length-map s.runs (λ (run : Recorded). run.inputs));
      lasts = omega (arith, lasts, ap length (run_inputs s r));
    }

pub there_is : (s : Stimulus) (m : Moment) → IsMoment (inputs_of s) m → m.run ≤ length s.runs
there_is s m h = omega (arith, h.recorded, length-map s.runs (λ (run : Recorded). run.inputs))

pub lasts_is : (s : Stimulus) (m : Moment) → IsMoment (inputs_of s) m → m.cycle ≤ length (run_at s m.run).inputs
lasts_is s m h = omega (arith, h.lasts, ap length (run_inputs s m.run))

-- ---- what files tell

inputs_fit : (c : Circuit) (s : Stimulus) → IsStimulus s → s.width ≡ length c.inputs →
    All (λ run. All (λ input. length input ≡ length c.inputs) run) (inputs_of s)
inputs_fit c s sound width =
    All-map (λ (run : Run). All (λ (input : List Bool). length input ≡ length c.inputs) run) (λ (run : Recorded). run.inputs) s.runs
    (All-weaker (IsRecorded s.width) (λ (run : Recorded). All (λ (input : List Bool). length input ≡ length c.inputs) run.inputs)
    (λ run is. subst (λ (n : ℕ). All (λ (input : List Bool). length input ≡ n) run.inputs) width is.widths) s.runs sound.recorded)

pub recording_is : (raw : Parts) (choice : Chosen) (s : Stimulus) → IsChecked (circuit_of raw) → IsDepth (depth_of choice) → IsStimulus s →
    choice.width ≡ length (circuit_of raw).flops → s.width ≡ length (circuit_of raw).inputs →
    IsRecording (recording_of raw choice s)
recording_is raw choice s checked kept sound states inputs =
    record {
      checked = checked;
      kept = kept;
      states = states;
      inputs = inputs_fit (circuit_of raw) s sound inputs;
      few_runs = omega (arith, sound.few_runs, length-map s.runs (λ (run : Recorded). run.inputs));
      few_cycles =
          All-map (λ (run : Run). length run ≤ MAX_CYCLES) (λ (run : Recorded). run.inputs) s.runs
          (All-weaker (IsRecorded s.width) (λ (run : Recorded). length run.inputs ≤ MAX_CYCLES) (λ run is. is.few_cycles) s.runs sound.recorded);
    }

pub crash_is : (r : Recording) (dump : Dump) → IsRecording r → DumpFits r.circuit r.choice dump → IsCrash (crash_of r dump)
crash_is r dump is fits = record { checked = is.checked; inputs = is.inputs; fits = fits }

-- a dump that fits is of a chip whose register keeps one signature or two
pub depth_is : (c : Circuit) (choice : Chosen) (dump : Dump) → DumpFits c choice dump → IsDepth (depth_of choice)
depth_is c choice dump fits = subst IsDepth fits.depth fits.sound.kept

-- ---- the dump of a moment

abbrev Widths : Chosen → List (List Bool) → Type 0
Widths choice stored = All (λ t. length t ≡ length choice.items) stored

before_widths : (c : Circuit) (choice : Chosen) (run : Run) (count cycle : ℕ) →
    AllByRecursion (λ (t : List Bool). length t ≡ length choice.items) (signatures_before c choice run count cycle)
before_widths c choice run zero cycle = tt
before_widths c choice run (suc count) zero = tt
before_widths c choice run (suc count) (suc cycle) =
    (length-map choice.items (parity_of (state_at c run cycle)), before_widths c choice run count cycle)

-- what the register holds at a moment has a bit for each item
pub stored_widths : (c : Circuit) (choice : Chosen) (run : Run) (cycle : ℕ) → Widths choice (stored_at c choice run cycle)
stored_widths c choice run cycle =
    All-from_recursion (λ (t : List Bool). length t ≡ length choice.items) (stored_at c choice run cycle)
    (before_widths c choice run (depth_of choice) cycle)

-- it holds no more than it keeps
pub few_before : (c : Circuit) (choice : Chosen) (run : Run) (count cycle : ℕ) → length (signatures_before c choice run count cycle) ≤ count
few_before c choice run zero cycle = omega arith
few_before c choice run (suc count) zero = omega arith
few_before c choice run (suc count) (suc cycle) = omega (arith, few_before c choice run count cycle)

few_stored : (c : Circuit) (choice : Chosen) (run : Run) (cycle : ℕ) → IsDepth (depth_of choice) → length (stored_at c choice run cycle) ≤ 2
few_stored c choice run cycle (inl one) = omega (arith, one, few_before c choice run (depth_of choice) cycle)
few_stored c choice run cycle (inr two) = omega (arith, two, few_before c choice run (depth_of choice) cycle)

-- a list of up to two members, by its places
both_held : (t : List (List Bool)) → length t ≤ 2 → option_to_list (slice_get t 0) ++ option_to_list (slice_get t 1) ≡ t
both_held [] h = refl
both_held (a ∷ []) h = refl
both_held (a ∷ b ∷ []) h = refl
both_held (a ∷ b ∷ x ∷ t) h = absurd (omega (arith, h))

none_second : (t : List (List Bool)) → length t ≤ 1 → slice_get t 1 ≡ None
none_second [] h = refl
none_second (a ∷ []) h = refl
none_second (a ∷ b ∷ t) h = absurd (omega (arith, h))

none_after_none : (t : List (List Bool)) → slice_get t 0 ≡ None → slice_get t 1 ≡ None
none_after_none [] e = refl
none_after_none (a ∷ t) e = absurd (cc)

all_held : (c : Circuit) (choice : Chosen) (run : Run) (cycle : ℕ) → IsDepth (depth_of choice) →
    option_to_list (slice_get (stored_at c choice run cycle) 0) ++ option_to_list (slice_get (stored_at c choice run cycle) 1) ≡ stored_at c choice run cycle
all_held c choice run cycle kept = both_held (stored_at c choice run cycle) (few_stored c choice run cycle kept)

pub dump_at_fits : (r : Recording) (m : Moment) → IsDepth (depth_of r.choice) → DumpFits r.circuit r.choice (dump_at r m)
dump_at_fits r m kept =
    let run : Run = run_of r.runs m.run in
    record {
      sound =
          record {
            kept = kept;
            alone = λ (one : depth_of r.choice ≡ 1).
                none_second (stored_at r.circuit r.choice run m.cycle) (omega (arith, one, few_before r.circuit r.choice run (depth_of r.choice) m.cycle));
            behind = none_after_none (stored_at r.circuit r.choice run m.cycle);
          };
      depth = refl;
      seen = inl refl;
      state = length_state r.circuit run m.cycle;
      signatures =
          subst (Widths r.choice) (sym (all_held r.circuit r.choice run m.cycle kept)) (stored_widths r.circuit r.choice run m.cycle);
    }

none_before : (c : Circuit) (choice : Chosen) (run : Run) (count cycle : ℕ) → 1 ≤ count → slice_get (signatures_before c choice run count cycle) 0 ≡ None →
    state_at c run cycle ≡ reset_state c
unfolding state_at
none_before c choice run zero cycle h e = absurd (omega (arith, h))
none_before c choice run (suc count) zero h e = refl
none_before c choice run (suc count) (suc cycle) h e = absurd (cc)

-- without a signature it is of the reset state
pub dump_at_rests : (r : Recording) (m : Moment) → IsDepth (depth_of r.choice) → (dump_at r m).stored ≡ None →
    Shows (dump_at r m).state (reset_state r.circuit)
dump_at_rests r m kept e = sym (none_before r.circuit r.choice (run_of r.runs m.run) (depth_of r.choice) m.cycle (some_kept (depth_of r.choice) kept) e)

-- what a dump shows of its moment
pub present_at : (r : Recording) (m : Moment) → IsDepth (depth_of r.choice) →
    present_in (dump_at r m) ≡ record { state = whole (state_of r.circuit r.runs m); stored = stored_at r.circuit r.choice (run_of r.runs m.run) m.cycle }
present_at r m kept =
    λ i. record { state = whole (state_of r.circuit r.runs m); stored = all_held r.circuit r.choice (run_of r.runs m.run) m.cycle kept i }
