-- The input recorded at a hit, where the present is known in part.
use Rattle.std.specs.Prelude.{◌≡◌, ℕ, ◌+◌, ◌==◌, nat_lt, ◌&&◌, Bool, List, [], length, map, slice_get, All, Option, Some, None, if◌then◌else◌}
use Rattle.bs_bits.specs.Bits.{bits_eq}
use Rattle.bs_scan.specs.declared.seen.Seen.{Seen}
use Rattle.bs_scan.specs.Seen.{is_shown, whole, Shows}
use Rattle.bs_net.specs.Circuit.{Circuit, next}
use Rattle.bs_scan.specs.Crash.{Crash, Recording}
use Rattle.bs_scan.specs.Moments.{Run, run_of, state_at}
use Rattle.bs_chip.specs.declared.first_hit.Hit.{Hit}
use Rattle.bs_report.specs.declared.report.Before.{Before}
use Rattle.bs_report.specs.declared.report.Cand.{Cand}
use Rattle.bs_report.specs.declared.report.HitLine.{HitLine}
use Rattle.bs_report.specs.declared.report.Step.{Step}
use Rattle.bs_report.specs.declared.report.Report.{Report}
use Rattle.bs_report.specs.Good.{IsGood}
use Rattle.bs_report.specs.Trace.{input_for, trace_end}
use Rattle.bs_loop.specs.Recorded.{recorded_at}

-- Where a step's present is known in part, and the input recorded at its hit leads to a state that shows it, the step lists this input for
-- the state hit. So a trace that ends there goes on as the run did.
pub record TakesRecorded (c : Circuit) (runs : List Run) (step : Step) : Type 0 where
  pub takes : (hit : HitLine) (x : List Bool) → (step.present.free ≡ [] → ⊥) → step.hit ≡ Some hit → slice_get (run_of runs hit.run) hit.cycle ≡ Some x →
      Shows step.present (next c hit.state x) → input_for step hit.state ≡ Some x

-- The trace of a good report that takes such an input at its first hit ends in the state that the run had next.
abbrev pub TracesEndAsRecorded : Type 0
TracesEndAsRecorded =
    (crash : Crash) (r : Report) → IsGood crash r → All (TakesRecorded crash.circuit crash.runs) r.steps → (first : Step) (hit : HitLine) (x : List Bool) →
    slice_get r.steps 0 ≡ Some first → (first.present.free ≡ [] → ⊥) → first.hit ≡ Some hit → slice_get (run_of crash.runs hit.run) hit.cycle ≡ Some x →
    Shows first.present (next crash.circuit hit.state x) →
    trace_end crash r.steps ≡ whole (state_at crash.circuit (run_of crash.runs hit.run) (hit.cycle + 1))

-- ---- how it is taken

-- whether the run of a moment goes on, to a state that shows a present
abbrev pub goes_to : Recording → Seen → ℕ → ℕ → Bool
goes_to r present run cycle = nat_lt cycle (length (run_of r.runs run)) && is_shown present (state_at r.circuit (run_of r.runs run) (cycle + 1))

-- the state of a moment and the input recorded there, where the present is known in part and the run goes on to a state that shows it
abbrev pub own_at : Recording → Seen → ℕ → ℕ → Option Before
own_at r present run cycle =
    if length present.free == 0 then None else (if goes_to r present run cycle then Some (recorded_at r run cycle) else None)

-- the same of a hit
abbrev pub own_input : Recording → Seen → Option Hit → Option Before
own_input r present None = None
own_input r present (Some hit) = own_at r present hit.run hit.cycle

-- a candidate, with the input that belongs to its state, if it has this state
abbrev pub put_input : Before → Cand → Cand
put_input own cand =
    record { state = cand.state; input = if bits_eq cand.state own.state then own.input else cand.input; before = cand.before }

-- a list, with that input
abbrev pub put_own : Option Before → List Cand → List Cand
put_own None cands = cands
put_own (Some own) cands = map (put_input own) cands
