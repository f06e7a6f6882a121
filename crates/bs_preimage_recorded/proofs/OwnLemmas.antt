-- A moment's state with its recorded input is a candidate for the next moment.
use Rattle.std.proofs.Common.{◌≡◌, ℕ, suc, ◌+◌, ◌-◌, ◌≤◌, Bool, true, List, [], ◌∷◌, length, get_or, refl, subst, sym, None, arith}
use Rattle.std.specs.Prelude.{◌==◌, ◌||◌, ◌&&◌, slice_get}
use Rattle.std.proofs.lemmas.Bool.{and_parts, eqb-true}
use Rattle.bs_bits.specs.Bits.{bits_eq}
use Rattle.bs_net.specs.Circuit.{Circuit, Leads, next, reset_state}
use Rattle.bs_net.proofs.NextLemmas.{next_is_led}
use Rattle.bs_scan.specs.declared.seen.Seen.{Seen}
use Rattle.bs_scan.specs.Seen.{is_shown, Shows}
use Rattle.bs_scan.specs.Choice.{Chosen, depth_of}
use Rattle.bs_scan.specs.Crash.{Recording, IsRecording, dump_at}
use Rattle.bs_scan.specs.Moments.{Run, moment, IsMoment, run_of, state_at}
use Rattle.bs_scan.specs.Signature.{agrees, may_hold, signature, signatures_before, stored_at}
use Rattle.bs_scan.proofs.SeenLemmas.{shows_where}
use Rattle.bs_scan.proofs.SignatureLemmas.{bits_same, bits_same_is, is_predecessor, length_state}
use Rattle.bs_report.specs.declared.report.Cand.{Cand}
use Rattle.bs_preimage.specs.Listed.{IsRightCand}
use Rattle.bs_preimage_recorded.specs.Own.{held_is, is_asked, own_cand, IsOwn}

-- the input of a cycle that is not the last of its run
pub input_width : (r : Recording) (run cycle : ℕ) → IsRecording r → IsMoment r.runs (moment run (suc cycle)) → (j : ℕ) → j ≤ cycle →
    length (get_or (run_of r.runs run) j []) ≡ length r.circuit.inputs
input_width r run cycle sound is j low =
    sound.inputs (run - 1) [] (omega (arith, is.from_one, is.recorded)) j [] (omega (arith, is.lasts, low))

pub state_next : (c : Circuit) (run : Run) (cycle : ℕ) → next c (state_at c run cycle) (get_or run cycle []) ≡ state_at c run (suc cycle)
unfolding state_at
state_next c run cycle = refl

pub leads_on : (r : Recording) (run cycle : ℕ) → IsRecording r → IsMoment r.runs (moment run (suc cycle)) →
    Leads r.circuit (state_at r.circuit (run_of r.runs run) cycle) (get_or (run_of r.runs run) cycle []) (state_at r.circuit (run_of r.runs run) (suc cycle))
leads_on r run cycle sound is =
    let c : Circuit = r.circuit in
    let line : Run = run_of r.runs run in
    (next_is_led c (state_at c line cycle) (get_or line cycle []) (state_at c line (suc cycle)) sound.checked (length_state c line cycle)
    (input_width r run cycle sound is cycle (omega arith))).1 (sym (state_next c line cycle))

-- ---- the way of a run

both : (a b : Bool) → a ≡ true → b ≡ true → (a && b) ≡ true
both a b e f = rw (e, f) refl

-- a register that keeps one signature holds that of the state before
held_alone : (c : Circuit) (choice : Chosen) (run : Run) (cycle : ℕ) (stored : List Bool) → depth_of choice ≡ 1 →
    held_is (slice_get (stored_at c choice run (suc cycle)) 0) stored ≡ true → signature choice (state_at c run cycle) ≡ stored
held_alone c choice run cycle stored one held =
    bits_same_is (signature choice (state_at c run cycle)) stored
    (subst (λ (d : ℕ). held_is (slice_get (signatures_before c choice run d (suc cycle)) 0) stored ≡ true) one held)

agrees_alone : (c : Circuit) (choice : Chosen) (s stored : List Bool) → depth_of choice ≡ 1 → signature choice s ≡ stored →
    agrees c choice (stored ∷ []) s ≡ true
agrees_alone c choice s stored one same =
    both _ _ (subst (λ (x : List Bool). bits_eq (signature choice s) x ≡ true) same (bits_same (signature choice s)))
    (subst (λ (d : ℕ). may_hold c choice (d - 1) [] s ≡ true) (sym one) refl)

-- the parts of what is asked about a dump
record AskedParts (r : Recording) (present : Seen) (stored : List Bool) (run cycle : ℕ) : Type 0 where
  depth : depth_of r.choice ≡ 1
  held : signature r.choice (state_at r.circuit (run_of r.runs run) cycle) ≡ stored
  shows : Shows present (state_at r.circuit (run_of r.runs run) (suc cycle))

asked_parts : (r : Recording) (present : Seen) (stored : List Bool) (run cycle : ℕ) → is_asked (dump_at r (moment run (suc cycle))) present stored ≡ true →
    AskedParts r present stored run cycle
asked_parts r present stored run cycle asked =
    let c : Circuit = r.circuit in
    let line : Run = run_of r.runs run in
    let held = held_is (slice_get (stored_at c r.choice line (suc cycle)) 0) stored in
    let parts = and_parts ((depth_of r.choice == 1) && held) (is_shown present (state_at c line (suc cycle))) asked in
    let first = and_parts (depth_of r.choice == 1) held parts.0 in
    let one : depth_of r.choice ≡ 1 = eqb-true (depth_of r.choice) 1 first.0 in
    record {
      depth = one;
      held = held_alone c r.choice line cycle stored one first.1;
      shows = shows_where present (state_at c line (suc cycle)) parts.1;
    }

right_at : (r : Recording) (present : Seen) (stored : List Bool) (run cycle : ℕ) → IsRecording r → IsMoment r.runs (moment run (suc cycle)) →
    AskedParts r present stored run cycle → IsRightCand r.circuit r.choice present stored None (own_cand r run cycle)
right_at r present stored run cycle sound is parts =
    let c : Circuit = r.circuit in
    let line : Run = run_of r.runs run in
    let s : List Bool = state_at c line cycle in
    let x : List Bool = get_or line cycle [] in
    record {
      candidate = record {
        predecessor = is_predecessor c r.choice present (stored ∷ []) s x (length_state c line cycle) (input_width r run cycle sound is cycle (omega arith))
            (agrees_alone c r.choice s stored parts.depth parts.held) (subst (Shows present) (sym (state_next c line cycle)) parts.shows);
        leads = record { there = state_at c line (suc cycle); leads = leads_on r run cycle sound is; shown = parts.shows };
      };
      before = subst (λ (d : ℕ). ((d == 1) || bits_eq s (reset_state c)) ≡ true) (sym parts.depth) refl;
    }

-- the way of a run itself is one of a predecessor
pub own_is_right : (r : Recording) (present : Seen) (stored : List Bool) (run cycle : ℕ) (cand : Cand) → IsRecording r →
    IsOwn r present stored run cycle cand → IsRightCand r.circuit r.choice present stored None cand
own_is_right r present stored run cycle cand sound own =
    let same : cycle + 1 ≡ suc cycle = omega arith in
    subst (IsRightCand r.circuit r.choice present stored None) (sym own.is)
    (right_at r present stored run cycle sound (subst (λ (n : ℕ). IsMoment r.runs (moment run n)) same own.next)
    (asked_parts r present stored run cycle
    (subst (λ (n : ℕ). is_asked (dump_at r (moment run n)) present stored ≡ true) same own.asked)))
