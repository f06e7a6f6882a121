-- The moment before a moment leads to it.
use Rattle.std.proofs.Common.{◌≡◌, inl, inr, ℕ, suc, zero, ◌-◌, ◌≤◌, Bool, true, false, List, [], ◌∷◌, length, get_or, refl, ap, subst, sym}
use Rattle.std.proofs.Common.{◌∙◌, Option, Some, None, arith}
use Rattle.std.specs.Prelude.{IfSome, ◌==◌, ◌||◌, ◌&&◌, if◌then◌else◌, slice_get}
use Rattle.std.specs.Option.{option_to_list}
use Rattle.std.proofs.lemmas.Bool.{or_right, eq-eqb, ne_eqb}
use Rattle.bs_bits.specs.Bits.{bits_eq}
use Rattle.bs_scan.specs.declared.seen.Seen.{Seen}
use Rattle.bs_scan.specs.Seen.{whole}
use Rattle.bs_net.specs.Circuit.{Circuit, reset_state}
use Rattle.bs_scan.specs.declared.dump.Dump.{Dump}
use Rattle.bs_scan.specs.Choice.{Chosen, depth_of, IsDepth}
use Rattle.bs_scan.specs.Crash.{Recording, IsRecording}
use Rattle.bs_scan.specs.Dump.{signatures_of}
use Rattle.bs_scan.specs.Moments.{Run, Moment, moment, IsMoment, run_of, state_at}
use Rattle.bs_scan.specs.Signature.{signature, signatures_before, stored_at}
use Rattle.bs_scan.specs.Present.{Present}
use Rattle.bs_scan.proofs.CrashLemmas.{present_at}
use Rattle.bs_scan.proofs.SignatureLemmas.{bits_same, came_from, length_state}
use Rattle.bs_report.specs.declared.report.Before.{Before}
use Rattle.bs_report.specs.Step.{IsCandidate}
use Rattle.bs_report.specs.Valid.{is_right_before}
use Rattle.bs_preimage.specs.Listed.{IsRightCand}
use Rattle.bs_preimage_recorded.proofs.OwnLemmas.{input_width, leads_on, state_next}
use Rattle.bs_loop.specs.Recorded.{recorded_at, before_at, cand_at, known_before, StandsIn}

-- a moment has those of the cycles before it
pub earlier_moment : (runs : List Run) (run cycle other : ℕ) → IsMoment runs (moment run cycle) → other ≤ cycle → IsMoment runs (moment run other)
earlier_moment runs run cycle other is low = record { from_one = is.from_one; recorded = is.recorded; lasts = omega (arith, is.lasts, low) }

cand_leads : (r : Recording) (run cycle : ℕ) → IsRecording r → IsMoment r.runs (moment run (suc cycle)) →
    IsCandidate r.circuit r.choice (whole (state_at r.circuit (run_of r.runs run) (suc cycle))) (stored_at r.circuit r.choice (run_of r.runs run) (suc cycle))
    (cand_at r run cycle)
cand_leads r run cycle sound is =
    record {
      predecessor = came_from r.circuit r.choice (run_of r.runs run) cycle sound.kept (input_width r run cycle sound is);
      leads = record { there = state_at r.circuit (run_of r.runs run) (suc cycle); leads = leads_on r run cycle sound is; shown = refl };
    }

-- ---- the state before

all_true : (w x y z : Bool) → w ≡ true → x ≡ true → y ≡ true → z ≡ true → (w && x && y && z) ≡ true
all_true w x y z e f g h = rw (e, f, g, h) refl

at_one : (c : Circuit) (choice : Chosen) (run : Run) (cycle : ℕ) → depth_of choice ≡ 1 → slice_get (stored_at c choice run (suc cycle)) 1 ≡ None
at_one c choice run cycle one = ap (λ (d : ℕ). slice_get (signatures_before c choice run d (suc cycle)) 1) one

at_two : (c : Circuit) (choice : Chosen) (run : Run) (cycle : ℕ) → depth_of choice ≡ 2 →
    slice_get (stored_at c choice run (suc cycle)) 1 ≡ slice_get (signatures_before c choice run 1 cycle) 0
at_two c choice run cycle two = ap (λ (d : ℕ). slice_get (signatures_before c choice run d (suc cycle)) 1) two

before_right : (r : Recording) (run cycle : ℕ) → IsRecording r → IsMoment r.runs (moment run (suc cycle)) →
    is_right_before r.circuit r.choice (slice_get (stored_at r.circuit r.choice (run_of r.runs run) (suc cycle)) 1)
    (state_at r.circuit (run_of r.runs run) cycle) (before_at r run cycle) ≡ true
unfolding state_at
before_right r run cycle sound is = by sound.kept
  where
    c : Circuit
    c = r.circuit

    line : Run
    line = run_of r.runs run

    right : (o : Option (List Bool)) (k : ℕ) (b : Option Before) → Bool
    right o k b = is_right_before c r.choice o (state_at c line k) b

    one_alone : (one : depth_of r.choice ≡ 1) → right None cycle None ≡ true
    one_alone one = ap (λ (b : Bool). b || bits_eq (state_at c line cycle) (reset_state c)) (eq-eqb (depth_of r.choice) 1 one)

    none_at_one : depth_of r.choice ≡ 1 → before_at r run cycle ≡ None
    none_at_one one = ap (λ (b : Bool). if b || (cycle == 0) then None else Some (recorded_at r run (cycle - 1))) (eq-eqb (depth_of r.choice) 1 one)

    not_one : depth_of r.choice ≡ 2 → (depth_of r.choice == 1) ≡ false
    not_one two = ap (λ (d : ℕ). d == 1) two

    two_held : (k : ℕ) → k ≤ cycle → depth_of r.choice ≡ 2 → right (slice_get (signatures_before c r.choice line 1 k) 0) k (before_at r run k) ≡ true
    two_held zero low two =
        ap (λ (b : Bool). right None zero (if b || true then None else Some (recorded_at r run (0 - 1)))) (not_one two)
        ∙ or_right (depth_of r.choice == 1) (bits_eq (reset_state c) (reset_state c)) (bits_same (reset_state c))
    two_held (suc j) low two =
        let back : suc j - 1 ≡ j = omega arith in
        let named : before_at r run (suc j) ≡ Some (recorded_at r run j) =
        ap (λ (b : Bool). if b || (suc j == 0) then None else Some (recorded_at r run (suc j - 1))) (not_one two)
        ∙ (ap (λ (b : Bool). if b then None else Some (recorded_at r run (suc j - 1))) (ne_eqb (suc j) 0 (λ e. omega (arith, e)))
        ∙ ap (λ (n : ℕ). Some (recorded_at r run n)) back) in
        ap (right (Some (signature r.choice (state_at c line j))) (suc j)) named
        ∙ all_true _ _ _ _ (eq-eqb (length (state_at c line j)) (length c.flops) (length_state c line j))
        (eq-eqb (length (get_or line j [])) (length c.inputs) (input_width r run cycle sound is j (omega (arith, low))))
        (bits_same (signature r.choice (state_at c line j)))
        (ap (λ (s : List Bool). bits_eq s (state_at c line (suc j))) (state_next c line j) ∙ bits_same (state_at c line (suc j)))

    by : IsDepth (depth_of r.choice) → right (slice_get (stored_at c r.choice line (suc cycle)) 1) cycle (before_at r run cycle) ≡ true
    by (inl one) =
        ap (λ (o : Option (List Bool)). right o cycle (before_at r run cycle)) (at_one c r.choice line cycle one)
        ∙ (ap (right None cycle) (none_at_one one) ∙ one_alone one)
    by (inr two) =
        ap (λ (o : Option (List Bool)). right o cycle (before_at r run cycle)) (at_two c r.choice line cycle two) ∙ two_held cycle (omega arith) two

-- ---- the known candidate

-- what a present at a moment has
record IsAtMoment (r : Recording) (now : Dump) (stored : List Bool) (run cycle : ℕ) : Type 0 where
  state : now.state ≡ whole (state_at r.circuit (run_of r.runs run) cycle)
  held : stored ∷ option_to_list now.older ≡ stored_at r.circuit r.choice (run_of r.runs run) cycle
  older : now.older ≡ slice_get (stored_at r.circuit r.choice (run_of r.runs run) cycle) 1

at_moment : (r : Recording) (now : Dump) (stored : List Bool) (m : Moment) → IsRecording r → StandsIn r now m →
    signatures_of now ≡ stored ∷ option_to_list now.older → IsAtMoment r now stored m.run m.cycle
at_moment r now stored m sound at held =
    record {
      state = ap (λ (d : Dump). d.state) at.dump;
      held = sym held ∙ (ap signatures_of at.dump ∙ ap (λ (p : Present). p.stored) (present_at r m sound.kept));
      older = ap (λ (d : Dump). d.older) at.dump;
    }

cand_is_right : (r : Recording) (now : Dump) (stored : List Bool) (run cycle : ℕ) → IsRecording r → IsMoment r.runs (moment run (suc cycle)) →
    IsAtMoment r now stored run (suc cycle) → IsRightCand r.circuit r.choice now.state stored now.older (cand_at r run cycle)
cand_is_right r now stored run cycle sound is at =
    record {
      candidate = subst (λ (p : Seen). IsCandidate r.circuit r.choice p (stored ∷ option_to_list now.older) (cand_at r run cycle)) (sym at.state)
          (subst (λ (t : List (List Bool)). IsCandidate r.circuit r.choice (whole (state_at r.circuit (run_of r.runs run) (suc cycle))) t (cand_at r run cycle))
          (sym at.held) (cand_leads r run cycle sound is));
      before = ap (λ (o : Option (List Bool)). is_right_before r.circuit r.choice o (state_at r.circuit (run_of r.runs run) cycle) (before_at r run cycle))
          at.older ∙ before_right r run cycle sound is;
    }

pub known_is_right : (r : Recording) (now : Dump) (stored : List Bool) (at : Option Moment) → IsRecording r → IfSome at (StandsIn r now) →
    signatures_of now ≡ stored ∷ option_to_list now.older →
    IfSome (known_before r at) (IsRightCand r.circuit r.choice now.state stored now.older)
known_is_right r now stored None sound at held = tt
known_is_right r now stored (Some m) sound at held = by m.cycle at.moment (at_moment r now stored m sound at held)
  where
    by : (cycle : ℕ) → IsMoment r.runs (moment m.run cycle) → IsAtMoment r now stored m.run cycle →
        IfSome (if cycle == 0 then None else Some (cand_at r m.run (cycle - 1))) (IsRightCand r.circuit r.choice now.state stored now.older)
    by zero is here = tt
    by (suc cycle) is here =
        let back : suc cycle - 1 ≡ cycle = omega arith in
        subst (λ (b : Bool). IfSome (if b then None else Some (cand_at r m.run (suc cycle - 1))) (IsRightCand r.circuit r.choice now.state stored now.older))
        (sym (ne_eqb (suc cycle) 0 (λ e. omega (arith, e))))
        (subst (λ (n : ℕ). IsRightCand r.circuit r.choice now.state stored now.older (cand_at r m.run n)) (sym back)
        (cand_is_right r now stored m.run cycle sound is here))

-- the known candidate of a moment above cycle 0
pub known_is : (r : Recording) (run cycle : ℕ) → 1 ≤ cycle → known_before r (Some (moment run cycle)) ≡ Some (cand_at r run (cycle - 1))
known_is r run cycle low =
    ap (λ (b : Bool). if b then None else Some (cand_at r run (cycle - 1))) (ne_eqb cycle 0 (λ e. omega (arith, low, e)))
