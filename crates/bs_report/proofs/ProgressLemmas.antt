-- Each later finished step hits earlier.
use Rattle.std.proofs.Common.{◌≡◌, ℕ, suc, zero, ◌<◌, ◌≤◌, ◌+◌, ◌-◌, Bool, true, List, [], ◌∷◌, length, get_or, refl, ap, subst, sym, ◌∙◌, ◌⊎◌, inl, inr}
use Rattle.std.proofs.Common.{Option, Some, None, arith, add-one}
use Rattle.std.specs.Prelude.{slice_get, option_map, MatchOption, All}
use Rattle.std.specs.List.{AllByRecursion as Each}
use Rattle.std.proofs.lemmas.List.Elements.{recursion_from_All}
use Rattle.bs_scan.specs.declared.seen.Seen.{Seen}
use Rattle.bs_scan.specs.Seen.{whole}
use Rattle.bs_net.specs.Circuit.{Circuit}
use Rattle.bs_scan.specs.declared.moment.Moment.{Moment}
use Rattle.bs_scan.specs.Moments.{Run, IsMoment, run_of, state_at, state_of, is_listed, first_moment}
use Rattle.bs_scan.specs.Choice.{Chosen, depth_of}
use Rattle.bs_scan.specs.Signature.{signatures_before, stored_at, predecessors}
use Rattle.bs_scan.specs.Law.{IsBefore, IsReached, IsFirstMoment}
use Rattle.bs_scan.proofs.MomentLemmas.{first_is_least}
use Rattle.bs_scan.proofs.SignatureLemmas.{came_from}
use Rattle.bs_scan.proofs.CrashLemmas.{depth_is}
use Rattle.bs_log.specs.declared.line.Line.{Line}
use Rattle.bs_log.specs.Steps.{steps_of}
use Rattle.bs_report.specs.declared.report.HitLine.{HitLine}
use Rattle.bs_report.specs.declared.report.ListEnd.{ListEnd}
use Rattle.bs_report.specs.declared.report.ListEnd.TheVariants.{Finished, Candidates, Conflicts}
use Rattle.bs_report.specs.declared.report.Step.{Step}
use Rattle.bs_report.specs.declared.report.Budgets.{Budgets}
use Rattle.bs_report.specs.declared.report.Report.{Report}
use Rattle.bs_scan.specs.Crash.{Crash, IsCrash}
use Rattle.bs_report.specs.Step.{stored_of, listed, asked_of, hit_of, IsRightStep, IsRightEnd}
use Rattle.bs_scan.specs.Present.{Present}
use Rattle.bs_report.specs.Chain.{present_of, present_of_hit, present_after, Follow}
use Rattle.bs_report.specs.Stop.{IsFinished}
use Rattle.bs_report.specs.Good.{IsGood}
use Rattle.bs_report.specs.GoodLaw.{HitsEarlier, LaterHitsAreEarlier}
use Rattle.bs_report.specs.Progress.{ListsSooner, ListsBefore}

each_at : {X : Type 0} (P : X → Type 0) (xs : List X) (i : ℕ) (x : X) → Each P xs → slice_get xs i ≡ Some x → P x
each_at P [] i x h e = cc
each_at P (y ∷ ys) zero x h e = let same : y ≡ x = cc in subst P same h.0
each_at P (y ∷ ys) (suc i) x h e = each_at P ys i x h.1 e

-- what holds of all holds of the one at a place
pub all_at : {X : Type 0} (P : X → Type 0) (xs : List X) (i : ℕ) (x : X) → All P xs → slice_get xs i ≡ Some x → P x
all_at P xs i x h e = each_at P xs i x (recursion_from_All P xs h) e

-- a step's present is that after the step before
follow_next : (crash : Crash) (now : Option Present) (steps : List Step) (i : ℕ) (earlier later : Step) → Follow crash now steps →
    slice_get steps i ≡ Some earlier → slice_get steps (suc i) ≡ Some later → present_after crash earlier ≡ Some (present_of later)
follow_next crash now [] i earlier later f e h = cc
follow_next crash now (a ∷ []) i earlier later f e h = cc
follow_next crash now (a ∷ b ∷ bs) zero earlier later f e h =
    let first : a ≡ earlier = cc in
    let second : b ≡ later = cc in
    ap (present_after crash) (sym first) ∙ (f.1.0 ∙ ap (λ (s : Step). Some (present_of s)) second)
follow_next crash now (a ∷ b ∷ bs) (suc i) earlier later f e h = follow_next crash (present_after crash a) (b ∷ bs) i earlier later f.1 e h

finished_list : (crash : Crash) (budgets : Budgets) (lines : List Line) (step : Step) (e : ListEnd) → IsFinished e →
    IsRightEnd (asked_of crash step) budgets.candidates budgets.conflicts lines step.cands e → listed step.cands ≡ asked_of crash step
finished_list crash budgets lines step (Finished id) f h = h.0
finished_list crash budgets lines step Candidates f h = absurd f
finished_list crash budgets lines step Conflicts f h = absurd f

-- a hit at an earlier cycle than this
pub record HitBelow (crash : Crash) (step : Step) (cycle : ℕ) : Type 0 where
  pub moment : Moment
  pub first : first_moment crash.circuit crash.runs (listed step.cands) ≡ Some moment
  pub below : moment.cycle < cycle

-- the register holds nothing at reset
pub none_at_reset : (c : Circuit) (choice : Chosen) (run : Run) (count : ℕ) → signatures_before c choice run count 0 ≡ []
none_at_reset c choice run zero = refl
none_at_reset c choice run (suc count) = refl

-- a list that has the state of a moment is met there or before
hit_where_listed : (crash : Crash) (run k : ℕ) (later : Step) → IsMoment crash.runs (record { run = run; cycle = k }) →
    is_listed (listed later.cands) (state_at crash.circuit (run_of crash.runs run) k) ≡ true → HitBelow crash later (suc k)
hit_where_listed crash run k later here reached =
    by (first_moment crash.circuit crash.runs (listed later.cands)) refl (record { run = run; cycle = k }) here reached refl
  where
    by : (o : Option Moment) → first_moment crash.circuit crash.runs (listed later.cands) ≡ o →
        (before : Moment) → IsMoment crash.runs before → IsReached crash.circuit crash.runs (listed later.cands) before → before.cycle ≡ k →
        HitBelow crash later (suc k)
    by None e before here reached at_k =
        absurd
        (subst (λ (o : Option Moment). MatchOption o ((m : Moment) → IsMoment crash.runs m → IsReached crash.circuit crash.runs (listed later.cands) m → ⊥)
        (IsFirstMoment crash.circuit crash.runs (listed later.cands))) e
        (first_is_least crash.circuit crash.runs (listed later.cands)) before here reached)
    by (Some m) e before here reached at_k =
        let first : IsFirstMoment crash.circuit crash.runs (listed later.cands) m =
        subst (λ (o : Option Moment). MatchOption o ((m : Moment) → IsMoment crash.runs m → IsReached crash.circuit crash.runs (listed later.cands) m → ⊥)
        (IsFirstMoment crash.circuit crash.runs (listed later.cands))) e
        (first_is_least crash.circuit crash.runs (listed later.cands)) in
        record { moment = m; first = e; below = low m before (first.least before here reached) at_k }
      where
        low : (m before : Moment) → (m ≡ before) ⊎ IsBefore m before → before.cycle ≡ k → m.cycle < suc k
        low m before (inl same) at_k = let cycles : m.cycle ≡ before.cycle = ap (λ (x : Moment). x.cycle) same in omega arith
        low m before (inr (inl lt)) at_k = omega arith
        low m before (inr (inr same)) at_k = omega (arith, same.0)

-- the list of the step has the state one cycle earlier
earlier_hit : (crash : Crash) → IsCrash crash → (run cycle : ℕ) (later : Step) → IsMoment crash.runs (record { run = run; cycle = cycle }) →
    whole (state_at crash.circuit (run_of crash.runs run) cycle) ≡ later.present →
    stored_at crash.circuit crash.choice (run_of crash.runs run) cycle ≡ stored_of later →
    listed later.cands ≡ asked_of crash later → HitBelow crash later cycle
earlier_hit crash is run zero later im st sg all =
    let none : [] ≡ stored_of later = sym (none_at_reset crash.circuit crash.choice (run_of crash.runs run) (depth_of crash.choice)) ∙ sg in
    cc
earlier_hit crash is run (suc k) later im st sg all =
    let c : Circuit = crash.circuit in
    let line : Run = run_of crash.runs run in
    let here : IsMoment crash.runs (record { run = run; cycle = k }) = record { from_one = im.from_one; recorded = im.recorded; lasts = omega (arith, im.lasts) } in
    let widths : (j : ℕ) → j ≤ k → length (get_or line j []) ≡ length c.inputs =
    λ j le. is.inputs (run - 1) [] (omega (arith, im.from_one, im.recorded)) j [] (omega (arith, im.lasts, le)) in
    let come : is_listed (predecessors c crash.choice (whole (state_at c line (suc k))) (stored_at c crash.choice line (suc k))) (state_at c line k) ≡ true =
    came_from c crash.choice line k (depth_is c crash.choice crash.dump is.fits) widths in
    let asked : is_listed (asked_of crash later) (state_at c line k) ≡ true =
    subst (λ (p : Seen). is_listed (predecessors c crash.choice p (stored_of later)) (state_at c line k) ≡ true) st
    (subst (λ (t : List (List Bool)). is_listed (predecessors c crash.choice (whole (state_at c line (suc k))) t) (state_at c line k) ≡ true) sg come) in
    hit_where_listed crash run k later here (subst (λ (states : List (List Bool)). is_listed states (state_at c line k) ≡ true) (sym all) asked)

-- the list of the step is said to have a state of an earlier moment
listed_hit : (crash : Crash) (run cycle : ℕ) (later : Step) → IsMoment crash.runs (record { run = run; cycle = cycle }) →
    stored_at crash.circuit crash.choice (run_of crash.runs run) cycle ≡ stored_of later → (1 ≤ cycle → ListsSooner crash later cycle) →
    HitBelow crash later cycle
listed_hit crash run zero later im sg there =
    let none : [] ≡ stored_of later = sym (none_at_reset crash.circuit crash.choice (run_of crash.runs run) (depth_of crash.choice)) ∙ sg in
    cc
listed_hit crash run (suc k) later im sg there =
    let s : ListsSooner crash later (suc k) = there (omega arith) in
    let b : HitBelow crash later (suc s.there.cycle) =
    hit_where_listed crash s.there.run s.there.cycle later
    (record { from_one = s.recorded.from_one; recorded = s.recorded.recorded; lasts = s.recorded.lasts }) s.is in
    record { moment = b.moment; first = b.first; below = omega (arith, b.below, s.sooner) }

-- the moment of a hit
pub record HitAt (crash : Crash) (step : Step) (hit : HitLine) : Type 0 where
  pub run_cycle : IsMoment crash.runs (record { run = hit.run; cycle = hit.cycle })
  pub state : state_at crash.circuit (run_of crash.runs hit.run) hit.cycle ≡ hit.state
  pub reached : is_listed (listed step.cands) hit.state ≡ true

pub hit_at : (crash : Crash) (step : Step) (hit : HitLine) → Some hit ≡ hit_of crash step.cands → HitAt crash step hit
hit_at crash step hit e = by (first_moment crash.circuit crash.runs (listed step.cands)) refl e
  where
    by : (o : Option Moment) → first_moment crash.circuit crash.runs (listed step.cands) ≡ o →
        Some hit ≡ option_map (λ (m : Moment). record { run = m.run; cycle = m.cycle; state = state_of crash.circuit crash.runs m }) o → HitAt crash step hit
    by None f e = cc
    by (Some m) f e =
        let first : IsFirstMoment crash.circuit crash.runs (listed step.cands) m =
        subst (λ (o : Option Moment). MatchOption o ((m : Moment) → IsMoment crash.runs m → IsReached crash.circuit crash.runs (listed step.cands) m → ⊥)
        (IsFirstMoment crash.circuit crash.runs (listed step.cands))) f
        (first_is_least crash.circuit crash.runs (listed step.cands)) in
        let same : hit ≡ record { run = m.run; cycle = m.cycle; state = state_of crash.circuit crash.runs m } = cc in
        subst (HitAt crash step) (sym same) (record { run_cycle = first.moment; state = refl; reached = first.reached })

-- what is below an earlier hit
abbrev pub FindsBelow : Crash → Step → Step → Type 0
FindsBelow crash earlier later = (before : HitLine) → earlier.hit ≡ Some before → IsMoment crash.runs (record { run = before.run; cycle = before.cycle }) →
    whole (state_at crash.circuit (run_of crash.runs before.run) before.cycle) ≡ later.present →
    stored_at crash.circuit crash.choice (run_of crash.runs before.run) before.cycle ≡ stored_of later → HitBelow crash later before.cycle

step_back : (crash : Crash) (r : Report) (i : ℕ) (earlier later : Step) → IsGood crash r →
    slice_get r.steps i ≡ Some earlier → slice_get r.steps (i + 1) ≡ Some later → FindsBelow crash earlier later → HitsEarlier earlier later
step_back crash r i earlier later good e h finds =
    let right = all_at (IsRightStep crash) r.steps i earlier good.steps e in
    let right_later = all_at (IsRightStep crash) r.steps (i + 1) later good.steps h in
    let next = follow_next crash _ r.steps i earlier later good.chain.follow e (rw add-one at h) in
    by earlier.hit refl right.hit next right_later.hit finds
  where
    by : (o : Option HitLine) → earlier.hit ≡ o → o ≡ hit_of crash earlier.cands → option_map (present_of_hit crash) o ≡ Some (present_of later) →
        later.hit ≡ hit_of crash later.cands → FindsBelow crash earlier later → HitsEarlier earlier later
    by None e h next hit finds = cc
    by (Some before) e h next hit finds =
        let present : present_of_hit crash before ≡ present_of later = cc in
        let at_before = hit_at crash earlier before h in
        let below = finds before e at_before.run_cycle
        (ap (λ (s : List Bool). whole s) at_before.state ∙ ap (λ (p : Present). p.state) present) (ap (λ (p : Present). p.stored) present) in
        record {
          before = before;
          hit = record { run = below.moment.run; cycle = below.moment.cycle; state = state_of crash.circuit crash.runs below.moment };
          before_is = e;
          hit_is = hit ∙ ap (option_map (λ (m : Moment). record { run = m.run; cycle = m.cycle; state = state_of crash.circuit crash.runs m })) below.first;
          smaller = below.below;
        }

pub progress : LaterHitsAreEarlier
progress crash r i earlier later is good e h fin =
    let all = finished_list crash r.budgets (get_or (steps_of r.log) (i + 1) []) later later.end fin (good.ends (i + 1) later h) in
    step_back crash r i earlier later good e h
    (λ before b im st sg. earlier_hit crash is before.run before.cycle later im st sg all)

-- the same, where the list is said to have the state one cycle before the hit
pub listed_progress : (crash : Crash) (r : Report) (i : ℕ) (earlier later : Step) → IsGood crash r →
    slice_get r.steps i ≡ Some earlier → slice_get r.steps (i + 1) ≡ Some later → ListsBefore crash earlier later → HitsEarlier earlier later
listed_progress crash r i earlier later good e h lists =
    step_back crash r i earlier later good e h
    (λ before b im st sg. listed_hit crash before.run before.cycle later im sg (lists.before before b))
