-- How a backtrace whose lists are finished ends.
use Rattle.std.proofs.Common.{◌≡◌, ◌≢◌, ◌⊎◌, inl, inr, ℕ, suc, zero, ◌≤◌, ◌+◌, Bool, true, false, List, [], ◌∷◌, length, refl, ap, subst, sym, ◌∙◌}
use Rattle.std.proofs.Common.{Option, Some, None, arith, add-one}
use Rattle.std.specs.Prelude.{slice_get, option_map, All}
use Rattle.std.specs.Option.{IsSomeAnd}
use Rattle.std.specs.List.{last_or}
use Rattle.std.proofs.lemmas.Bool.{false≢true}
use Rattle.bs_scan.specs.Moments.{is_listed, run_of}
use Rattle.bs_scan.specs.Choice.{depth_of}
use Rattle.bs_scan.specs.Signature.{stored_at}
use Rattle.bs_report.specs.declared.report.Cand.{Cand}
use Rattle.bs_report.specs.declared.report.HitLine.{HitLine}
use Rattle.bs_report.specs.declared.report.ListEnd.{ListEnd}
use Rattle.bs_report.specs.declared.report.ListEnd.TheVariants as ends
use Rattle.bs_report.specs.declared.report.Step.{Step}
use Rattle.bs_report.specs.declared.report.Stop.{Stop}
use Rattle.bs_report.specs.declared.report.Stop.TheVariants as stops
use Rattle.bs_report.specs.declared.report.Report.{Report}
use Rattle.bs_scan.specs.Crash.{Crash, IsCrash}
use Rattle.bs_report.specs.Step.{listed, IsRightStep}
use Rattle.bs_scan.specs.Present.{Present, present_in}
use Rattle.bs_report.specs.Chain.{present_of_hit, present_after, last_present}
use Rattle.bs_report.specs.Stop.{IsFinished, StopsFor}
use Rattle.bs_report.specs.Good.{IsGood}
use Rattle.bs_report.specs.GoodLaw.{HitsEarlier, UnhitIsFirst, FinishedReachReset}
use Rattle.bs_report.specs.Progress.{ListBefore, GoesBack}
use Rattle.bs_report.proofs.ProgressLemmas.{progress, listed_progress, all_at, hit_at, none_at_reset}

record Before (steps : List Step) (i : ℕ) : Type 0 where
  step : Step
  is : slice_get steps i ≡ Some step

before_it : (steps : List Step) (i : ℕ) (step : Step) → slice_get steps (suc i) ≡ Some step → Before steps i
before_it [] i step e = cc
before_it (s ∷ ss) zero step e = record { step = s; is = refl }
before_it (s ∷ ss) (suc i) step e = let b = before_it ss i step e in record { step = b.step; is = b.is }

pub unhit_is_first : UnhitIsFirst
unhit_is_first crash r zero step is good e fin none = refl
unhit_is_first crash r (suc i) step is good e fin none =
    let earlier = before_it r.steps i step e in
    let h = progress crash r i earlier.step step is good earlier.is (rw add-one e) fin in
    let some : step.hit ≡ Some h.hit = h.hit_is in
    cc

-- the hit of a step, at a cycle that has gone down with each step
record Hit (step : Step) (i c : ℕ) : Type 0 where
  hit : HitLine
  is : step.hit ≡ Some hit
  low : hit.cycle + i ≤ c

hit_below : (crash : Crash) (r : Report) (first : Step) (hit : HitLine) → IsCrash crash → IsGood crash r → All (λ step. IsFinished step.end) r.steps →
    slice_get r.steps 0 ≡ Some first → first.hit ≡ Some hit → (i : ℕ) (step : Step) → slice_get r.steps i ≡ Some step → Hit step i hit.cycle
hit_below crash r first hit is good fin e h zero step s =
    let same : first ≡ step = cc in
    record { hit = hit; is = ap (λ (x : Step). x.hit) (sym same) ∙ h; low = omega arith }
hit_below crash r first hit is good fin e h (suc i) step s =
    let earlier = before_it r.steps i step s in
    let up = hit_below crash r first hit is good fin e h i earlier.step earlier.is in
    let down = progress crash r i earlier.step step is good earlier.is (rw add-one s) (all_at (λ step. IsFinished step.end) r.steps (suc i) step fin s) in
    let one : up.hit ≡ down.before = cc (up.is, down.before_is) in
    let cycles : up.hit.cycle ≡ down.before.cycle = ap (λ (x : HitLine). x.cycle) one in
    record { hit = down.hit; is = down.hit_is; low = omega (arith, up.low, down.smaller, cycles) }

record LastStep (crash : Crash) (steps : List Step) (now : Option Present) (n : ℕ) : Type 0 where
  last : Step
  is : last_or None steps ≡ Some last
  place : slice_get steps n ≡ Some last
  present : last_present crash now steps ≡ present_after crash last
  long : length steps ≡ n + 1

last_from : (crash : Crash) (s : Step) (ss : List Step) (now : Option Present) → LastStep crash (s ∷ ss) now (length ss)
last_from crash s [] now = record { last = s; is = refl; place = refl; present = refl; long = refl }
last_from crash s (t ∷ ts) now =
    let l = last_from crash t ts (present_after crash s) in
    record { last = l.last; is = l.is; place = l.place; present = l.present; long = omega arith }

first_there : (steps : List Step) (first : Step) → slice_get steps 0 ≡ Some first → (ss : List Step) × (steps ≡ first ∷ ss)
first_there [] first e = cc
first_there (s ∷ ss) first e = let same : s ≡ first = cc in (ss, ap (λ (x : Step). x ∷ ss) same)

only_reset : (crash : Crash) (r : Report) → IsGood crash r → (n c : ℕ) → LastStep crash r.steps (Some (present_in crash.dump)) n →
    ((step : Step) → slice_get r.steps n ≡ Some step → Hit step n c) →
    c + 1 ≤ r.budgets.steps → (stop : Stop) → StopsFor crash r.budgets r.steps stop → stop ≡ stops.Reset
only_reset crash r good n c last hits enough stops.Reset s = refl
only_reset crash r good n c last hits enough stops.Length s =
    let h = hits last.last last.place in
    let at_reset : h.hit.cycle ≡ 0 = omega (arith, h.low, s.0, last.long) in
    let now : last_present crash (Some (present_in crash.dump)) r.steps ≡ Some (present_of_hit crash h.hit) =
    last.present ∙ ap (option_map (present_of_hit crash)) h.is in
    absurd
    (subst (λ (o : Option Present). IsSomeAnd o (λ (now : Present). now.stored ≢ [])) now s.1
    (ap (stored_at crash.circuit crash.choice (run_of crash.runs h.hit.run)) at_reset
    ∙ none_at_reset crash.circuit crash.choice (run_of crash.runs h.hit.run) (depth_of crash.choice)))
only_reset crash r good n c last hits enough stops.Nohit s =
    let h = hits last.last last.place in
    let none = subst (λ (o : Option Step). IsSomeAnd o (λ (step : Step). (step.hit ≡ None) × IsFinished step.end × (step.cands ≢ []))) last.is s in
    cc (none.0, h.is)
only_reset crash r good n c last hits enough stops.Empty s =
    let h = hits last.last last.place in
    let none = subst (λ (o : Option Step). IsSomeAnd o (λ (step : Step). IsFinished step.end × (step.cands ≡ []))) last.is s in
    let right = all_at (IsRightStep crash) r.steps n last.last good.steps last.place in
    absurd (false≢true (sym (ap (λ (cands : List Cand). is_listed (listed cands) h.hit.state) none.1)
    ∙ (hit_at crash last.last h.hit (sym h.is ∙ right.hit)).reached))
only_reset crash r good n c last hits enough stops.Candidates s =
    let h = hits last.last last.place in
    let none = subst (λ (o : Option Step). IsSomeAnd o (λ (step : Step). (step.hit ≡ None) × (step.end ≡ ends.Candidates))) last.is s in
    cc (none.0, h.is)
only_reset crash r good n c last hits enough stops.Conflicts s =
    let h = hits last.last last.place in
    let none = subst (λ (o : Option Step). IsSomeAnd o (λ (step : Step). (step.hit ≡ None) × (step.end ≡ ends.Conflicts))) last.is s in
    cc (none.0, h.is)

pub finished_reach_reset : FinishedReachReset
finished_reach_reset crash r first hit is good fin e h enough =
    let there = first_there r.steps first e in
    let last : LastStep crash r.steps (Some (present_in crash.dump)) (length there.0) =
    subst (λ (l : List Step). LastStep crash l (Some (present_in crash.dump)) (length there.0)) (sym there.1)
    (last_from crash first there.0 (Some (present_in crash.dump))) in
    let hits = hit_below crash r first hit is good fin e h (length there.0) in
    let low = (hits last.last last.place).low in
    (only_reset crash r good (length there.0) hit.cycle last hits enough r.stop good.stop, omega (arith, low, last.long))

-- ---- whatever the budget of candidates is

abbrev is_conflicts : ListEnd → Bool
is_conflicts ends.Conflicts = true
is_conflicts end = false

finished_is_no_conflict : (end : ListEnd) → IsFinished end → end ≢ ends.Conflicts
finished_is_no_conflict end fin e = subst IsFinished e fin

candidates_are_no_conflict : (end : ListEnd) → end ≡ ends.Candidates → end ≢ ends.Conflicts
candidates_are_no_conflict end is e = false≢true (ap is_conflicts (sym is ∙ e))

-- what each later step does, where its list has not ended with conflicts
abbrev HitsBack : Report → Type 0
HitsBack r = (i : ℕ) (earlier later : Step) → slice_get r.steps i ≡ Some earlier → slice_get r.steps (i + 1) ≡ Some later → later.end ≢ ends.Conflicts →
    HitsEarlier earlier later

hits_back : (crash : Crash) (r : Report) → IsCrash crash → IsGood crash r → ListBefore crash r.steps → HitsBack r
hits_back crash r is good lists i earlier later e h out = by later.end refl
  where
    by : (end : ListEnd) → later.end ≡ end → HitsEarlier earlier later
    by (ends.Finished id) same = progress crash r i earlier later is good e h (subst IsFinished (sym same) tt)
    by ends.Candidates same = listed_progress crash r i earlier later good e h (lists i earlier later e h same)
    by ends.Conflicts same = absurd (out same)

first_unhit : (r : Report) → HitsBack r → (i : ℕ) (step : Step) → slice_get r.steps i ≡ Some step → step.end ≢ ends.Conflicts → step.hit ≡ None → i ≡ 0
first_unhit r back zero step e out none = refl
first_unhit r back (suc i) step e out none =
    let earlier = before_it r.steps i step e in
    let h = back i earlier.step step earlier.is (rw add-one e) out in
    let some : step.hit ≡ Some h.hit = h.hit_is in
    cc

-- a step whose list has not ended with conflicts hits, at a cycle that has gone down with each step
back_below : (r : Report) (first : Step) (hit : HitLine) → HitsBack r → All (λ step. step.hit ≢ None → step.end ≢ ends.Conflicts) r.steps →
    slice_get r.steps 0 ≡ Some first → first.hit ≡ Some hit → (i : ℕ) (step : Step) → slice_get r.steps i ≡ Some step → step.end ≢ ends.Conflicts →
    Hit step i hit.cycle
back_below r first hit back sound e h zero step s out =
    let same : first ≡ step = cc in
    record { hit = hit; is = ap (λ (x : Step). x.hit) (sym same) ∙ h; low = omega arith }
back_below r first hit back sound e h (suc i) step s out =
    let earlier = before_it r.steps i step s in
    let down = back i earlier.step step earlier.is (rw add-one s) out in
    let some : earlier.step.hit ≢ None = λ none. not_some down.before (sym none ∙ down.before_is) in
    let up = back_below r first hit back sound e h i earlier.step earlier.is
    (all_at (λ step. step.hit ≢ None → step.end ≢ ends.Conflicts) r.steps i earlier.step sound earlier.is some) in
    let one : up.hit ≡ down.before = cc (up.is, down.before_is) in
    let cycles : up.hit.cycle ≡ down.before.cycle = ap (λ (x : HitLine). x.cycle) one in
    record { hit = down.hit; is = down.hit_is; low = omega (arith, up.low, down.smaller, cycles) }
  where
    not_some : (x : HitLine) → None ≡ Some x → ⊥
    not_some x e = cc

-- the last step, and what is known of it where its list has not ended with conflicts
record IsLast (crash : Crash) (r : Report) (n c : ℕ) : Type 0 where
  step : LastStep crash r.steps (Some (present_in crash.dump)) n
  hits : step.last.end ≢ ends.Conflicts → Hit step.last n c
  sound : step.last.hit ≢ None → step.last.end ≢ ends.Conflicts

-- where the register is known behind the last step, it hits
last_hits : (crash : Crash) (r : Report) (n c : ℕ) (P : Present → Type 0) (l : IsLast crash r n c) →
    IsSomeAnd (last_present crash (Some (present_in crash.dump)) r.steps) P → Hit l.step.last n c
last_hits crash r n c P l s = l.hits (l.sound (λ none. subst (λ (o : Option Present). IsSomeAnd o P)
    (l.step.present ∙ ap (option_map (present_of_hit crash)) none) s))

reset_or_conflicts : (crash : Crash) (r : Report) → IsGood crash r → (n c : ℕ) → IsLast crash r n c → c + 1 ≤ r.budgets.steps → (stop : Stop) →
    StopsFor crash r.budgets r.steps stop → ((stop ≡ stops.Reset) × (length r.steps ≤ c + 1)) ⊎ (stop ≡ stops.Conflicts)
reset_or_conflicts crash r good n c l enough stops.Reset s =
    let h = last_hits crash r n c (λ (now : Present). now.stored ≡ []) l s in inl (refl, omega (arith, h.low, l.step.long))
reset_or_conflicts crash r good n c l enough stops.Length s =
    let h = last_hits crash r n c (λ (now : Present). now.stored ≢ []) l s.1 in
    let at_reset : h.hit.cycle ≡ 0 = omega (arith, h.low, s.0, l.step.long, enough) in
    let now : last_present crash (Some (present_in crash.dump)) r.steps ≡ Some (present_of_hit crash h.hit) =
    l.step.present ∙ ap (option_map (present_of_hit crash)) h.is in
    absurd
    (subst (λ (o : Option Present). IsSomeAnd o (λ (now : Present). now.stored ≢ [])) now s.1
    (ap (stored_at crash.circuit crash.choice (run_of crash.runs h.hit.run)) at_reset
    ∙ none_at_reset crash.circuit crash.choice (run_of crash.runs h.hit.run) (depth_of crash.choice)))
reset_or_conflicts crash r good n c l enough stops.Nohit s =
    let none = subst (λ (o : Option Step). IsSomeAnd o (λ (step : Step). (step.hit ≡ None) × IsFinished step.end × (step.cands ≢ []))) l.step.is s in
    let h = l.hits (finished_is_no_conflict l.step.last.end none.1) in
    cc (none.0, h.is)
reset_or_conflicts crash r good n c l enough stops.Empty s =
    let none = subst (λ (o : Option Step). IsSomeAnd o (λ (step : Step). IsFinished step.end × (step.cands ≡ []))) l.step.is s in
    let h = l.hits (finished_is_no_conflict l.step.last.end none.0) in
    let right = all_at (IsRightStep crash) r.steps n l.step.last good.steps l.step.place in
    absurd (false≢true (sym (ap (λ (cands : List Cand). is_listed (listed cands) h.hit.state) none.1)
    ∙ (hit_at crash l.step.last h.hit (sym h.is ∙ right.hit)).reached))
reset_or_conflicts crash r good n c l enough stops.Candidates s =
    let none = subst (λ (o : Option Step). IsSomeAnd o (λ (step : Step). (step.hit ≡ None) × (step.end ≡ ends.Candidates))) l.step.is s in
    let h = l.hits (candidates_are_no_conflict l.step.last.end none.1) in
    cc (none.0, h.is)
reset_or_conflicts crash r good n c l enough stops.Conflicts s = inr refl

pub goes_back : (crash : Crash) (r : Report) → IsCrash crash → IsGood crash r → ListBefore crash r.steps → GoesBack r
goes_back crash r is good lists =
    let back : HitsBack r = hits_back crash r is good lists in
    record {
      later = back;
      first = first_unhit r back;
      ends = λ sound first hit e h enough.
          let there = first_there r.steps first e in
          let last : LastStep crash r.steps (Some (present_in crash.dump)) (length there.0) =
          subst (λ (l : List Step). LastStep crash l (Some (present_in crash.dump)) (length there.0)) (sym there.1)
          (last_from crash first there.0 (Some (present_in crash.dump))) in
          reset_or_conflicts crash r good (length there.0) hit.cycle
          (record {
            step = last;
            hits = back_below r first hit back sound e h (length there.0) last.last last.place;
            sound = all_at (λ step. step.hit ≢ None → step.end ≢ ends.Conflicts) r.steps (length there.0) last.last sound last.place;
          }) enough r.stop good.stop;
    }
