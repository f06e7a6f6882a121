-- The whole report.
use Rattle.std.proofs.Common.{◌≡◌, ℕ, suc, zero, ◌<◌, ◌≤◌, ◌+◌, Bool, true, false, List, [], ◌∷◌, ◌++◌, map, length, get_or, refl, ap, subst, sym}
use Rattle.std.proofs.Common.{◌∙◌, ◌⊎◌, inl, inr, Option, Some, None, arith}
use Rattle.std.specs.Prelude.{Result, Ok, Err, IfOk, slice_get, option_map, ◌==◌, ◌&&◌, All, nat_le}
use Rattle.std.specs.Option.{option_or, option_to_list, IfSome}
use Rattle.std.specs.List.{AllByRecursion as Each}
use Rattle.std.proofs.lemmas.Bool.{false≢true, leb-true}
use Rattle.std.proofs.lemmas.List.{length-append, length-map}
use Rattle.std.proofs.lemmas.List.Elements.{All-from_recursion, All-weaker, recursion_from_All}
use Rattle.bs_clause.specs.Literal.{Clause}
use Rattle.bs_log.specs.FirstRefused.{first_refused}
use Rattle.bs_log.specs.Shown.{Basis}
use Rattle.bs_scan.specs.declared.seen.Seen.{Seen}
use Rattle.bs_scan.proofs.SeenLemmas.{seen_is}
use Rattle.bs_net.specs.Circuit.{Circuit}
use Rattle.bs_scan.specs.Choice.{Chosen, depth_of, IsDepth}
use Rattle.bs_scan.specs.Moments.{Moment, Run, run_of, state_of, state_at, first_moment}
use Rattle.bs_scan.specs.Dump.{signatures_of}
use Rattle.bs_scan.specs.declared.dump.Dump.{Dump}
use Rattle.bs_scan.specs.Present.{Present, present_in}
use Rattle.bs_scan.specs.Signature.{signatures_before, parity_of}
use Rattle.bs_scan.proofs.SignatureLemmas.{length_state}
use Rattle.bs_encode.specs.Tables.{lit}
use Rattle.bs_encode.specs.Encoded.{Encoded}
use Rattle.bs_encode.specs.Assuming.{assumptions_for, steps_from, AreWide}
use Rattle.bs_encode.specs.Depth.{encoding_by, basis_of}
use Rattle.bs_encode.proofs.AssumingLemmas.{length_steps_from, assumptions_at}
use Rattle.bs_encode.specs.Listing.{IsTidy, PredecessorsAreShown}
use Rattle.bs_report.specs.declared.limits.TheConstants.{MAX_STEPS}
use Rattle.bs_report.specs.declared.report.HitLine.{HitLine}
use Rattle.bs_report.specs.declared.report.Step.{Step}
use Rattle.bs_report.specs.declared.report.Budgets.{Budgets}
use Rattle.bs_report.specs.declared.report.Report.{Report}
use Rattle.bs_report.specs.declared.part.Part.{Part}
use Rattle.bs_report.specs.declared.part.Part.TheVariants as parts
use Rattle.bs_scan.specs.Crash.{Recording, IsRecording, Crash, crash_of, DumpFits}
use Rattle.bs_scan.proofs.CrashLemmas.{crash_is}
use Rattle.bs_report.specs.Step.{stored_of, listed, hit_of}
use Rattle.bs_report.specs.Chain.{present_of, present_of_hit, present_after, last_present}
use Rattle.bs_report.specs.Valid.{unless, cause_after, is_cause, is_right_trace, has_state, has_stored, same_hit, first_of_all, each_step, step_parts}
use Rattle.bs_report.specs.Valid.{log_parts, due_at, first_failing}
use Rattle.bs_report.specs.Trace.{trace_end}
use Rattle.bs_report.specs.ValidLaw.{IsEncoded}
use Rattle.bs_report.proofs.GoodLemmas.{valid_is_good}
use Rattle.bs_report.proofs.ValidLemmas.{all_same_is, ascend_is, both}
use Rattle.bs_audit.specs.Following.{begin_parts, cand_parts, list_parts, parts_from, following_parts, first_from, IsWalked}
use Rattle.bs_audit.specs.declared.steps.StepsWalk.{StepsWalk}
use Rattle.bs_audit.specs.declared.steps.StepsWalk.TheVariants.{Fails, Holds}
use Rattle.bs_audit.specs.Logged.{basis_with, refused_part, logged_parts, behind_parts, first_after, IsFit, Suits, AreFit, LeavesFit}
use Rattle.bs_audit.specs.Finding.{basis_for, ValidReportsAreGood}
use Rattle.bs_audit.proofs.Follows.{first_append, cand_holds, lent_widths, right_inputs, right_widths, hit_line_is}
use Rattle.bs_report.specs.WideCands.{HasWideCands}

-- ---- the parts of the steps are those from the present where each is due

-- the steps from one on, where the first is due to begin at a present
due_from : (crash : Crash) (r : Report) (i : ℕ) (steps : List Step) (due : Option Present) →
    ((k : ℕ) → k < length steps → due_at crash r.steps (i + k) ≡ get_or (due ∷ map (present_after crash) steps) k None) →
    each_step (step_parts crash r) i steps ≡ following_parts crash r.budgets i due steps
due_from crash r i [] due h = refl
due_from crash r i (step ∷ steps) due h =
    let place : i ≡ i + 0 = omega arith in
    let here : due_at crash r.steps i ≡ due = ap (due_at crash r.steps) place ∙ h 0 (omega arith) in
    ap (λ (o : Option Present).
    (begin_parts i o step ++ (cand_parts crash r.budgets i step 0 (length step.cands) ++ list_parts crash r.budgets i step)) ++ each_step
    (step_parts crash r) (i + 1) steps) here
    ∙ ap (λ (l : List (Option Part)). parts_from crash r.budgets i due step ++ l)
    (due_from crash r (i + 1) steps (present_after crash step)
    (λ k lt. let next : i + 1 + k ≡ i + suc k = omega arith in ap (due_at crash r.steps) next ∙ h (suc k) (omega (arith, lt))))

pub steps_follow : (crash : Crash) (r : Report) →
    first_of_all (each_step (step_parts crash r) 0 r.steps) ≡ first_from crash r.budgets 0 (Some (present_in crash.dump)) r.steps
steps_follow crash r =
    ap first_of_all
    (due_from crash r 0 r.steps (Some (present_in crash.dump)) (λ k lt. let place : 0 + k ≡ k = omega arith in ap (due_at crash r.steps) place))

-- a report of another depth
pub format_fails : (crash : Crash) (basis : Basis) (r : Report) → (r.depth == depth_of crash.choice) ≡ false → Some parts.Format ≡ first_failing crash basis r
unfolding first_failing
format_fails crash basis r e =
    let rest : List (Option Part) =
    each_step (step_parts crash r) 0 r.steps ++ behind_parts (last_present crash (Some (present_in crash.dump)) r.steps) (trace_end crash r.steps) basis r in
    sym (ap (λ (b : Bool). first_of_all (unless b parts.Format ∷ rest)) e)

-- the first part that fails of a report of the signature's depth: of the steps, or behind them
whole : (crash : Crash) (basis : Basis) (r : Report) → (r.depth == depth_of crash.choice) ≡ true → first_failing crash basis r
    ≡ option_or (first_from crash r.budgets 0 (Some (present_in crash.dump)) r.steps)
    (first_of_all (behind_parts (last_present crash (Some (present_in crash.dump)) r.steps) (trace_end crash r.steps) basis r))
unfolding first_failing
whole crash basis r of =
    let rest : List (Option Part) =
    each_step (step_parts crash r) 0 r.steps ++ behind_parts (last_present crash (Some (present_in crash.dump)) r.steps) (trace_end crash r.steps) basis r in
    ap (λ (b : Bool). first_of_all (unless b parts.Format ∷ rest)) of
    ∙ (first_append (each_step (step_parts crash r) 0 r.steps)
    (behind_parts (last_present crash (Some (present_in crash.dump)) r.steps) (trace_end crash r.steps) basis r)
    ∙ ap (λ o. option_or o (first_of_all (behind_parts (last_present crash (Some (present_in crash.dump)) r.steps) (trace_end crash r.steps) basis r)))
    (steps_follow crash r))

pub fails_in_steps : (crash : Crash) (basis : Basis) (r : Report) (part : Part) → (r.depth == depth_of crash.choice) ≡ true →
    IsWalked crash r (Fails part) → Some part ≡ first_failing crash basis r
fails_in_steps crash basis r part of walked =
    sym (whole crash basis r of
    ∙ ap (λ o. option_or o (first_of_all (behind_parts (last_present crash (Some (present_in crash.dump)) r.steps) (trace_end crash r.steps) basis r))) walked)

pub fails_behind : (crash : Crash) (basis : Basis) (r : Report) (due : Option Dump) (part : Option Part) → (r.depth == depth_of crash.choice) ≡ true →
    IsWalked crash r (Holds due) →
    part ≡ first_of_all (behind_parts (option_map present_in due) (trace_end crash r.steps) basis r) → part ≡ first_failing crash basis r
fails_behind crash basis r due part of walked e =
    e
    ∙ sym
    (whole crash basis r of
    ∙ (ap (λ o. option_or o (first_of_all (behind_parts (last_present crash (Some (present_in crash.dump)) r.steps) (trace_end crash r.steps) basis r))) walked.0
    ∙ ap (λ o. first_of_all (behind_parts o (trace_end crash r.steps) basis r)) walked.1))

-- ---- the steps have the widths

pub record IsWide (crash : Crash) (now : Present) : Type 0 where
  pub state : length now.state.bits ≡ length crash.circuit.flops
  pub stored : Each (λ t. length t ≡ length crash.choice.items) now.stored
  pub few : length now.stored ≤ depth_of crash.choice

none_both : (xs ys : List (Option Part)) → first_of_all (xs ++ ys) ≡ None → (first_of_all xs ≡ None) × (first_of_all ys ≡ None)
none_both xs ys e = by (first_of_all xs) refl (sym (first_append xs ys) ∙ e)
  where
    by : (o : Option Part) → first_of_all xs ≡ o → option_or o (first_of_all ys) ≡ None → (first_of_all xs ≡ None) × (first_of_all ys ≡ None)
    by None h f = (h, f)
    by (Some part) h f = cc

none_first : (b : Bool) (part : Part) (rest : List (Option Part)) → first_of_all (unless b part ∷ rest) ≡ None → (b ≡ true) × (first_of_all rest ≡ None)
none_first true part rest e = (refl, e)
none_first false part rest e = cc

stored_wide : (c : Circuit) (choice : Chosen) (run : Run) (count k : ℕ) →
    Each (λ t. length t ≡ length choice.items) (signatures_before c choice run count k)
stored_wide c choice run zero k = tt
stored_wide c choice run (suc count) zero = tt
stored_wide c choice run (suc count) (suc k) = (length-map choice.items (parity_of (state_at c run k)), stored_wide c choice run count k)

few_of : (o : Option (List Bool)) → length (option_to_list o) ≤ 1
few_of None = omega arith
few_of (Some t) = omega arith

few_held : (c : Circuit) (choice : Chosen) (run : Run) (count k : ℕ) → length (signatures_before c choice run count k) ≤ count
few_held c choice run zero k = omega arith
few_held c choice run (suc count) zero = omega arith
few_held c choice run (suc count) (suc k) = let fewer = few_held c choice run count k in omega (arith, fewer)

-- a register that keeps one signature holds no older one
few_in : (depth : ℕ) (stored older : Option (List Bool)) → IsDepth depth → (depth ≡ 1 → older ≡ None) →
    length (option_to_list stored ++ option_to_list older) ≤ depth
few_in depth stored older (inl one) alone =
    let none : option_to_list older ≡ [] = ap option_to_list (alone one) in
    let some = few_of stored in
    let all : length (option_to_list stored ++ option_to_list older) ≡ length (option_to_list stored) + 0 =
    ap (λ (ts : List (List Bool)). length (option_to_list stored ++ ts)) none ∙ length-append (option_to_list stored) [] in
    omega (arith, one, some, all)
few_in depth stored older (inr two) alone =
    let some = few_of stored in
    let other = few_of older in
    omega (arith, two, some, other, length-append (option_to_list stored) (option_to_list older))

hit_wide : (crash : Crash) (o : Option Moment) →
    IfSome (option_map (present_of_hit crash)
    (option_map (λ (m : Moment). record { run = m.run; cycle = m.cycle; state = state_of crash.circuit crash.runs m }) o)) (IsWide crash)
hit_wide crash None = tt
hit_wide crash (Some m) =
    record {
      state = length_state crash.circuit (run_of crash.runs m.run) m.cycle;
      stored = stored_wide crash.circuit crash.choice (run_of crash.runs m.run) (depth_of crash.choice) m.cycle;
      few = few_held crash.circuit crash.choice (run_of crash.runs m.run) (depth_of crash.choice) m.cycle;
    }

record Begins (crash : Crash) (step : Step) : Type 0 where
  present : length step.present.bits ≡ length crash.circuit.flops
  stored : length step.stored ≡ length crash.choice.items
  older : AreWide (length crash.choice.items) step.older
  alone : depth_of crash.choice ≡ 1 → step.older ≡ None

-- one signature alone
no_older : (stored : List Bool) (older : Option (List Bool)) → length (stored ∷ option_to_list older) ≤ 1 → older ≡ None
no_older stored None few = refl
no_older stored (Some t) few = absurd (omega (arith, few))

begins : (crash : Crash) (due : Option Present) (step : Step) → IfSome due (IsWide crash) → has_state due step.present ≡ true →
    has_stored due (stored_of step) ≡ true → Begins crash step
begins crash None step wide e f = absurd (false≢true e)
begins crash (Some due) step wide e f =
    let same : stored_of step ≡ due.stored = all_same_is (stored_of step) due.stored f in
    let each : Each (λ (t : List Bool). length t ≡ length crash.choice.items) (stored_of step) =
    subst (Each (λ (t : List Bool). length t ≡ length crash.choice.items)) (sym same) wide.stored in
    let few : length (stored_of step) ≤ depth_of crash.choice = subst (λ (ts : List (List Bool)). length ts ≤ depth_of crash.choice) (sym same) wide.few in
    record {
      present = ap (λ (p : Seen). length p.bits) (seen_is step.present due.state e) ∙ wide.state;
      stored = each.0;
      older = All-from_recursion (λ (t : List Bool). length t ≡ length crash.choice.items) (option_to_list step.older) each.1;
      alone = λ one. no_older step.stored step.older (omega (arith, one, few));
    }

fit_from : (crash : Crash) (budgets : Budgets) (i : ℕ) (due : Option Present) (steps : List Step) → IfSome due (IsWide crash) →
    first_from crash budgets i due steps ≡ None →
    Each (IsFit crash.circuit (length crash.choice.items) (depth_of crash.choice)) steps
fit_from crash budgets i due [] wide e = tt
fit_from crash budgets i due (step ∷ steps) wide e =
    let all = none_both (parts_from crash budgets i due step) (following_parts crash budgets (i + 1) (present_after crash step) steps) e in
    let first = none_both (begin_parts i due step) (cand_parts crash budgets i step 0 (length step.cands) ++ list_parts crash budgets i step) all.0 in
    let lists = none_both (cand_parts crash budgets i step 0 (length step.cands)) (list_parts crash budgets i step) first.1 in
    let state =
    none_first (has_state due step.present) (parts.Present (i + 1)) (unless (has_stored due (stored_of step)) (parts.Stored (i + 1)) ∷ []) first.0 in
    let stored = none_first (has_stored due (stored_of step)) (parts.Stored (i + 1)) [] state.1 in
    let begin = begins crash due step wide state.0 stored.0 in
    let count = none_first _ (parts.Listed (i + 1)) (unless (same_hit step.hit (hit_of crash step.cands)) (parts.Hit (i + 1)) ∷ []) lists.1 in
    let hit = none_first (same_hit step.hit (hit_of crash step.cands)) (parts.Hit (i + 1)) [] count.1 in
    let after : IfSome (present_after crash step) (IsWide crash) =
    subst (λ (o : Option HitLine). IfSome (option_map (present_of_hit crash) o) (IsWide crash)) (sym (hit_line_is step.hit (hit_of crash step.cands) hit.0))
    (hit_wide crash (first_moment crash.circuit crash.runs (listed step.cands))) in (
      record {
        present = begin.present;
        stored = begin.stored;
        older = begin.older;
        alone = begin.alone;
        ascend = ascend_is crash budgets step (λ j lt. cand_holds crash budgets i step 0 (length step.cands) lists.0 j (omega arith) (omega (arith, lt)));
        cands = record {
          states = lent_widths (length crash.circuit.flops) step.cands (right_widths crash budgets i step lists.0);
          inputs = right_inputs crash budgets i step lists.0;
        };
        widths = right_widths crash budgets i step lists.0;
      },
      fit_from crash budgets (i + 1) (present_after crash step) steps after all.1,
    )

pub steps_are_fit : (crash : Crash) (r : Report) (due : Option Dump) → DumpFits crash.circuit crash.choice crash.dump →
    IsWalked crash r (Holds due) → All (IsFit crash.circuit (length crash.choice.items) (depth_of crash.choice)) r.steps
steps_are_fit crash r due fits walked =
    All-from_recursion (IsFit crash.circuit (length crash.choice.items) (depth_of crash.choice)) r.steps
    (fit_from crash r.budgets 0 (Some (present_in crash.dump)) r.steps
    (record {
      state = fits.state;
      stored = recursion_from_All (λ (t : List Bool). length t ≡ length crash.choice.items) (signatures_of crash.dump) fits.signatures;
      few = subst (λ (n : ℕ). length (signatures_of crash.dump) ≤ n) fits.depth
          (few_in crash.dump.depth crash.dump.stored crash.dump.older fits.sound.kept fits.sound.alone);
    }) walked.0)

-- ---- a valid report is good

presents_get : (steps : List Step) (i : ℕ) (step : Step) → slice_get steps i ≡ Some step → slice_get (map present_of steps) i ≡ Some (present_of step)
presents_get [] i step h = cc
presents_get (s ∷ ss) zero step h = let same : s ≡ step = cc in ap (λ (s : Step). Some (present_of s)) same
presents_get (s ∷ ss) (suc i) step h = presents_get ss i step h

is_encoded : (crash : Crash) (steps : List Step) → PredecessorsAreShown crash.circuit crash.choice (encoding_by crash.circuit crash.choice) →
    IsEncoded crash (basis_of crash.circuit crash.choice (map present_of steps)) steps
is_encoded crash steps shown =
    let e : Encoded = encoding_by crash.circuit crash.choice in
    record {
      each_step = length_steps_from e 1 (map present_of steps) ∙ length-map steps present_of;
      shown = λ i step s x at ws wx agree next.
          let place : 1 + i ≡ i + 1 = omega arith in
          shown (basis_of crash.circuit crash.choice (map present_of steps)).problem i (present_of step) s x refl refl
          (assumptions_at e 1 (map present_of steps) i (present_of step) (presents_get steps i step at)
          ∙ ap (λ (k : ℕ). Some (assumptions_for e (lit (e.variables + k) true) (present_of step))) place) ws wx agree next;
    }

pub valid_good : (r : Recording) → IsRecording r → PredecessorsAreShown r.circuit r.choice (encoding_by r.circuit r.choice) → ValidReportsAreGood r
valid_good r sound shown dump report fits valid =
    valid_is_good (crash_of r dump) (basis_for (crash_of r dump) report) report (crash_is r dump sound fits)
    (is_encoded (crash_of r dump) report.steps shown) valid

-- ---- the log

pub same_basis : (c : Circuit) (choice : Chosen) (presents : List Present) (e : Encoded) (assumptions : List Clause) → e ≡ encoding_by c choice →
    assumptions ≡ steps_from e 1 presents →
    basis_with e assumptions ≡ basis_of c choice presents
same_basis c choice presents e assumptions h a = ap (basis_with e) a ∙ ap (λ (e : Encoded). basis_with e (steps_from e 1 presents)) h

older_suits : (c : Circuit) (choice : Chosen) (e : Encoded) (older : Option (List Bool)) → IsDepth (depth_of choice) → IsTidy c choice e →
    (depth_of choice ≡ 1 → older ≡ None) → AreWide (length choice.items) older → AreWide (length e.older_signatures) older
older_suits c choice e older (inl one) tidy alone wide =
    subst (AreWide (length e.older_signatures)) (sym (alone one)) (All-from_recursion (λ (t : List Bool). length t ≡ length e.older_signatures) [] tt)
older_suits c choice e older (inr two) tidy alone wide = subst (λ (n : ℕ). AreWide n older) (sym (tidy.older_signatures_width two)) wide

pub tidy_fit : (c : Circuit) (choice : Chosen) (e : Encoded) (steps : List Step) → IsDepth (depth_of choice) → IsTidy c choice e →
    All (IsFit c (length choice.items) (depth_of choice)) steps → AreFit e steps
tidy_fit c choice e steps kept tidy sound =
    All-weaker (IsFit c (length choice.items) (depth_of choice)) (Suits e)
    (λ step fit.
    record {
      present = fit.present ∙ sym tidy.states_width;
      stored = fit.stored ∙ sym tidy.signatures_width;
      older = older_suits c choice e step.older kept tidy fit.alone fit.older;
      ascend = fit.ascend;
      widths = subst (λ (n : ℕ). All (λ s. length s ≡ n) (listed step.cands)) (sym tidy.states_width) fit.widths;
    }) steps sound

pub log_refused : (basis : Basis) (r : Report) (part : Part) → Some part ≡ refused_part (first_refused basis.problem r.log) →
    Some part ≡ first_of_all (logged_parts basis r)
log_refused basis r part e = ap (λ o. option_or o (first_of_all (each_step (log_parts basis r) 0 r.steps))) e

pub log_accepted : {E : Type 0} (basis : Basis) (r : Report) (result : Result (Option Part) E) → None ≡ refused_part (first_refused basis.problem r.log) →
    IfOk result (λ part. part ≡ first_of_all (each_step (log_parts basis r) 0 r.steps)) → IfOk result (λ part. part ≡ first_of_all (logged_parts basis r))
log_accepted basis r (Ok part) e h = h ∙ ap (λ o. option_or o (first_of_all (each_step (log_parts basis r) 0 r.steps))) e
log_accepted basis r (Err error) e h = tt

pub log_of : {E : Type 0} (basis other : Basis) (r : Report) (result : Result (Option Part) E) → basis ≡ other →
    IfOk result (λ part. part ≡ first_of_all (logged_parts basis r)) →
    IfOk result (λ part. part ≡ first_of_all (logged_parts other r))
log_of basis other r (Ok part) same h = h ∙ ap (λ (basis : Basis). first_of_all (logged_parts basis r)) same
log_of basis other r (Err error) same h = tt

-- ---- behind the steps

pub stop_fails : (due : Option Present) (last : Seen) (basis : Basis) (r : Report) (right : Bool) →
    right ≡ (nat_le (length r.steps) r.budgets.steps && is_cause r.stop (cause_after r.budgets r.steps due)) →
    right ≡ false → Some parts.Stop ≡ first_of_all (behind_parts due last basis r)
stop_fails due last basis r right e f =
    sym
    (ap (λ (b : Bool).
    option_or (unless b parts.Stop)
    (first_of_all
    (unless (is_right_trace last r) parts.Trace ∷ logged_parts basis r)))
    (sym e ∙ f))

pub trace_fails : (due : Option Present) (last : Seen) (basis : Basis) (r : Report) (stop right : Bool) →
    stop ≡ (nat_le (length r.steps) r.budgets.steps && is_cause r.stop (cause_after r.budgets r.steps due)) →
    stop ≡ true → right ≡ is_right_trace last r → right ≡ false →
    Some parts.Trace ≡ first_of_all (behind_parts due last basis r)
trace_fails due last basis r stop right s t e f =
    sym
    (ap (λ (b : Bool).
    option_or (unless b parts.Stop)
    (first_of_all
    (unless (is_right_trace last r) parts.Trace ∷ logged_parts basis r)))
    (sym s ∙ t)
    ∙ ap (λ (b : Bool). option_or (unless b parts.Trace) (first_of_all (logged_parts basis r))) (sym e ∙ f))

pub behind_log : {E : Type 0} (due : Option Present) (last : Seen) (basis : Basis) (r : Report) (stop right : Bool) (result : Result (Option Part) E) →
    stop ≡ (nat_le (length r.steps) r.budgets.steps && is_cause r.stop (cause_after r.budgets r.steps due)) →
    stop ≡ true → right ≡ is_right_trace last r → right ≡ true →
    IfOk result (λ part. part ≡ first_of_all (logged_parts basis r)) → IfOk result (λ part. part ≡ first_of_all (behind_parts due last basis r))
behind_log due last basis r stop right (Ok part) s t e f h =
    h
    ∙ sym
    (ap (λ (b : Bool).
    option_or (unless b parts.Stop)
    (first_of_all
    (unless (is_right_trace last r) parts.Trace ∷ logged_parts basis r)))
    (sym s ∙ t)
    ∙ ap (λ (b : Bool). option_or (unless b parts.Trace) (first_of_all (logged_parts basis r))) (sym e ∙ f))
behind_log due last basis r stop right (Err error) s t e f h = tt

pub few_steps : (due : Option Present) (r : Report) (stop : Bool) →
    stop ≡ (nat_le (length r.steps) r.budgets.steps && is_cause r.stop (cause_after r.budgets r.steps due)) → stop ≡ true →
    r.budgets.steps ≤ MAX_STEPS → length r.steps ≤ MAX_STEPS
few_steps due r stop s t few =
    let within : length r.steps ≤ r.budgets.steps =
    leb-true (length r.steps) r.budgets.steps
    (both (nat_le (length r.steps) r.budgets.steps) (is_cause r.stop (cause_after r.budgets r.steps due)) (sym s ∙ t)).0 in
    omega (arith, within, few)

-- so all have wide candidates
pub fit_cands : (c : Circuit) (items depth : ℕ) (steps : List Step) → All (IsFit c items depth) steps → All (HasWideCands c) steps
fit_cands c items depth steps fit = All-weaker (IsFit c items depth) (HasWideCands c) (λ step is. is.cands) steps fit

pub leaves_fit : (crash : Crash) (r : Report) (walk : StepsWalk) → DumpFits crash.circuit crash.choice crash.dump →
    IsWalked crash r walk → LeavesFit crash.circuit (length crash.choice.items) (depth_of crash.choice) r.steps walk
leaves_fit crash r (Fails part) fits walked = tt
leaves_fit crash r (Holds due) fits walked = steps_are_fit crash r due fits walked

pub part_is : (crash : Crash) (basis : Basis) (r : Report) (walk : StepsWalk) → (r.depth == depth_of crash.choice) ≡ true → IsWalked crash r walk →
    first_after walk (trace_end crash r.steps) basis r ≡ first_failing crash basis r
part_is crash basis r (Fails part) of walked = fails_in_steps crash basis r part of walked
part_is crash basis r (Holds due) of walked =
    fails_behind crash basis r due (first_of_all (behind_parts (option_map present_in due) (trace_end crash r.steps) basis r)) of walked refl

pub parts_are : {E : Type 0} (crash : Crash) (basis : Basis) (r : Report) (walk : StepsWalk) (result : Result (Option Part) E) →
    (r.depth == depth_of crash.choice) ≡ true → IsWalked crash r walk →
    IfOk result (λ part. part ≡ first_after walk (trace_end crash r.steps) basis r) → IfOk result (λ part. part ≡ first_failing crash basis r)
parts_are crash basis r walk (Ok part) of walked h = h ∙ part_is crash basis r walk of walked
parts_are crash basis r walk (Err error) of walked h = tt
