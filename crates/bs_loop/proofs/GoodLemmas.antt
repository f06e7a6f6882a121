-- The report of the steps made is good, and has the log that it owes.
use Rattle.std.proofs.Common.{◌≡◌, ℕ, ◌+◌, ◌-◌, ◌≤◌, true, false, List, [], length, map, reverse, ap, subst, sym, ◌∙◌, Option, Some, arith}
use Rattle.std.specs.Prelude.{slice_get, slice_index_or, unwrap_or, option_map}
use Rattle.std.proofs.lemmas.List.{reverse-reverse}
use Rattle.std.proofs.lemmas.Option.{slice_get-map}
use Rattle.bs_clause.specs.UnitRun.{IsUnitRun}
use Rattle.bs_clause.specs.Literal.{Clause}
use Rattle.bs_log.specs.declared.line.Line.{Line}
use Rattle.bs_log.specs.History.{Problem}
use Rattle.bs_log.specs.Steps.{steps_of}
use Rattle.bs_log.specs.Lean.{IsLean}
use Rattle.bs_log.specs.Refusal.{assumptions_of, history_of, IsAccepted}
use Rattle.bs_scan.specs.declared.dump.Dump.{Dump}
use Rattle.bs_scan.specs.Choice.{depth_of}
use Rattle.bs_scan.specs.Crash.{Recording, IsRecording, Crash, crash_of, DumpFits}
use Rattle.bs_scan.proofs.CrashLemmas.{crash_is}
use Rattle.bs_encode.specs.Tables.{lit}
use Rattle.bs_encode.specs.Assuming.{assumptions_for, steps_from, problem_of}
use Rattle.bs_encode.specs.Depth.{basis_of}
use Rattle.bs_encode.proofs.AssumingLemmas.{assumptions_at}
use Rattle.bs_scan.specs.Present.{Present}
use Rattle.bs_report.specs.declared.report.Step.{Step}
use Rattle.bs_report.specs.declared.report.Budgets.{Budgets}
use Rattle.bs_report.specs.declared.report.Report.{Report}
use Rattle.bs_report.proofs.LoggedLemmas.{good_is_valid}
use Rattle.bs_report.specs.Chain.{present_of}
use Rattle.bs_report.specs.Trace.{IsTrace, trace_end, trace_inputs, trace_states}
use Rattle.bs_report.specs.declared.report.Stop.{Stop}
use Rattle.bs_report.specs.Stop.{StopsFor}
use Rattle.bs_report.specs.Good.{IsGood}
use Rattle.bs_report.specs.Valid.{finishes_in, is_right_finish, IsLogged, IsValid}
use Rattle.bs_preimage.specs.Preimage.{PreimageState}
use Rattle.bs_loop.specs.Made.{encoding_in, activation_at, IsLoggedStep}
use Rattle.bs_loop.specs.Bound.{HasBound}
use Rattle.bs_solve.specs.Budget.{HasFewLemmas}
use Rattle.bs_scan.specs.Crash.{IsCrash}
use Rattle.bs_report.specs.Progress.{GoesBack}
use Rattle.bs_report.proofs.TraceEndLemmas.{goes_back}
use Rattle.bs_loop.specs.Report.{IsOfWay, IsAlikeButLog}
use Rattle.bs_loop.specs.Way.{HasEnded}

-- the report of a way that has ended
pub record IsReportOf (crash : Crash) (budgets : Budgets) (s : PreimageState) (r : Report) : Type 0 where
  pub ended : HasEnded crash budgets r.steps s r.stop
  pub depth : r.depth ≡ depth_of crash.choice
  pub asked : r.budgets ≡ budgets
  pub trace : IsTrace crash r
  pub log : history_of r.log ≡ s.history

-- the report of a way, with its log
pub report_is : (r : Recording) (dump : Dump) (budgets : Budgets) (s : PreimageState) (before after : Report) → DumpFits r.circuit r.choice dump →
    HasEnded (crash_of r dump) budgets before.steps s before.stop → IsOfWay (crash_of r dump) budgets before.steps before.stop before → IsAlikeButLog before after →
    history_of after.log ≡ s.history → IsReportOf (crash_of r dump) budgets s after
report_is r dump budgets s before after fits ended way alike log =
    record {
      ended = subst (λ (l : List Step). HasEnded (crash_of r dump) budgets l s after.stop) (sym alike.steps_are)
          (subst (λ (stop : Stop). HasEnded (crash_of r dump) budgets before.steps s stop) (sym alike.stop_is) ended);
      depth = alike.depth ∙ (way.depth ∙ fits.depth);
      asked = alike.asked ∙ way.asked;
      trace = record {
        states = alike.states ∙ (way.states ∙ ap (λ (l : List Step). trace_states (trace_end (crash_of r dump) l).bits l) (sym alike.steps_are));
        inputs = alike.inputs ∙ (way.inputs ∙ ap trace_inputs (sym alike.steps_are));
        free = alike.free ∙ (way.free ∙ ap (λ (l : List Step). (trace_end (crash_of r dump) l).free) (sym alike.steps_are));
      };
      log = log;
    }

pub report_goes_back : (crash : Crash) (budgets : Budgets) (s : PreimageState) (r : Report) → IsCrash crash → IsReportOf crash budgets s r → IsGood crash r →
    GoesBack r
report_goes_back crash budgets s r is of good = goes_back crash r is good of.ended.made.back

pub logged_in : (crash : Crash) (budgets : Budgets) (s : PreimageState) (r : Report) → IsReportOf crash budgets s r →
    (i : ℕ) (step : Step) → slice_get r.steps i ≡ Some step → IsLoggedStep crash r.budgets i (slice_index_or (steps_of r.log) i []) step
logged_in crash budgets s r of i step is =
    let log : reverse s.history ≡ r.log = ap reverse (sym of.log) ∙ reverse-reverse r.log in
    subst (λ (b : Budgets). IsLoggedStep crash b i (slice_index_or (steps_of r.log) i []) step) (sym of.asked)
    (subst (λ (l : List Line). IsLoggedStep crash budgets i (slice_index_or (steps_of l) i []) step) log (of.ended.made.logged i step is))

pub is_good : (crash : Crash) (budgets : Budgets) (s : PreimageState) (r : Report) → IsReportOf crash budgets s r → IsGood crash r
is_good crash budgets s r of =
    record {
      steps = of.ended.made.right;
      ends = λ i step is. (logged_in crash budgets s r of i step is).ends;
      chain = record { few = subst (λ (b : Budgets). length r.steps ≤ b.steps) (sym of.asked) of.ended.few; follow = of.ended.made.follow };
      stop = subst (λ (b : Budgets). StopsFor crash b r.steps r.stop) (sym of.asked) of.ended.cause;
      trace = of.trace;
    }

assumed : (crash : Crash) (steps : List Step) (i : ℕ) (step : Step) → slice_get steps i ≡ Some step →
    assumptions_for (encoding_in crash) (activation_at crash i) (present_of step) ≡ assumptions_of (problem_of (encoding_in crash) (map present_of steps)) (i + 1)
assumed crash steps i step is =
    let e = encoding_in crash in
    let qs : List Present = map present_of steps in
    let there : slice_get qs i ≡ Some (present_of step) = slice_get-map present_of steps i ∙ ap (option_map present_of) is in
    let number : 1 + i ≡ i + 1 = omega arith in
    let place : i + 1 - 1 ≡ i = omega arith in
    sym (ap (λ (k : ℕ). unwrap_or (slice_get (steps_from e 1 qs) k) []) place
    ∙ ap (λ (o : Option Clause). unwrap_or o []) (assumptions_at e 1 qs i (present_of step) there)
    ∙ ap (λ (n : ℕ). assumptions_for e (lit (e.variables + n) true) (present_of step)) number)

problem_is : (crash : Crash) (budgets : Budgets) (s : PreimageState) (r : Report) → IsReportOf crash budgets s r →
    s.problem ≡ problem_of (encoding_in crash) (map present_of r.steps)
problem_is crash budgets s r of = ap (λ (p : PreimageState). p.problem) of.ended.made.state

pub is_logged : (crash : Crash) (budgets : Budgets) (s : PreimageState) (r : Report) → IsReportOf crash budgets s r →
    (s.failed ≡ false → IsAccepted s.problem r.log) →
    IsLogged (basis_of crash.circuit crash.choice (map present_of r.steps)) r
is_logged crash budgets s r of accepted =
    record {
      accepted =
          subst (λ (p : Problem). IsAccepted p r.log) (problem_is crash budgets s r of) (accepted (ap (λ (p : PreimageState). p.failed) of.ended.made.state));
      blocks = λ i step is. (logged_in crash budgets s r of i step is).blocks;
      finish = λ i step is.
          subst (λ (c : Clause). is_right_finish r.budgets.conflicts c (slice_index_or (steps_of r.log) i []) step.end
          (finishes_in (slice_index_or (steps_of r.log) i [])) ≡ true)
          (assumed crash r.steps i step is) (logged_in crash budgets s r of i step is).finish;
    }

pub is_lean : (crash : Crash) (budgets : Budgets) (s : PreimageState) (r : Report) → IsReportOf crash budgets s r →
    (s.failed ≡ false → IsLean s.problem (history_of r.log)) → IsLean (problem_of (encoding_in crash) (map present_of r.steps)) (history_of r.log)
is_lean crash budgets s r of lean =
    subst (λ (p : Problem). IsLean p (history_of r.log)) (problem_is crash budgets s r of)
    (lean (ap (λ (p : PreimageState). p.failed) of.ended.made.state))

pub is_valid : (r : Recording) (dump : Dump) (budgets : Budgets) (s : PreimageState) (report : Report) → IsRecording r →
    DumpFits r.circuit r.choice dump → IsReportOf (crash_of r dump) budgets s report →
    (s.failed ≡ false → IsAccepted s.problem report.log) → IsValid (crash_of r dump) (basis_of r.circuit r.choice (map present_of report.steps)) report
is_valid r dump budgets s report sound fits of accepted =
    good_is_valid (crash_of r dump) (basis_of r.circuit r.choice (map present_of report.steps)) report (crash_is r dump sound fits)
    (is_good (crash_of r dump) budgets s report of) (record { depth = of.depth; befores = of.ended.made.befores }) (is_logged
    (crash_of r dump) budgets s report of accepted)

pub has_bound : (crash : Crash) (budgets : Budgets) (s : PreimageState) (r : Report) → IsReportOf crash budgets s r →
    HasBound (problem_of (encoding_in crash) (map present_of r.steps)) r
has_bound crash budgets s r of =
    record {
      few = subst (λ (b : Budgets). HasFewLemmas b.conflicts (history_of r.log)) (sym of.asked)
          (subst (HasFewLemmas budgets.conflicts) (sym of.log) of.ended.made.few);
      bound = λ i step is conflicts run within unit.
          (logged_in crash budgets s r of i step is).bound conflicts run within
          (subst (λ (c : Clause). IsUnitRun (encoding_in crash).clauses c run) (sym (assumed crash r.steps i step is)) unit);
    }
