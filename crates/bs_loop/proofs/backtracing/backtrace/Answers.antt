use Rattle.std.proofs.Common.{◌≡◌, ◌+◌, List, length, map, subst, sym}
use Rattle.std.specs.Prelude.{All, Result, Ok, Err, IfOk, MatchResult}
use Rattle.bs_encode.specs.Depth.{basis_of}
use Rattle.bs_log.specs.Lean.{IsLean}
use Rattle.bs_log.specs.Refusal.{history_of}
use Rattle.bs_scan.specs.declared.dump.Dump.{Dump}
use Rattle.bs_scan.specs.Crash.{Recording, IsRecording, DumpFits, crash_of}
use Rattle.bs_scan.proofs.CrashLemmas.{crash_is}
use Rattle.bs_report.specs.declared.report.Budgets.{Budgets}
use Rattle.bs_report.specs.declared.report.Report.{Report}
use Rattle.bs_report.specs.declared.report.Step.{Step}
use Rattle.bs_loop.specs.Searched.{TellsCut, WereSearched}
use Rattle.bs_report.specs.Text.{HasReportText}
use Rattle.bs_report.specs.Chain.{present_of}
use Rattle.bs_report.specs.Good.{IsGood}
use Rattle.bs_report.specs.Progress.{GoesBack}
use Rattle.bs_report.specs.Valid.{IsValid}
use Rattle.bs_preimage.specs.Preimage.{PreimageState}
use Rattle.bs_loop.specs.Bound.{HasBound}
use Rattle.bs_loop.specs.Budget.{IsBudget}
use Rattle.bs_loop.specs.HitInput.{TakesRecorded}
use Rattle.bs_loop.specs.Report.{IsOfWay, IsWithLog}
use Rattle.bs_loop.specs.Way.{HasEnded}
use Rattle.bs_loop.proofs.GoodLemmas.{IsReportOf, report_is, report_goes_back, is_good, is_valid, is_lean, has_bound}
use Rattle.bs_loop.proofs.ReadableLemmas.{readable}
use Rattle.bs_loop.proofs.TraceLemmas.{one_state_more}
use Rattle.bs_loop.proofs.backtracing.backtrace.Goals as goal

-- what is said of the report of a backtrace
record IsTold (chip : Recording) (dump : Dump) (budgets : Budgets) (r : Report) : Type 0 where
  budgets_are : r.budgets ≡ budgets
  good : IsGood (crash_of chip dump) r
  valid : IsValid (crash_of chip dump) (basis_of chip.circuit chip.choice (map present_of r.steps)) r
  progress : GoesBack r
  bound : HasBound (basis_of chip.circuit chip.choice (map present_of r.steps)).problem r
  readable_is : HasReportText r
  trace : length r.states ≡ length r.inputs + 1
  takes : All (TakesRecorded chip.circuit chip.runs) r.steps
  lean : IsLean (basis_of chip.circuit chip.choice (map present_of r.steps)).problem (history_of r.log)

told : (chip : Recording) (dump : Dump) (budgets : Budgets) (s : PreimageState) (report r : Report) → IsRecording chip →
    DumpFits chip.circuit chip.choice dump → IsBudget budgets → IsOfWay (crash_of chip dump) budgets report.steps report.stop report →
    HasEnded (crash_of chip dump) budgets report.steps s report.stop → IsWithLog s report r → IsTold chip dump budgets r
told chip dump budgets s report r recording fits asked way ended with_log =
    let of : IsReportOf (crash_of chip dump) budgets s r = report_is chip dump budgets s report r fits ended way with_log.alike with_log.lines in
    let good : IsGood (crash_of chip dump) r = is_good (crash_of chip dump) budgets s r of in
    record {
      budgets_are = of.asked;
      good = good;
      valid = is_valid chip dump budgets s r recording fits of with_log.accepted;
      progress = report_goes_back (crash_of chip dump) budgets s r (crash_is chip dump recording fits) of good;
      bound = has_bound (crash_of chip dump) budgets s r of;
      readable_is = readable chip dump budgets s r recording fits.seen asked of with_log.texts with_log.few;
      trace = one_state_more (crash_of chip dump) r good;
      takes = of.ended.made.takes;
      lean = is_lean (crash_of chip dump) budgets s r of with_log.lean;
    }

-- where there is a report, and the log is put to it
with_its_log : {A B E : Type 0} (x : Result A E) (y : Result B E) (P Q : A → Type 0) (L : A → B → Type 0) (R : B → Type 0) →
    MatchResult x (λ a. IfOk y (L a)) (λ e. y ≡ Err e) → IfOk x P → IfOk x Q → ((a : A) (b : B) → P a → Q a → L a b → R b) → IfOk y R
with_its_log (Ok a) (Ok b) P Q L R l p q f = f a b p q l
with_its_log (Ok a) (Err e) P Q L R l p q f = tt
with_its_log (Err e) y P Q L R l p q f = subst (λ y. IfOk y R) (sym l) tt

parts : {E : Type 0} (y : Result Report E) (P Q : Report → Type 0) → IfOk y P → ((r : Report) → P r → Q r) → IfOk y Q
parts (Ok r) P Q p f = f r p
parts (Err e) P Q p f = tt

pub returns : goal.returns
returns c =
    let chip = c.args.chip.now.recording in
    let dump = c.args.dump.now in
    let budgets = c.args.budgets.now in
    let all : IfOk c.logged.result (IsTold chip dump budgets) =
    with_its_log c.unlogged-report.result c.logged.result _ _ (IsWithLog c.unlogged-report.new.preimage) (IsTold chip dump budgets) c.logged.ensures
    c.unlogged-report.ensures.way c.unlogged-report.ensures.ended
    (λ report r way ended with_log.
    told chip dump budgets c.unlogged-report.new.preimage report r c.is_recording.ensures c.requires.dump c.requires.budgets way ended with_log) in
    record {
      budgets = parts c.logged.result (IsTold chip dump budgets) _ all (λ r t. t.budgets_are);
      good = parts c.logged.result (IsTold chip dump budgets) _ all (λ r t. t.good);
      valid = parts c.logged.result (IsTold chip dump budgets) _ all (λ r t. t.valid);
      progress = parts c.logged.result (IsTold chip dump budgets) _ all (λ r t. t.progress);
      bound = parts c.logged.result (IsTold chip dump budgets) _ all (λ r t. t.bound);
      readable = parts c.logged.result (IsTold chip dump budgets) _ all (λ r t. t.readable_is);
      trace = parts c.logged.result (IsTold chip dump budgets) _ all (λ r t. t.trace);
      takes = parts c.logged.result (IsTold chip dump budgets) _ all (λ r t. t.takes);
      lean = parts c.logged.result (IsTold chip dump budgets) _ all (λ r t. t.lean);
      searched =
          with_its_log c.unlogged-report.result c.logged.result _ _ (IsWithLog c.unlogged-report.new.preimage) (λ r. WereSearched chip budgets.conflicts r.steps)
          c.logged.ensures c.unlogged-report.ensures.searched c.unlogged-report.ensures.searched
          (λ report r searched _ with_log. subst (WereSearched chip budgets.conflicts) (sym with_log.alike.steps_are) searched);
      cut =
          with_its_log c.unlogged-report.result c.logged.result _ _ (IsWithLog c.unlogged-report.new.preimage)
          (λ r. TellsCut chip budgets.conflicts r.steps c.unlogged-report.new.cut) c.logged.ensures c.unlogged-report.ensures.cut
          c.unlogged-report.ensures.cut
          (λ report r told _ with_log.
          subst (λ (steps : List Step). TellsCut chip budgets.conflicts steps c.unlogged-report.new.cut) (sym with_log.alike.steps_are) told);
      chip = c.unlogged-report.ensures.chip;
    }
