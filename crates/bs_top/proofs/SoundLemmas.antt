-- What holds of a backtrace's report.
use Rattle.std.proofs.Common.{◌≡◌, map, subst, sym, ◌∙◌, None, Result, Ok, Err}
use Rattle.std.specs.Prelude.{All, IfOk}
use Rattle.bs_scan.specs.declared.dump.Dump.{Dump}
use Rattle.bs_scan.specs.Crash.{Recording, Crash, crash_of, IsCrash}
use Rattle.bs_log.specs.Lean.{IsLean}
use Rattle.bs_log.specs.Refusal.{history_of}
use Rattle.bs_encode.specs.Depth.{basis_of}
use Rattle.bs_report.specs.declared.report.Budgets.{Budgets}
use Rattle.bs_report.specs.declared.report.Report.{Report}
use Rattle.bs_report.specs.Text.{HasReportText}
use Rattle.bs_report.specs.Chain.{present_of}
use Rattle.bs_report.specs.Good.{IsGood}
use Rattle.bs_report.specs.Progress.{GoesBack}
use Rattle.bs_report.specs.Valid.{first_failing, IsValid}
use Rattle.bs_report.proofs.TraceEndLemmas.{unhit_is_first, finished_reach_reset}
use Rattle.bs_report.proofs.ProgressLemmas.{progress}
use Rattle.bs_report.proofs.ExecutionLemmas.{executed}
use Rattle.bs_loop.specs.Bound.{HasBound}
use Rattle.bs_loop.specs.HitInput.{TakesRecorded}
use Rattle.bs_loop.specs.Searched.{WereSearched}
use Rattle.bs_audit.specs.declared.parts.Finding.{Finding}
use Rattle.bs_audit.specs.Finding.{part_of, basis_for}
use Rattle.bs_top.specs.Sound.{IsSoundReport}
use Rattle.bs_top.specs.Finishes.{IsBacktrace, Finds}

-- a good and valid report of a crash
pub sound_is : (crash : Crash) (r : Report) → IsCrash crash → IsGood crash r → IsValid crash (basis_for crash r) r → IsSoundReport crash r
sound_is crash r crash_files good valid = record {
  good = good;
  valid = valid;
  headline = λ moved. executed crash r crash_files good moved;
  progress = λ i earlier later a b finished. progress crash r i earlier later crash_files good a b finished;
  unhit_is_first = λ i step at finished none. unhit_is_first crash r i step crash_files good at finished none;
  reaches_reset = λ first hit all at hits within. finished_reach_reset crash r first hit crash_files good all at hits within;
}

-- the facts of a backtrace of a chip
pub record IsMade (chip : Recording) (dump : Dump) (budgets : Budgets) (r : Report) : Type 0 where
  pub asked : r.budgets ≡ budgets
  pub good : IsGood (crash_of chip dump) r
  pub valid : IsValid (crash_of chip dump) (basis_of chip.circuit chip.choice (map present_of r.steps)) r
  pub progress : GoesBack r
  pub lean : IsLean (basis_of chip.circuit chip.choice (map present_of r.steps)).problem (history_of r.log)
  pub bound : HasBound (basis_of chip.circuit chip.choice (map present_of r.steps)).problem r
  pub searched : WereSearched chip budgets.conflicts r.steps
  pub takes : All (TakesRecorded chip.circuit chip.runs) r.steps
  pub readable : HasReportText r

made_alike : (chip : Recording) (dump : Dump) (budgets : Budgets) (r : Report) → IsCrash (crash_of chip dump) → IsMade chip dump budgets r →
    IsBacktrace (crash_of chip dump) budgets r
made_alike chip dump budgets r crash_files made = record {
  asked = made.asked;
  sound = sound_is (crash_of chip dump) r crash_files made.good made.valid;
  progress = made.progress;
  lean = made.lean;
  bound = made.bound;
  searched = made.searched;
  takes = made.takes;
  readable = made.readable;
}

-- what a call answers of the chip that a recording shows
pub backtrace_ok : {E : Type 0} (recorded chip : Recording) (dump : Dump) (budgets : Budgets) (r : Result Report E) → chip ≡ recorded →
    IsCrash (crash_of recorded dump) →
    IfOk r (λ report. report.budgets ≡ budgets) → IfOk r (IsGood (crash_of chip dump)) →
    IfOk r (λ report. IsValid (crash_of chip dump) (basis_of chip.circuit chip.choice (map present_of report.steps)) report) → IfOk r GoesBack →
    IfOk r (λ report. IsLean (basis_of chip.circuit chip.choice (map present_of report.steps)).problem (history_of report.log)) →
    IfOk r (λ report. HasBound (basis_of chip.circuit chip.choice (map present_of report.steps)).problem report) →
    IfOk r (λ report. WereSearched chip budgets.conflicts report.steps) → IfOk r (λ report. All (TakesRecorded chip.circuit chip.runs) report.steps) →
    IfOk r HasReportText →
    IfOk r (IsBacktrace (crash_of recorded dump) budgets)
backtrace_ok recorded chip dump budgets (Ok report) is crash_files asked good valid back lean bound searched takes readable =
    made_alike recorded dump budgets report crash_files
    (subst (λ c. IsMade c dump budgets report) is
    (record {
      asked = asked;
      good = good;
      valid = valid;
      progress = back;
      lean = lean;
      bound = bound;
      searched = searched;
      takes = takes;
      readable = readable;
    }))
backtrace_ok recorded chip dump budgets (Err want) is crash_files asked good valid back lean bound searched takes readable = tt

-- what an audit finds
pub finds_ok : {E : Type 0} (crash : Crash) (report : Report) (r : Result Finding E) → IsCrash crash →
    IfOk r (λ finding. part_of finding ≡ first_failing crash (basis_for crash report) report) →
    IfOk r (λ finding. part_of finding ≡ None → IsGood crash report) →
    IfOk r (λ finding. Finds crash report (part_of finding))
finds_ok crash report (Ok finding) crash_files first good =
    record { first = first; accepted = λ none. sound_is crash report crash_files (good none) (sym first ∙ none) }
finds_ok crash report (Err want) crash_files first good = tt
