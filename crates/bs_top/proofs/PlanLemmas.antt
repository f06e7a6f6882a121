-- The audit of a report over the files of a run, as plans.
use Rattle.std.proofs.Common.{◌≡◌, ◌<◌, ◌≤◌, ℕ, Bool, true, false, List, length, codes, Option, Some, None, Ok, refl, sym, ◌∙◌, ap}
use Rattle.std.specs.Prelude.{nat_lt, if◌then◌else◌}
use Rattle.std.proofs.lemmas.Bool.{le-ltb, lt-ltb}
use Rattle.bs_top_files.specs.Causes.{Case}
use Rattle.bs_report.specs.declared.report.Budgets.{Budgets}
use Rattle.bs_report.specs.declared.report.Report.{Report}
use Rattle.bs_outside.specs.declared.file.File.{File}
use Rattle.bs_outside.specs.declared.file.File.TheVariants as files
use Rattle.bs_outside.specs.declared.limits.TheConstants.{MAX_REPORT_BYTES}
use Rattle.bs_outside.specs.PlanFiles.{limit_of}
use Rattle.bs_outside.specs.Plan.{Tells, Wanted, Reason, exactly, Plan, fetch, refuse, end, ◌>>=◌, PlanOutcome, refused, told_next, told_end}
use Rattle.bs_outside.proofs.Plans.{ready_in, refused_in, told_end_then, told_came_from}
use Rattle.bs_top_words.specs.Job.{RunJob}
use Rattle.bs_top_files.specs.Entry.{CrashFiles, crash_files_of, AuditFiles, audit_files_of, report_of}
use Rattle.bs_top_files.specs.Readings.{report_read}
use Rattle.bs_top.specs.Work.{to_run, to_audit, run_names, budgets_of}
use Rattle.bs_top.specs.Law.{IsAcceptedText, audit_of, AuditEnds, AuditFollowsRun}
use Rattle.bs_top.proofs.LawLemmas.{audit_accepts}

-- a refusal of a part is one of the whole
next_refused : {R A B : Type 0} (w : Wanted) (t : Option (List ℕ)) (go : List ℕ → Option (PlanOutcome R A)) (on : List ℕ → Option (PlanOutcome R B))
    (file : File) (why : Reason R) →
    told_next w t go ≡ Some (refused_in R A file why) →
    ((bytes : List ℕ) → go bytes ≡ Some (refused_in R A file why) → on bytes ≡ Some (refused_in R B file why)) →
    told_next w t on ≡ Some (refused_in R B file why)
next_refused {R} {A} {B} w None go on file why h step = absurd (wrong h)
  where
    wrong : None ≡ Some (refused_in R A file why) → ⊥
    wrong e = cc
next_refused {R} {A} {B} w (Some bytes) go on file why h step = by (nat_lt (limit_of w.file) (length bytes)) h
  where
    same : Some (refused_in R A w.file (exactly (codes "TooLong"))) ≡ Some (refused_in R A file why) →
        Some (refused_in R B w.file (exactly (codes "TooLong"))) ≡ Some (refused_in R B file why)
    same e =
        let f : w.file ≡ file = cc in
        let y : exactly (codes "TooLong") ≡ why = cc in
        cc

    by : (long : Bool) → (if long then Some (refused w.file (exactly (codes "TooLong"))) else go bytes) ≡ Some (refused_in R A file why) →
        (if long then Some (refused w.file (exactly (codes "TooLong"))) else on bytes) ≡ Some (refused_in R B file why)
    by true e = same e
    by false e = step bytes e

told_end_refused : {R A B : Type 0} (told : Tells) (plan : Plan R A) (f : A → Plan R B) (file : File) (why : Reason R) →
    told_end told plan ≡ Some (refused_in R A file why) → told_end told (plan >>= f) ≡ Some (refused_in R B file why)
told_end_refused {R} {A} told (end v) f file why h = absurd (wrong h)
  where
    wrong : Some (ready_in R A v) ≡ Some (refused_in R A file why) → ⊥
    wrong e = cc
told_end_refused {R} {A} {B} told (refuse file' why') f file why h = same h
  where
    same : Some (refused_in R A file' why') ≡ Some (refused_in R A file why) → Some (refused_in R B file' why') ≡ Some (refused_in R B file why)
    same e =
        let g : file' ≡ file = cc in
        let y : why' ≡ why = cc in
        cc
told_end_refused told (fetch w next) f file why h =
    next_refused w (told w.name) (λ bytes. told_end told (next bytes)) (λ bytes. told_end told (next bytes >>= f)) file why h
    (λ bytes e. told_end_refused told (next bytes) f file why e)

-- the file of the report, where the shelf tells it
report_end : (told : Tells) (name text : List ℕ) → told name ≡ Some text → length text ≤ MAX_REPORT_BYTES → (report : Report) →
    report_read name text ≡ Ok report → told_end told (report_of name) ≡ Some (ready_in Case Report report)
report_end told name text tells within report read =
    rw (tells, le-ltb MAX_REPORT_BYTES (length text) within, read) refl

report_long : (told : Tells) (name text : List ℕ) → told name ≡ Some text → MAX_REPORT_BYTES < length text →
    told_end told (report_of name) ≡ Some (refused_in Case Report files.Report (exactly (codes "TooLong")))
report_long told name text tells beyond =
    rw (tells, lt-ltb MAX_REPORT_BYTES (length text) beyond) refl

crash_files_same : (b c : Budgets) (x y : CrashFiles) → to_run b x ≡ to_run c y → x ≡ y
crash_files_same b c x y e = cc

-- what makes the claim of a crash and a report
abbrev claim : CrashFiles → Report → AuditFiles
claim crash_files report = record { crash_files = crash_files; report = report }

follows : (told : Tells) (run : RunJob) (name : List ℕ) (crash_files : CrashFiles) (text : List ℕ) →
    told_end told (crash_files_of (run_names run) run.dump) ≡ Some (ready_in Case CrashFiles crash_files) →
    IsAcceptedText crash_files text → told name ≡ Some text → AuditEnds told (audit_of run name) crash_files text
follows told run name crash_files text came accepted tells = record {
  within = λ few. record {
    report = accepted.report;
    comes =
        told_end_then told (audit_files_of (run_names run) run.dump name) (λ (audit_files : AuditFiles). end (to_audit audit_files)) (claim crash_files accepted.report)
        (told_end_then told (crash_files_of (run_names run) run.dump) (λ (c : CrashFiles). report_of name >>= (λ (r : Report). end (claim c r))) crash_files came
        ∙ told_end_then told (report_of name) (λ (r : Report). end (claim crash_files r)) accepted.report
        (report_end told name text tells few accepted.report (accepted.read name)));
    accepted = accepted.accepted;
  };
  beyond = λ many.
      told_end_refused told (audit_files_of (run_names run) run.dump name) (λ (audit_files : AuditFiles). end (to_audit audit_files)) files.Report (exactly (codes "TooLong"))
      (told_end_then told (crash_files_of (run_names run) run.dump) (λ (c : CrashFiles). report_of name >>= (λ (r : Report). end (claim c r))) crash_files came
      ∙ told_end_refused told (report_of name) (λ (r : Report). end (claim crash_files r)) files.Report (exactly (codes "TooLong"))
      (report_long told name text tells many));
}

pub audit_follows : AuditFollowsRun
audit_follows told run name budgets crash_files status text ready_for done tells =
    let from = told_came_from told (crash_files_of (run_names run) run.dump) (λ (c : CrashFiles). to_run (budgets_of run) c) (to_run budgets crash_files) ready_for in
    let same : from.value ≡ crash_files = sym (crash_files_same budgets (budgets_of run) crash_files from.value from.is) in
    follows told run name crash_files text (from.came ∙ ap (λ c. Some (ready_in Case CrashFiles c)) same) (audit_accepts budgets crash_files status text done) tells
