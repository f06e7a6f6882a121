-- A report that `run` writes is read as it is, and `audit` accepts it; a waveform that `wave` writes is read as it is.
use Rattle.std.specs.Prelude.{◌≡◌, ◌<◌, ◌≤◌, ℕ, List, length, codes, Some, Ok}
use Rattle.bs_report.specs.declared.report.Budgets.{Budgets}
use Rattle.bs_report.specs.declared.report.Report.{Report}
use Rattle.bs_outside.specs.declared.file.File.TheVariants as files
use Rattle.bs_outside.specs.declared.limits.TheConstants.{MAX_REPORT_BYTES}
use Rattle.bs_outside.specs.declared.status.Status.{Status}
use Rattle.bs_outside.specs.declared.status.Status.TheVariants.{Done}
use Rattle.bs_outside.specs.Plan.{Tells, exactly, ready, refused, told_end}
use Rattle.bs_top_words.specs.Job.{RunJob, AuditJob, Run, Audit, Wave as WaveWords}
use Rattle.bs_top_files.specs.Entry.{CrashFiles, AuditFiles}
use Rattle.bs_top_files.specs.Readings.{report_read}
use Rattle.bs_net.specs.Parts.{Parts}
use Rattle.bs_wave.specs.declared.wave.Wave.{Wave}
use Rattle.bs_wave.specs.Wave.{IsWaveOf}
use Rattle.bs_wave.specs.WaveReading.{wave_in}
use Rattle.bs_top.specs.Work.{to_run, to_audit, to_wave, plan_of}
use Rattle.bs_top.specs.Finishes.{replies}

-- the text is read as a report, by whatever path, for which nothing but `accepted` is written
pub record IsAcceptedText (crash_files : CrashFiles) (text : List ℕ) : Type 0 where
  pub report : Report
  pub read : (path : List ℕ) → report_read path text ≡ Ok report
  pub accepted : (status : Status) (answer : List ℕ) → replies (to_audit (record { crash_files = crash_files; report = report })) status answer →
      (status ≡ Done) × (answer ≡ codes "accepted\n")

abbrev pub AuditAcceptsWhatRunWrites : Type 0
AuditAcceptsWhatRunWrites =
    (budgets : Budgets) (crash_files : CrashFiles) (status : Status) (text : List ℕ) → replies (to_run budgets crash_files) status text → IsAcceptedText crash_files text

-- ---- the same of commands

-- the audit of a report over the files of a run
abbrev pub audit_of : RunJob → List ℕ → AuditJob
audit_of run report = record { netlist = run.netlist; signature = run.signature; stimulus = run.stimulus; dump = run.dump; report = report }

-- the audit comes to this crash and to a report, for which nothing but `accepted` is written
pub record ComesToAccepted (told : Tells) (job : AuditJob) (crash_files : CrashFiles) : Type 0 where
  pub report : Report
  pub comes : told_end told (plan_of (Audit job)) ≡ Some (ready (to_audit (record { crash_files = crash_files; report = report })))
  pub accepted : (status : Status) (answer : List ℕ) → replies (to_audit (record { crash_files = crash_files; report = report })) status answer →
      (status ≡ Done) × (answer ≡ codes "accepted\n")

-- The audit accepts a text within the limit of a report, and refuses a longer one as too long.
pub record AuditEnds (told : Tells) (job : AuditJob) (crash_files : CrashFiles) (text : List ℕ) : Type 0 where
  pub within : length text ≤ MAX_REPORT_BYTES → ComesToAccepted told job crash_files
  pub beyond : MAX_REPORT_BYTES < length text → told_end told (plan_of (Audit job)) ≡ Some (refused files.Report (exactly (codes "TooLong")))

-- Where the run over told files comes to its work, and the report's file has a text that it may write, so ends the audit over the
-- same files and this report.
abbrev pub AuditFollowsRun : Type 0
AuditFollowsRun =
    (told : Tells) (run : RunJob) (report : List ℕ) (budgets : Budgets) (crash_files : CrashFiles) (status : Status) (text : List ℕ) →
    told_end told (plan_of (Run run)) ≡ Some (ready (to_run budgets crash_files)) → replies (to_run budgets crash_files) status text →
    told report ≡ Some text → AuditEnds told (audit_of run report) crash_files text

-- ---- waveforms

-- the text is read as the wave of the report's trace
pub record IsReadBack (raw : Parts) (report : Report) (text : List ℕ) : Type 0 where
  pub wave : Wave
  pub is : IsWaveOf raw report.states report.inputs wave
  pub read : wave_in text ≡ Ok wave

-- Where `wave` over told files comes to its work, and writes a text with status 0, the text is read as the wave of the report's
-- trace: the netlist was read, so that each net has a name that may stand in it.
abbrev pub WaveformsReadBack : Type 0
WaveformsReadBack =
    (told : Tells) (job : AuditJob) (audit_files : AuditFiles) (text : List ℕ) → told_end told (plan_of (WaveWords job)) ≡ Some (ready (to_wave audit_files)) →
    replies (to_wave audit_files) Done text → IsReadBack audit_files.crash_files.setup.raw audit_files.report text
