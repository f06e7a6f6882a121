-- `audit` accepts what `run` writes.
use Rattle.std.proofs.Common.{◌≡◌, None, ap, ◌∙◌}
use Rattle.bs_report.specs.Reading.{report_in}
use Rattle.bs_report.proofs.ReadBackLemmas.{read_back}
use Rattle.bs_top_files.specs.Causes.{report_reason, with_reason}
use Rattle.bs_top.specs.Rejected.{finding_status, finding_text}
use Rattle.bs_top.specs.Law.{AuditAcceptsWhatRunWrites}

pub audit_accepts : AuditAcceptsWhatRunWrites
audit_accepts budgets crash_files status text run = record {
  report = run.report;
  read = λ path. ap (with_reason (report_reason path text)) (ap report_in run.written ∙ read_back run.report run.backtrace.readable);
  accepted = λ status answer audits.
      let none : audits.part ≡ None = audits.finds.first ∙ run.backtrace.sound.valid in
      (audits.answered ∙ ap finding_status none, audits.written ∙ ap finding_text none);
}
