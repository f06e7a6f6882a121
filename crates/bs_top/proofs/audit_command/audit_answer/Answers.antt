use Rattle.bs_top_files.specs.Ready.{audit_files_in}
use Rattle.bs_top.proofs.ReplyLemmas.{audits_said, audits_told}
use Rattle.bs_top.proofs.WorkLemmas.{finished}
use Rattle.bs_top.specs.Work.{to_audit}
use Rattle.bs_top.proofs.audit_command.audit_answer.Goals as goal

pub returns-in-Ok : goal.returns-in-Ok
returns-in-Ok c = record {
  done = finished (to_audit (audit_files_in c.args.audit_files.now)) _ c.means_design.ensures
      (audits_told _ _ c.in-Ok.ensures c.finding_answer.ensures.status c.finding_answer.ensures.text);
  said = audits_said _ _ c.finding_answer.ensures.text c.finding_answer.ensures.note;
}
