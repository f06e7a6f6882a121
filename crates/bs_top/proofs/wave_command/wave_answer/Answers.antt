use Rattle.bs_top_files.specs.Ready.{audit_files_in}
use Rattle.bs_top.proofs.ReplyLemmas.{draws_said, draws_told}
use Rattle.bs_top.proofs.WayLemmas.{way_is}
use Rattle.bs_top.proofs.WorkLemmas.{finished}
use Rattle.bs_top.specs.Work.{to_wave}
use Rattle.bs_top.proofs.wave_command.wave_answer.Goals as goal

pub drawing_answer-requires : goal.drawing_answer-requires
drawing_answer-requires c = λ none. way_is _ c.args.audit_files.now.report c.args.audit_files.now.crash_files.fits (c.in-Ok.ensures.accepted none).good

pub returns-in-Ok : goal.returns-in-Ok
returns-in-Ok c = record {
  done = finished (to_wave (audit_files_in c.args.audit_files.now)) _ c.means_design.ensures
      (draws_told _ _ _ c.in-Ok.ensures c.drawing_answer.ensures.status c.drawing_answer.ensures.text);
  said = draws_said (audit_files_in c.args.audit_files.now).crash_files.setup.raw (audit_files_in c.args.audit_files.now).report _ _ c.drawing_answer.ensures.text c.drawing_answer.ensures.note;
}
