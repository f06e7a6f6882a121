use Rattle.bs_reach.proofs.CallerLemmas.{reach_has_states}
use Rattle.bs_top_reach.specs.Shown.{target_in}
use Rattle.bs_top.proofs.ReplyLemmas.{answers_said, answers_told}
use Rattle.bs_top.proofs.WorkLemmas.{finished}
use Rattle.bs_top.specs.Work.{to_reach}
use Rattle.bs_top.proofs.reach_command.reach_answer.Goals as goal

pub answer_of-requires : goal.answer_of-requires
answer_of-requires c = reach_has_states _ _ _ _ _ c.in-Ok.ensures

pub returns-in-Ok : goal.returns-in-Ok
returns-in-Ok c = record {
  done = finished (to_reach c.args.conflicts (target_in c.args.target.now)) _ c.means_design.ensures
      (answers_told _ _ c.in-Ok.ensures c.answer_of.ensures.status c.answer_of.ensures.text);
  said = answers_said _ _ c.answer_of.ensures.text c.answer_of.ensures.note;
}
