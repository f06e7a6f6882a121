use Rattle.std.proofs.Common.{◌∙◌}
use Rattle.bs_top_files.specs.Ready.{crash_files_in}
use Rattle.bs_top.proofs.ReplyLemmas.{reports_said, reports_told}
use Rattle.bs_top.proofs.run_command.chip_answer.Goals as goal

pub returns-in-Ok : goal.returns-in-Ok
returns-in-Ok c = record {
  done = reports_told _ _ c.in-Ok.ensures.backtrace c.answer_of.ensures.status c.answer_of.ensures.text;
  said =
      reports_said c.args.budgets.now (crash_files_in c.args.crash_files.now) _ _ _ _ _ c.requires.chip (c.trace.ensures.chip ∙ c.requires.chip)
      c.in-Ok.ensures.cut c.answer_of.ensures.text c.answer_of.ensures.note c.answer_of.ensures.sure;
}
