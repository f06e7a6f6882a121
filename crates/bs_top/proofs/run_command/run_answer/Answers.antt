use Rattle.bs_top_files.specs.Ready.{crash_files_in}
use Rattle.bs_top.proofs.WorkLemmas.{finished}
use Rattle.bs_top.specs.Work.{to_run}
use Rattle.bs_top.proofs.run_command.run_answer.Goals as goal

pub returns-in-Ok : goal.returns-in-Ok
returns-in-Ok c = record {
  done = finished (to_run c.args.budgets.now (crash_files_in c.args.crash_files.now)) _ c.means_design.ensures c.answer_on.ensures.done;
  said = c.answer_on.ensures.said;
}
