use Rattle.bs_call.proofs.AnswerLemmas.{stop_named, diagnosed_as, diagnosed_stopped, diagnosed_work}
use Rattle.bs_call.specs.Paths.{path_of}
use Rattle.bs_top.specs.Work.{to_dump}
use Rattle.bs_top.specs.Finishes.{finishes}
use Rattle.bs_top.specs.Said.{paths_of, WorkSaid}
use Rattle.bs_top.specs.Words.{dump_job}
use Rattle.bs_top_words.specs.Job.{Dump as Asked}
use Rattle.bs_top.proofs.WorkLemmas.{is_work}
use Rattle.bs_top.proofs.dump_command.dump.Goals as goal

pub returns-in-Ok : goal.returns-in-Ok
returns-in-Ok g c =
    diagnosed_work WorkSaid (path_of (paths_of (Asked (dump_job c.args.job.now)))) _ is_work (diagnosed_as to_dump c.in-Ok.ensures) c.dumped.ensures.done c.dumped.ensures.said

pub returns-in-Err : goal.returns-in-Err
returns-in-Err g c =
    diagnosed_stopped finishes WorkSaid (path_of (paths_of (Asked (dump_job c.args.job.now)))) _ (diagnosed_as to_dump c.in-Err.ensures)
    c.stop_answer.ensures.reply (stop_named _ _ c.dump_paths.ensures c.stop_answer.ensures.note)
