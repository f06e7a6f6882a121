use Rattle.bs_outside.proofs.Walking.{alone_as}
use Rattle.bs_call.proofs.AnswerLemmas.{alone_stopped, alone_worked, stop_named}
use Rattle.bs_call.specs.Paths.{path_of}
use Rattle.bs_top_words.specs.Job.{Demo as Asked}
use Rattle.bs_top.specs.Work.{to_demo}
use Rattle.bs_top.specs.Finishes.{finishes}
use Rattle.bs_top.specs.Said.{paths_of, WorkSaid}
use Rattle.bs_top.proofs.WorkLemmas.{is_work}
use Rattle.bs_top.proofs.demo_command.demo.Goals as goal

pub returns-in-Ok : goal.returns-in-Ok
returns-in-Ok c =
    alone_worked WorkSaid (path_of (paths_of (Asked c.args.number))) _ is_work (alone_as (to_demo c.args.number) c.in-Ok.ensures.line)
    (alone_as (to_demo c.args.number) c.in-Ok.ensures.note) c.summed.ensures.done c.summed.ensures.said

pub returns-in-Err : goal.returns-in-Err
returns-in-Err c =
    alone_stopped finishes WorkSaid (path_of (paths_of (Asked c.args.number))) _ (alone_as (to_demo c.args.number) c.in-Err.ensures.line)
    (alone_as (to_demo c.args.number) c.in-Err.ensures.note) c.stop_answer.ensures.reply (stop_named _ _ c.demo_paths.ensures c.stop_answer.ensures.note)
