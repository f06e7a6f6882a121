use Rattle.std.proofs.Common.{refl}
use Rattle.bs_top_files.specs.Entry.{report_of}
use Rattle.bs_inspect_words.specs.Request.{StepsTable as Asked}
use Rattle.bs_inspect_plans.specs.Sources.{source_of, sources_of}
use Rattle.bs_inspect_plans.specs.Work.{to_steps_table}
use Rattle.bs_inspect_plans.proofs.WorkLemmas.{walked_done, walked_stop}
use Rattle.bs_inspect_report_requests.proofs.asking.steps_table.Goals as goal

pub returns-in-Ok : goal.returns-in-Ok
returns-in-Ok g c =
    walked_done (report_of c.args.report.now) to_steps_table
    (source_of (sources_of (Asked c.args.report.now))) _ _ c.silent-answer.ensures refl c.in-Ok.ensures.walks c.tell_steps_table.ensures

pub returns-in-Err : goal.returns-in-Err
returns-in-Err g c =
    walked_stop (report_of c.args.report.now) to_steps_table
    _ (sources_of (Asked c.args.report.now)) _ c.report_source.ensures c.in-Err.ensures.walks c.stop_at.ensures.reply c.stop_at.ensures.note
