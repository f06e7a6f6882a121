use Rattle.std.proofs.Common.{[], ◌∷◌}
use Rattle.bs_inspect_files.specs.Taken.{charted_of}
use Rattle.bs_inspect_words.specs.Asked.{why_in}
use Rattle.bs_inspect_words.specs.Request.{Why as Asked}
use Rattle.bs_inspect_plans.specs.Asked.{question_of}
use Rattle.bs_inspect_plans.specs.Sources.{source_of, sources_of}
use Rattle.bs_inspect_plans.specs.Work.{to_why}
use Rattle.bs_inspect_plans.proofs.WorkLemmas.{walked_noted, walked_stop}
use Rattle.bs_inspect_report_requests.proofs.asking.why.Goals as goal

pub returns-in-Ok : goal.returns-in-Ok
returns-in-Ok g c =
    walked_noted (charted_of c.args.asked.now.netlist.now c.args.asked.now.report.now (c.args.asked.now.name.now ∷ []))
    (to_why (question_of (why_in c.args.asked.now))) (source_of (sources_of (Asked (why_in c.args.asked.now)))) _ _ c.rejected_noted-answer.ensures.reply c.rejected_noted-answer.ensures.note c.in-Ok.ensures c.tell_why.ensures

pub returns-in-Err : goal.returns-in-Err
returns-in-Err g c =
    walked_stop (charted_of c.args.asked.now.netlist.now c.args.asked.now.report.now (c.args.asked.now.name.now ∷ []))
    (to_why (question_of (why_in c.args.asked.now))) _ (sources_of (Asked (why_in c.args.asked.now))) _ c.trace_sources.ensures c.in-Err.ensures c.stop_at.ensures.reply c.stop_at.ensures.note
