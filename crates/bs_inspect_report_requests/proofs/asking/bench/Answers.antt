use Rattle.bs_inspect_files.specs.Taken.{bench_files_of}
use Rattle.bs_inspect_words.specs.Asked.{bench_in}
use Rattle.bs_inspect_words.specs.Request.{Bench as Asked}
use Rattle.bs_inspect_plans.specs.Sources.{source_of, sources_of}
use Rattle.bs_inspect_plans.specs.Work.{to_bench}
use Rattle.bs_inspect_plans.proofs.WorkLemmas.{walked_noted, walked_stop}
use Rattle.bs_inspect_report_requests.proofs.asking.bench.Goals as goal

pub returns-in-Ok : goal.returns-in-Ok
returns-in-Ok g c =
    walked_noted (bench_files_of c.args.asked.now.netlist.now c.args.asked.now.runs.now c.args.asked.now.report.now)
    (to_bench c.args.asked.now.top.now) (source_of (sources_of (Asked (bench_in c.args.asked.now)))) _ _ c.rejected_noted-answer.ensures.reply c.rejected_noted-answer.ensures.note c.in-Ok.ensures c.tell_bench.ensures

pub returns-in-Err : goal.returns-in-Err
returns-in-Err g c =
    walked_stop (bench_files_of c.args.asked.now.netlist.now c.args.asked.now.runs.now c.args.asked.now.report.now)
    (to_bench c.args.asked.now.top.now) _ (sources_of (Asked (bench_in c.args.asked.now))) _ c.bench_sources.ensures c.in-Err.ensures c.stop_at.ensures.reply c.stop_at.ensures.note
