use Rattle.std.proofs.Common.{refl}
use Rattle.bs_inspect_files.specs.Taken.{one_run_of}
use Rattle.bs_inspect_words.specs.Asked.{novel_in}
use Rattle.bs_inspect_words.specs.Request.{Novel as Asked}
use Rattle.bs_inspect_plans.specs.Sources.{source_of, sources_of}
use Rattle.bs_inspect_plans.specs.Work.{to_novel}
use Rattle.bs_inspect_plans.proofs.WorkLemmas.{walked_done, walked_stop}
use Rattle.bs_inspect_netlist_requests.proofs.asking.novel.Goals as goal

pub returns-in-Ok : goal.returns-in-Ok
returns-in-Ok g c =
    walked_done (one_run_of c.args.asked.now.netlist.now c.args.asked.now.runs.now c.args.asked.now.run)
    (to_novel c.args.asked.now.most) (source_of (sources_of (Asked (novel_in c.args.asked.now)))) _ _ c.silent.ensures refl c.in-Ok.ensures c.tell_novel.ensures

pub returns-in-Err : goal.returns-in-Err
returns-in-Err g c =
    walked_stop (one_run_of c.args.asked.now.netlist.now c.args.asked.now.runs.now c.args.asked.now.run)
    (to_novel c.args.asked.now.most) _ (sources_of (Asked (novel_in c.args.asked.now))) _ c.novel_sources.ensures c.in-Err.ensures c.stop_at.ensures.reply c.stop_at.ensures.note
