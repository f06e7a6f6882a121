use Rattle.std.proofs.Common.{refl}
use Rattle.bs_inspect_plans.specs.Taken.{near_files_of}
use Rattle.bs_inspect_words.specs.Asked.{near_in}
use Rattle.bs_inspect_words.specs.Request.{Near as Asked}
use Rattle.bs_inspect_plans.specs.Sources.{source_of, sources_of}
use Rattle.bs_inspect_plans.specs.Work.{to_near}
use Rattle.bs_inspect_plans.proofs.WorkLemmas.{walked_done, walked_stop}
use Rattle.bs_inspect_netlist_requests.proofs.asking.near.Goals as goal

pub returns-in-Ok : goal.returns-in-Ok
returns-in-Ok g c =
    walked_done (near_files_of c.args.asked.now.netlist.now c.args.asked.now.runs.now c.args.asked.now.dump.now)
    to_near (source_of (sources_of (Asked (near_in c.args.asked.now)))) _ _ c.silent.ensures refl c.in-Ok.ensures c.tell_near.ensures

pub returns-in-Err : goal.returns-in-Err
returns-in-Err g c =
    walked_stop (near_files_of c.args.asked.now.netlist.now c.args.asked.now.runs.now c.args.asked.now.dump.now)
    to_near _ (sources_of (Asked (near_in c.args.asked.now))) _ c.near_sources.ensures c.in-Err.ensures c.stop_at.ensures.reply c.stop_at.ensures.note
