use Rattle.std.proofs.Common.{refl}
use Rattle.bs_inspect_files.specs.Taken.{run_files_of}
use Rattle.bs_inspect_words.specs.Asked.{signature_in}
use Rattle.bs_inspect_words.specs.Request.{Signature as Asked}
use Rattle.bs_inspect_plans.specs.Sources.{source_of, sources_of}
use Rattle.bs_inspect_plans.specs.Work.{to_signature}
use Rattle.bs_inspect_plans.proofs.WorkLemmas.{walked_done, walked_stop}
use Rattle.bs_inspect_netlist_requests.proofs.asking.signature.Goals as goal

pub returns-in-Ok : goal.returns-in-Ok
returns-in-Ok g c =
    walked_done (run_files_of c.args.asked.now.netlist.now c.args.asked.now.runs.now)
    (to_signature c.args.asked.now.items) (source_of (sources_of (Asked (signature_in c.args.asked.now)))) _ _ c.silent.ensures refl c.in-Ok.ensures c.tell_signature.ensures

pub returns-in-Err : goal.returns-in-Err
returns-in-Err g c =
    walked_stop (run_files_of c.args.asked.now.netlist.now c.args.asked.now.runs.now)
    (to_signature c.args.asked.now.items) _ (sources_of (Asked (signature_in c.args.asked.now))) _ c.runs_sources.ensures c.in-Err.ensures c.stop_at.ensures.reply c.stop_at.ensures.note
