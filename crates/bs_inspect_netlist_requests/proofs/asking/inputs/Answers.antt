use Rattle.std.proofs.Common.{refl}
use Rattle.bs_top_files.specs.Entry.{netlist_of}
use Rattle.bs_inspect_plans.specs.Sources.{source_of, sources_of}
use Rattle.bs_inspect_plans.specs.Work.{to_inputs}
use Rattle.bs_inspect_plans.proofs.WorkLemmas.{walked_done, walked_stop}
use Rattle.bs_inspect_words.specs.Request.{Inputs as Asked}
use Rattle.bs_inspect_netlist_requests.proofs.asking.inputs.Goals as goal

pub returns-in-Ok : goal.returns-in-Ok
returns-in-Ok g c =
    walked_done (netlist_of c.args.netlist.now) to_inputs
    (source_of (sources_of (Asked c.args.netlist.now))) _ _ c.silent.ensures refl c.in-Ok.ensures c.tell_inputs.ensures

pub returns-in-Err : goal.returns-in-Err
returns-in-Err g c =
    walked_stop (netlist_of c.args.netlist.now) to_inputs
    _ (sources_of (Asked c.args.netlist.now)) _ c.netlist_source.ensures c.in-Err.ensures c.stop_at.ensures.reply c.stop_at.ensures.note
