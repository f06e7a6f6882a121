use Rattle.bs_call.proofs.AnswerLemmas.{diagnosed_as, diagnosed_work}
use Rattle.bs_inspect_files.specs.FlopFiles.{scanned_of}
use Rattle.bs_inspect_words.specs.Asked.{unscan_in}
use Rattle.bs_inspect_words.specs.Request.{Unscan}
use Rattle.bs_inspect_plans.specs.Said.{WorkSaid}
use Rattle.bs_inspect_plans.specs.Sources.{source_of, sources_of}
use Rattle.bs_inspect_plans.specs.Work.{to_state}
use Rattle.bs_inspect_plans.proofs.WorkLemmas.{is_work, walked_stop}
use Rattle.bs_inspect_netlist_requests.proofs.asking.unscan.Goals as goal

pub returns-in-Ok : goal.returns-in-Ok
returns-in-Ok g c =
    diagnosed_work WorkSaid (source_of (sources_of (Unscan (unscan_in c.args.asked.now)))) _ is_work
    (diagnosed_as {plan = scanned_of c.args.asked.now.netlist.now c.args.asked.now.order.now c.args.asked.now.pattern.now} to_state c.in-Ok.ensures)
    c.state_answer.ensures.reply c.state_answer.ensures.note

pub returns-in-Err : goal.returns-in-Err
returns-in-Err g c =
    walked_stop (scanned_of c.args.asked.now.netlist.now c.args.asked.now.order.now c.args.asked.now.pattern.now)
    to_state _ (sources_of (Unscan (unscan_in c.args.asked.now))) _ c.chain_sources.ensures c.in-Err.ensures c.stop_at.ensures.reply c.stop_at.ensures.note
