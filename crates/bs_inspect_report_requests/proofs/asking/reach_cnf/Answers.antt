use Rattle.bs_reach_answer.specs.Searched.{answer_files_of}
use Rattle.bs_evidence.specs.declared.evidence.Format.TheVariants.{Clauses}
use Rattle.bs_inspect_words.specs.Asked.{lengths_in}
use Rattle.bs_inspect_words.specs.Request.{ReachCnf as Asked}
use Rattle.bs_inspect_plans.specs.Sources.{source_of, sources_of}
use Rattle.bs_inspect_plans.specs.Work.{to_lengths}
use Rattle.bs_inspect_plans.proofs.WorkLemmas.{walked_noted, walked_stop}
use Rattle.bs_inspect_report_requests.proofs.asking.reach_cnf.Goals as goal

pub returns-in-Ok : goal.returns-in-Ok
returns-in-Ok g c =
    walked_noted (answer_files_of c.args.asked.now.netlist.now c.args.asked.now.state.now c.args.asked.now.answer.now)
    (to_lengths Clauses c.args.asked.now.length) (source_of (sources_of (Asked (lengths_in c.args.asked.now)))) _ _ c.rejected_noted-answer.ensures.reply c.rejected_noted-answer.ensures.note c.in-Ok.ensures.walks c.tell_lengths.ensures

pub returns-in-Err : goal.returns-in-Err
returns-in-Err g c =
    walked_stop (answer_files_of c.args.asked.now.netlist.now c.args.asked.now.state.now c.args.asked.now.answer.now)
    (to_lengths Clauses c.args.asked.now.length) _ (sources_of (Asked (lengths_in c.args.asked.now))) _ c.lengths_sources.ensures c.in-Err.ensures.walks c.stop_at.ensures.reply c.stop_at.ensures.note
