use Rattle.bs_inspect_files.specs.Taken.{report_files_of}
use Rattle.bs_evidence.specs.declared.evidence.Format.TheVariants.{Clauses}
use Rattle.bs_inspect_words.specs.Asked.{evidence_in}
use Rattle.bs_inspect_words.specs.Request.{Cnf as Asked}
use Rattle.bs_inspect_plans.specs.Sources.{source_of, sources_of}
use Rattle.bs_inspect_plans.specs.Work.{to_evidence}
use Rattle.bs_inspect_plans.proofs.WorkLemmas.{walked_noted, walked_stop}
use Rattle.bs_inspect_report_requests.proofs.asking.cnf.Goals as goal

pub returns-in-Ok : goal.returns-in-Ok
returns-in-Ok g c =
    walked_noted (report_files_of c.args.asked.now.netlist.now c.args.asked.now.signature.now c.args.asked.now.report.now)
    (to_evidence Clauses c.args.asked.now.step) (source_of (sources_of (Asked (evidence_in c.args.asked.now)))) _ _ c.rejected_noted-answer.ensures.reply c.rejected_noted-answer.ensures.note c.in-Ok.ensures c.tell_evidence.ensures

pub returns-in-Err : goal.returns-in-Err
returns-in-Err g c =
    walked_stop (report_files_of c.args.asked.now.netlist.now c.args.asked.now.signature.now c.args.asked.now.report.now)
    (to_evidence Clauses c.args.asked.now.step) _ (sources_of (Asked (evidence_in c.args.asked.now))) _ c.evidence_sources.ensures c.in-Err.ensures c.stop_at.ensures.reply c.stop_at.ensures.note
