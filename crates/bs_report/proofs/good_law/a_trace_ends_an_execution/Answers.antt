use Rattle.bs_report.proofs.ExecutionLemmas.{executed}
use Rattle.bs_report.proofs.good_law.a_trace_ends_an_execution.Goals as goal

pub returns : goal.returns
returns c = executed
