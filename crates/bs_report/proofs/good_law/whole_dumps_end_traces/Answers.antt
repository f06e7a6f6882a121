use Rattle.bs_report.proofs.ExecutionLemmas.{whole_ends, whole_led}
use Rattle.bs_report.proofs.good_law.whole_dumps_end_traces.Goals as goal

pub returns-clause-ends : goal.returns-clause-ends
returns-clause-ends c = whole_ends

pub returns-clause-leads : goal.returns-clause-leads
returns-clause-leads c = whole_led
