use Rattle.bs_report.proofs.TraceEndLemmas.{unhit_is_first, finished_reach_reset}
use Rattle.bs_report.proofs.good_law.finished_lists_reach_reset.Goals as goal

pub returns-clause-first : goal.returns-clause-first
returns-clause-first c = unhit_is_first

pub returns-clause-reset : goal.returns-clause-reset
returns-clause-reset c = finished_reach_reset
