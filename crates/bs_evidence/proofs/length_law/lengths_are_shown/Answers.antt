use Rattle.bs_net.specs.Netlist.{circuit}
use Rattle.bs_evidence.proofs.ShownLemmas.{reached_meets, met_is_reached, finished_is_unmet_in}
use Rattle.bs_evidence.proofs.length_law.lengths_are_shown.Goals as goal

pub returns-clause-reached : goal.returns-clause-reached
returns-clause-reached c = reached_meets (circuit c.args.net.now) c.unrolled_clauses_are_executions.ensures.reached

pub returns-clause-met : goal.returns-clause-met
returns-clause-met c = met_is_reached (circuit c.args.net.now) c.unrolled_clauses_are_executions.ensures.solutions

pub returns-clause-unmet : goal.returns-clause-unmet
returns-clause-unmet c = finished_is_unmet_in (circuit c.args.net.now)
