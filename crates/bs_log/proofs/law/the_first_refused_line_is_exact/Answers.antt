use Rattle.bs_log.proofs.FirstRefusals.{none_is_refused_in_accepted, the_first_is_refused}
use Rattle.bs_log.proofs.law.the_first_refused_line_is_exact.Goals as goal

pub returns-clause-accepted : goal.returns-clause-accepted
returns-clause-accepted c = none_is_refused_in_accepted

pub returns-clause-refused : goal.returns-clause-refused
returns-clause-refused c = the_first_is_refused
