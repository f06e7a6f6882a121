use Rattle.bs_net.proofs.DecidedLemmas.{has_order_Decides, passes_Decides}
use Rattle.bs_net.proofs.law.tests_decide_the_check.Goals as goal

pub returns-clause-orders : goal.returns-clause-orders
returns-clause-orders c = has_order_Decides

pub returns-clause-checks : goal.returns-clause-checks
returns-clause-checks c = passes_Decides
