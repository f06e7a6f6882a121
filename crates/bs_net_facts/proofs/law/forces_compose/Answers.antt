use Rattle.bs_net_facts.proofs.LawLemmas.{forces_compose, more_force}
use Rattle.bs_net_facts.proofs.law.forces_compose.Goals as goal

pub returns-clause-compose : goal.returns-clause-compose
returns-clause-compose c = forces_compose

pub returns-clause-more : goal.returns-clause-more
returns-clause-more c = more_force
