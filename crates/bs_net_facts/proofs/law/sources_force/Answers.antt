use Rattle.bs_net_facts.proofs.LawLemmas.{sources_force}
use Rattle.bs_net_facts.proofs.law.sources_force.Goals as goal

pub returns : goal.returns
returns c = sources_force
