use Rattle.bs_flat_modules.proofs.DesignLemmas.{designs_have_few_nets}
use Rattle.bs_flat_modules.proofs.law.designs_have_few_nets.Goals as goal

pub returns : goal.returns
returns c = designs_have_few_nets
