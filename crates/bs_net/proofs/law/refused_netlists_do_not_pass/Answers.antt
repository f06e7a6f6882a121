use Rattle.bs_net.proofs.RefusalLemmas.{refused_do_not_pass}
use Rattle.bs_net.proofs.law.refused_netlists_do_not_pass.Goals as goal

pub returns : goal.returns
returns c = refused_do_not_pass
