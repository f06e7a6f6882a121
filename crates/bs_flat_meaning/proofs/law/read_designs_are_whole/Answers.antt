use Rattle.bs_flat_meaning.proofs.JoinLemmas.{design_whole}
use Rattle.bs_flat_meaning.proofs.law.read_designs_are_whole.Goals as goal

pub returns : goal.returns
returns c = design_whole
