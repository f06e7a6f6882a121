use Rattle.bs_flat_meaning.proofs.LawLemmas.{flat_keeps_meaning}
use Rattle.bs_flat_meaning.proofs.law.flat_parts_keep_meaning.Goals as goal

pub returns : goal.returns
returns c = flat_keeps_meaning
