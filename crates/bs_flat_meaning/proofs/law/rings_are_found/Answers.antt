use Rattle.bs_flat_meaning.proofs.RingLemmas.{rings_are_found}
use Rattle.bs_flat_meaning.proofs.law.rings_are_found.Goals as goal

pub returns : goal.returns
returns c = rings_are_found
