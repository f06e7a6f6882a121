use Rattle.std.proofs.Common.{refl}
use Rattle.bs_flat_elaborate.proofs.NamingLemmas.{made_none}
use Rattle.bs_flat_elaborate.proofs.naming.nothing.Goals as goal

pub returns : goal.returns
returns c = made_none _ c.new.ensures refl
