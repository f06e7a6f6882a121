use Rattle.bs_flat_meaning.proofs.NamedLemmas.{flat_nets_are_named}
use Rattle.bs_flat_meaning.proofs.law.flat_nets_are_named.Goals as goal

pub returns : goal.returns
returns c = flat_nets_are_named
