use Rattle.std.proofs.Common.{◌∙◌, ap, Option}
use Rattle.std.specs.Prelude.{is_some}
use Rattle.bs_net.specs.declared.net.NetId.{NetId}
use Rattle.bs_flat_elaborate.proofs.NamingLemmas.{has_is}
use Rattle.bs_flat_elaborate.proofs.naming.has_key.Goals as goal

pub returns : goal.returns
returns c = c.is_some.ensures ∙ (ap (λ (o : Option NetId). is_some o) c.number.ensures ∙ has_is c.args.names.now c.args.key.now)
