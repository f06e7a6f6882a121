use Rattle.bs_flat_connect.proofs.WireLemmas.{tells_whole}
use Rattle.bs_flat_connect.proofs.terms.declared_nets.Goals as goal

pub returns-in_ok-nets-in-None : goal.returns-in_ok-nets-in-None
returns-in_ok-nets-in-None c =
    tells_whole c.args.keys.now c.args.name.now c.args.range c.args.index c.args.span c.in_ok-nets-in-None.nets c.in-None.is c.in_ok-nets-in-None.ensures
