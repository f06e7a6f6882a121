use Rattle.std.proofs.Common.{rules}
use Rattle.bs_net.specs.Netlist.{circuit}
use Rattle.bs_reach.proofs.ReachLemmas.{at_reset_is}
use Rattle.bs_reach.proofs.answer.at_reset.Goals as goal

pub returns : goal.returns
returns c =
    at_reset_is (circuit c.args.net.now) c.args.state.now c.args.k c.args.b _ _ _ c.requires (search rules) (search rules) (search rules)
