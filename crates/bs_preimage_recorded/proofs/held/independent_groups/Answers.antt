use Rattle.bs_net.specs.Netlist.{circuit}
use Rattle.bs_preimage_recorded.proofs.ForwardLemmas.{groups_independent}
use Rattle.bs_preimage_recorded.proofs.held.independent_groups.Goals as goal

pub returns : goal.returns
returns c =
    groups_independent (circuit c.args.net.now) c.args.input c.args.value c.args.flags.now c.in_ok-groups.groups c.requires c.in_ok-groups.ensures
