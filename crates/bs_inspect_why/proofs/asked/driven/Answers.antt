use Rattle.std.proofs.Common.{arith}
use Rattle.bs_net.specs.Netlist.{circuit}
use Rattle.bs_inspect_why.proofs.AskedLemmas.{nets_more}
use Rattle.bs_inspect_why.proofs.asked.driven.Goals as goal

pub members-preserved : goal.members-preserved
members-preserved c =
    nets_more (circuit c.args.net.now) c.args.members.now c.members.member-index _ c.members.nets.items c.put_asked.new.nets.items
    (omega (arith, c.members-test.true)) c.members.invariant c.in_ok-put_asked.ensures
