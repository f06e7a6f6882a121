use Rattle.std.proofs.Common.{arith}
use Rattle.bs_net.specs.Netlist.{circuit}
use Rattle.bs_net_facts.proofs.ToldLemmas.{real_stretch}
use Rattle.bs_net_facts.proofs.block_check.is_shown.Goals as goal

pub cycles-preserved : goal.cycles-preserved
cycles-preserved c =
    real_stretch (circuit c.args.moments.now.net) c.args.moments.now.states c.args.moments.now.inputs c.args.block.now.bits c.slice.result.now
    c.args.block.now.since c.cycles.cycle c.slice.ensures (omega (arith, c.cycles.auto.cycle)) c.cycles.invariant
    (c.are_real_at.ensures c.if-not-are_real_at.false)
