use Rattle.std.proofs.Common.{◌<◌, length, arith, ◌∙◌}
use Rattle.bs_net.proofs.SettleLemmas.{puts_more}
use Rattle.bs_sim.proofs.valuation.show_nets.Goals as goal

pub loop-i-preserved : goal.loop-i-preserved
loop-i-preserved c =
    let room : c.loop-i.i < length c.args.bits.now = omega arith in
    rw c.get.ensures.value (puts_more _ _ _ _ _ c.loop-i-test.true room ∙ c.loop-i.invariant)
