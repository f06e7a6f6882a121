use Rattle.std.proofs.Common.{◌<◌, length, arith, ◌∙◌}
use Rattle.bs_net.proofs.SettleLemmas.{states_more}
use Rattle.bs_sim.proofs.valuation.show_state.Goals as goal

pub loop-i-preserved : goal.loop-i-preserved
loop-i-preserved c =
    let room : c.loop-i.i < length c.args.state.now = omega arith in
    rw c.get.ensures.value (states_more _ _ _ _ _ c.loop-i-test.true room ∙ c.loop-i.invariant)
