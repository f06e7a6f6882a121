use Rattle.std.proofs.Common.{arith, ap, ◌∙◌}
use Rattle.bs_sim.specs.Marks.{fixed}
use Rattle.bs_net_facts.proofs.SeenLemmas.{stay_state}
use Rattle.bs_net_facts.proofs.moments.mark_state.Goals as goal

pub flops-preserved : goal.flops-preserved
flops-preserved c =
    stay_state c.args.flops.now c.args.state.now c.args.marks.now c.flops.marks c.flops.i _ c.fixed.result (omega (arith, c.flops-test.true))
    (c.fixed.ensures ∙ ap fixed c.get.ensures.value) c.requires.placed c.flops.invariant
