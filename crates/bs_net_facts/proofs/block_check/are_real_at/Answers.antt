use Rattle.std.proofs.Common.{arith}
use Rattle.bs_net.specs.Netlist.{circuit}
use Rattle.bs_net_facts.proofs.ToldLemmas.{real_moved, real_moved_all}
use Rattle.bs_net_facts.proofs.block_check.are_real_at.Goals as goal

pub bits-preserved : goal.bits-preserved
bits-preserved c =
    real_moved (circuit c.args.moments.now.net) c.args.moments.now.states c.args.moments.now.inputs c.args.cycle c.args.bits.now c.bits.fact-index _
    (omega (arith, c.bits-test.true)) c.bits.invariant (c.is_real.ensures c.if-not-is_real.false)

pub returns : goal.returns
returns c = λ yes.
    real_moved_all (circuit c.args.moments.now.net) c.args.moments.now.states c.args.moments.now.inputs c.args.cycle c.args.bits.now c.bits.fact-index
    (omega (arith, c.bits-test.false)) c.bits.invariant
