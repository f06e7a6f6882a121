use Rattle.std.proofs.Common.{arith}
use Rattle.bs_net_facts.proofs.CycleLemmas.{stays_bit}
use Rattle.bs_net_facts.proofs.cycle.put_bits.Goals as goal

pub bits-preserved : goal.bits-preserved
bits-preserved c =
    stays_bit c.args.bits.now c.args.board.now c.bits.board c.put.new.self c.bits.fact-index _ c.fixed.result (omega (arith, c.bits-test.true))
    c.fixed.ensures c.bits.invariant c.put.ensures.net c.in_ok-put.ensures.put
