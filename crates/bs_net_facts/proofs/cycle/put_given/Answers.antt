use Rattle.std.proofs.Common.{arith}
use Rattle.bs_net_facts.proofs.CycleLemmas.{stays_fact}
use Rattle.bs_net_facts.proofs.cycle.put_given.Goals as goal

pub facts-preserved : goal.facts-preserved
facts-preserved c =
    stays_fact c.args.given.now c.args.cycle c.args.board.now c.facts.board c.put.new.self c.facts.i _ c.fixed.result (omega (arith, c.facts-test.true))
    c.if-fact-cycle.false c.fixed.ensures c.facts.invariant c.put.ensures.net c.in_ok-put.ensures.put
