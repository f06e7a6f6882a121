use Rattle.std.proofs.Common.{arith}
use Rattle.bs_net.specs.Netlist.{circuit}
use Rattle.bs_net_facts.specs.Facts.{IsReal}
use Rattle.bs_net_facts.proofs.ToldLemmas.{real_taken, all_of_taken}
use Rattle.bs_net_facts.proofs.block_check.are_real.Goals as goal

pub facts-preserved : goal.facts-preserved
facts-preserved c =
    real_taken (circuit c.args.moments.now.net) c.args.moments.now.states c.args.moments.now.inputs c.args.facts.now c.facts.fact-index _
    (omega (arith, c.facts-test.true)) c.facts.invariant (c.is_real.ensures c.if-not-is_real.false)

pub returns : goal.returns
returns c = λ yes.
    all_of_taken (IsReal (circuit c.args.moments.now.net) c.args.moments.now.states c.args.moments.now.inputs) c.args.facts.now c.facts.fact-index
    (omega (arith, c.facts-test.false)) c.facts.invariant
