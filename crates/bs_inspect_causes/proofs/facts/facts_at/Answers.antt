use Rattle.std.proofs.Common.{arith}
use Rattle.bs_inspect_causes.proofs.FactLemmas.{facts_all, facts_put}
use Rattle.bs_inspect_causes.proofs.facts.facts_at.Goals as goal

pub nets-preserved : goal.nets-preserved
nets-preserved c =
    facts_put c.args.moments.now c.args.nets.now c.nets.net-index _ c.args.cycle c.nets.facts c.push_fact.new.facts c.known_bit-bit.result
    (omega (arith, c.nets-test.true)) c.nets.invariant c.known_bit-bit.ensures c.in_ok-push_fact.ensures

pub returns : goal.returns
returns c =
    facts_all c.args.moments.now c.args.nets.now c.nets.net-index c.args.cycle c.nets.facts (omega (arith, c.nets-test.false)) c.nets.invariant
