use Rattle.std.proofs.Common.{arith}
use Rattle.bs_inspect_why.proofs.AskedLemmas.{facts_put}
use Rattle.bs_inspect_why.proofs.asked.asked_facts.Goals as goal

pub nets-preserved : goal.nets-preserved
nets-preserved c =
    facts_put c.args.moments.now c.args.nets.now c.args.at c.nets.i _ c.in-Some.fact c.nets.facts c.push.new.self (omega (arith, c.nets-test.true))
    c.nets.invariant c.in-Some.ensures c.in_ok-push.ensures.ok
