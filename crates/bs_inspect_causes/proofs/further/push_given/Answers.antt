use Rattle.bs_inspect_causes.proofs.FurtherLemmas.{asks_more, given_there}
use Rattle.bs_inspect_causes.proofs.further.push_given.Goals as goal

pub push_fact-requires : goal.push_fact-requires
push_fact-requires c = given_there c.args.account.now.block.given c.slice-fact-items.result.now c.given.fact-index _ c.slice-fact-items.ensures c.given-test.true

pub given-preserved : goal.given-preserved
given-preserved c =
    asks_more c.args.basis.now.drivers.now c.args.account.now c.args.facts.now.items c.given.facts.items c.push_fact.new.facts.items c.given.invariant
    c.in_ok-push_fact.ensures
