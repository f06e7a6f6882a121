use Rattle.std.proofs.Common.{arith}
use Rattle.bs_inspect_causes.specs.Chains.{has_fact}
use Rattle.bs_inspect_causes.proofs.SearchLemmas.{all_more, all_not, all_whole}
use Rattle.bs_inspect_causes.proofs.chain.are_among.Goals as goal

pub facts-preserved : goal.facts-preserved
facts-preserved c =
    all_more (has_fact c.args.others.now) c.args.facts.now c.facts.fact-index _ c.has_fact.result (omega (arith, c.facts-test.true)) c.has_fact.ensures
    c.if-not-has_fact.false c.facts.invariant

pub returns-then-not-has_fact : goal.returns-then-not-has_fact
returns-then-not-has_fact c =
    all_not (has_fact c.args.others.now) c.args.facts.now c.facts.fact-index _ c.has_fact.result (omega (arith, c.facts-test.true)) c.has_fact.ensures
    c.if-not-has_fact.true

pub returns : goal.returns
returns c = all_whole (has_fact c.args.others.now) c.args.facts.now c.facts.fact-index (omega (arith, c.facts-test.false)) c.facts.invariant
