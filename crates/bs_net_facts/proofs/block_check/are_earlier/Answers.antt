use Rattle.std.proofs.Common.{arith, sym, ◌∙◌}
use Rattle.std.specs.Prelude.{IsTrue}
use Rattle.bs_net_facts.specs.declared.fact.Fact.{Fact}
use Rattle.bs_net_facts.specs.Blocks.{is_earlier}
use Rattle.bs_net_facts.proofs.ToldLemmas.{earlier_taken, all_of_taken}
use Rattle.bs_net_facts.proofs.block_check.are_earlier.Goals as goal

pub facts-preserved : goal.facts-preserved
facts-preserved c =
    earlier_taken c.args.block.now c.args.given.now c.facts.fact-index _ (omega (arith, c.facts-test.true)) c.facts.invariant
    (sym c.is_earlier.ensures ∙ c.if-not-is_earlier.false)

pub returns : goal.returns
returns c = λ yes.
    all_of_taken (λ (f : Fact). IsTrue (is_earlier c.args.block.now f)) c.args.given.now c.facts.fact-index (omega (arith, c.facts-test.false))
    c.facts.invariant
