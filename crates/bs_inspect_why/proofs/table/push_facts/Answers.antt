use Rattle.std.proofs.Common.{arith}
use Rattle.bs_net.specs.Netlist.{parts_of}
use Rattle.bs_inspect_why.specs.Table.{fact_row}
use Rattle.bs_inspect_why_words.proofs.StepLemmas.{step_more}
use Rattle.bs_inspect_why.proofs.table.push_facts.Goals as goal

pub facts-preserved : goal.facts-preserved
facts-preserved c =
    step_more (fact_row (parts_of c.args.raw.now) c.args.account.now c.args.kind.now) c.args.facts.now c.facts.fact-index _ c.args.text.now.items
    c.facts.text.items c.push_fact.new.text.items (omega (arith, c.facts-test.true)) c.facts.invariant c.in_ok-push_fact.ensures
