use Rattle.bs_inspect_why.proofs.WhyLemmas.{given_driven, given_real}
use Rattle.bs_inspect_why.proofs.why.answer_by.Goals as goal

pub facts_text-requires-clause-real : goal.facts_text-requires-clause-real
facts_text-requires-clause-real c =
    given_real c.args.moments.now c.args.asked.now.nets.now c.args.asked.now.at c.args.facts c.in-Some.facts c.slice.result.now c.in-Some.is
    c.slice.ensures c.requires.facts

pub facts_text-requires-clause-driven : goal.facts_text-requires-clause-driven
facts_text-requires-clause-driven c =
    given_driven c.args.moments.now c.args.asked.now.nets.now c.args.asked.now.at c.args.facts c.in-Some.facts c.slice.result.now c.in-Some.is
    c.slice.ensures c.requires.facts c.requires.driven
