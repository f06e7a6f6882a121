use Rattle.bs_inspect_why.specs.Question.{AreAsked}
use Rattle.bs_inspect_why.proofs.asked.asked_facts.Given as goal

abbrev pub invariant-nets : goal.invariant-nets
invariant-nets l = AreAsked l.moments l.nets l.at l.i l.facts
