use Rattle.bs_net_facts.specs.Marked.{Stays, ShowAt}
use Rattle.bs_net_facts.proofs.cycle.put_given.Given as goal

abbrev pub invariant-facts : goal.invariant-facts
invariant-facts l = Stays (ShowAt l.cycle l.given) l.initial.board l.board
