use Rattle.bs_net.specs.Netlist.{circuit}
use Rattle.bs_inspect_causes.specs.Since.{AreAges}
use Rattle.bs_inspect_causes.proofs.since.ages.Given as goal

abbrev pub invariant-facts : goal.invariant-facts
invariant-facts l = AreAges (circuit l.moments.net) l.moments.states l.moments.inputs l.facts l.i l.ages.items
