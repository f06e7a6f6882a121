use Rattle.bs_net.specs.Netlist.{circuit}
use Rattle.bs_inspect_why_words.specs.Heads.{AreBefore}
use Rattle.bs_inspect_why_words.proofs.head.bits_before.Given as goal

abbrev pub invariant-facts : goal.invariant-facts
invariant-facts l = AreBefore (circuit l.moments.net) l.moments.states l.moments.inputs l.facts l.since l.i l.befores
