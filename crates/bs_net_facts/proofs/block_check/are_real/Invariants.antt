use Rattle.std.proofs.Common.{take}
use Rattle.std.specs.List.{All}
use Rattle.bs_net.specs.Netlist.{circuit}
use Rattle.bs_net_facts.specs.Facts.{IsReal}
use Rattle.bs_net_facts.proofs.block_check.are_real.Given as goal

abbrev pub invariant-facts : goal.invariant-facts
invariant-facts l = All (IsReal (circuit l.moments.net) l.moments.states l.moments.inputs) (take l.fact-index l.facts)
