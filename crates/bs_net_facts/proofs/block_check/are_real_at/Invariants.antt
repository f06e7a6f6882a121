use Rattle.std.proofs.Common.{map, take}
use Rattle.std.specs.List.{All}
use Rattle.bs_net.specs.Netlist.{circuit}
use Rattle.bs_net_facts.specs.Facts.{IsReal}
use Rattle.bs_net_facts.specs.Blocks.{moved}
use Rattle.bs_net_facts.proofs.block_check.are_real_at.Given as goal

abbrev pub invariant-bits : goal.invariant-bits
invariant-bits l = All (IsReal (circuit l.moments.net) l.moments.states l.moments.inputs) (map (moved l.cycle) (take l.fact-index l.bits))
