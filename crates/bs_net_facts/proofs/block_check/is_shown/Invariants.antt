use Rattle.std.proofs.Common.{◌-◌}
use Rattle.std.specs.List.{All}
use Rattle.bs_net.specs.Netlist.{circuit}
use Rattle.bs_net_facts.specs.Facts.{IsReal}
use Rattle.bs_net_facts.specs.Blocks.{stretch}
use Rattle.bs_net_facts.proofs.block_check.is_shown.Given as goal

abbrev pub invariant-cycles : goal.invariant-cycles
invariant-cycles l = All (IsReal (circuit l.moments.net) l.moments.states l.moments.inputs) (stretch l.block.bits l.block.since (l.cycle - l.block.since))
