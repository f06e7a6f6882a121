use Rattle.std.proofs.Common.{◌-◌}
use Rattle.bs_net.specs.Netlist.{circuit}
use Rattle.bs_inspect_causes.specs.Since.{Stands}
use Rattle.bs_inspect_causes.proofs.since.stood_since.Given as goal

abbrev pub invariant-cycles : goal.invariant-cycles
invariant-cycles l = Stands (circuit l.moments.net) l.moments.states l.moments.inputs l.fact (l.fact.cycle - l.k)
