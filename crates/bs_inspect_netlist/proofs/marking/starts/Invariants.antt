use Rattle.std.proofs.Common.{◌≡◌}
use Rattle.bs_inspect_netlist.specs.Marks.{starts}
use Rattle.bs_inspect_netlist.proofs.marking.starts.Given as goal

abbrev pub invariant-nets : goal.invariant-nets
invariant-nets l = l.table.items ≡ starts l.measure l.net
