use Rattle.std.proofs.Common.{◌≡◌, drop}
use Rattle.bs_net.specs.Search.{filled}
use Rattle.bs_net.proofs.order.fill_table.Given as goal

abbrev pub invariant-loop-i : goal.invariant-loop-i
invariant-loop-i l = filled l.table.items l.i (drop l.i l.gates) ≡ filled l.initial.table.items 0 l.gates
