use Rattle.std.proofs.Common.{◌≡◌, ◌≤◌, ◌+◌, length, take}
use Rattle.std.specs.List.{All}
use Rattle.bs_inspect_netlist.specs.Tallies.{counted}
use Rattle.bs_inspect_netlist.proofs.tally.count_nets.Given as goal

abbrev pub invariant-nets : goal.invariant-nets
invariant-nets l = record {
  counts : l.table.items ≡ counted l.initial.table.items (take l.i l.nets);
  wide : length l.table.items ≡ length l.initial.table.items;
  small : All (λ m. m ≤ l.bound + l.i) l.table.items;
}
