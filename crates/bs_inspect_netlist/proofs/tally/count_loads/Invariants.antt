use Rattle.std.proofs.Common.{◌≡◌, ◌≤◌, ◌+◌, length, take, ◌*◌}
use Rattle.std.specs.List.{All, flat_map}
use Rattle.bs_net.specs.Parts.{load_nets}
use Rattle.bs_inspect_netlist.specs.Tallies.{counted}
use Rattle.bs_inspect_netlist.proofs.tally.count_loads.Given as goal

abbrev pub invariant-flops : goal.invariant-flops
invariant-flops l = record {
  counts : l.table.items ≡ counted l.initial.table.items (flat_map load_nets (take l.i l.flops));
  wide : length l.table.items ≡ length l.initial.table.items;
  small : All (λ m. m ≤ l.bound + 2 * l.i) l.table.items;
}
