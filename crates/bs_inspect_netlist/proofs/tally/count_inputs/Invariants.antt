use Rattle.std.proofs.Common.{◌≡◌, ◌≤◌, ◌*◌, length, take}
use Rattle.std.specs.List.{All, flat_map}
use Rattle.bs_net.specs.declared.limits.TheConstants.{MAX_TERMINALS}
use Rattle.bs_inspect_netlist.specs.Tallies.{counted}
use Rattle.bs_inspect_netlist.proofs.tally.count_inputs.Given as goal

abbrev pub invariant-gates : goal.invariant-gates
invariant-gates l = record {
  counts : l.table.items ≡ counted l.initial.table.items (flat_map (λ g. g.ins) (take l.i l.gates));
  wide : length l.table.items ≡ length l.initial.table.items;
  small : All (λ m. m ≤ MAX_TERMINALS * l.i) l.table.items;
}
