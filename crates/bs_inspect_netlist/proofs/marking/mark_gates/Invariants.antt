use Rattle.std.proofs.Common.{◌≡◌, ◌≤◌, ◌+◌, length, drop}
use Rattle.std.specs.List.{All}
use Rattle.bs_net.specs.Order.{gates_in}
use Rattle.bs_inspect_netlist.specs.Marks.{marked}
use Rattle.bs_inspect_netlist.proofs.marking.mark_gates.Given as goal

abbrev pub invariant-order : goal.invariant-order
invariant-order l = record {
  rest : marked l.measure (gates_in (drop l.k l.order) l.gates) l.table.items ≡ marked l.measure (gates_in l.order l.gates) l.initial.table.items;
  wide : length l.table.items ≡ length l.initial.table.items;
  small : All (λ m. m ≤ l.bound + l.k) l.table.items;
}
