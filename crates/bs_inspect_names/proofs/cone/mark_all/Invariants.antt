use Rattle.std.proofs.Common.{◌≡◌, ◌-◌, drop, length}
use Rattle.bs_net.specs.Order.{gates_in}
use Rattle.bs_inspect_names.specs.Cone.{behind}
use Rattle.bs_inspect_names.proofs.cone.mark_all.Given as goal

abbrev pub invariant-order : goal.invariant-order
invariant-order l = record {
  marks : l.table.items ≡ behind (gates_in (drop (length l.order - l.k) l.order) l.gates) l.initial.table.items;
  wide : length l.table.items ≡ length l.initial.table.items;
}
