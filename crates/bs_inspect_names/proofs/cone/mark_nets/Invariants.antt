use Rattle.std.proofs.Common.{◌≡◌, drop, length}
use Rattle.bs_inspect_names.specs.Cone.{marks}
use Rattle.bs_inspect_names.proofs.cone.mark_nets.Given as goal

abbrev pub invariant-nets : goal.invariant-nets
invariant-nets l = record {
  rest : marks l.table.items (drop l.net-index l.nets) ≡ marks l.initial.table.items l.nets;
  wide : length l.table.items ≡ length l.initial.table.items;
}
