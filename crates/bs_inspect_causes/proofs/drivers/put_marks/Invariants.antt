use Rattle.std.proofs.Common.{◌≡◌, length, take}
use Rattle.bs_inspect_causes.specs.Layers.{MarksThese}
use Rattle.bs_inspect_causes.proofs.drivers.put_marks.Given as goal

abbrev pub invariant-nets : goal.invariant-nets
invariant-nets l = record {
  long : length l.marks.items ≡ length l.initial.marks.items;
  marked : MarksThese (take l.net-index l.nets) l.marks.items;
}
