use Rattle.std.proofs.Common.{◌≡◌, take}
use Rattle.bs_flat_nets.specs.Blocks.{numbers_of}
use Rattle.bs_flat_connect.proofs.ChildLemmas.{ChildrenSoFar}
use Rattle.bs_flat_connect.proofs.instances.children.Given as goal

abbrev pub invariant-written : goal.invariant-written
invariant-written l = record {
  tells : ChildrenSoFar l.table l.wiring l.ports l.below l.written l.i l.all;
  numbers : numbers_of l.all ≡ take l.i l.below;
}
