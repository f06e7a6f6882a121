use Rattle.std.proofs.Common.{◌≡◌, length}
use Rattle.bs_inspect_near.specs.Shown.{AreEmpty}
use Rattle.bs_inspect_near.proofs.sets.push_empty.Given as goal

abbrev pub invariant-sets : goal.invariant-sets
invariant-sets l = record {
  long : length l.sets.items ≡ l.counter;
  empty : AreEmpty l.sets.items;
}
