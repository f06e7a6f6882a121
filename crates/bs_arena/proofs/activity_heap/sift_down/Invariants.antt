use Rattle.std.proofs.Common.{◌≤◌, ◌-◌, length}
use Rattle.bs_arena.specs.Heap.{IsRearranged, IsSortedAbove}
use Rattle.bs_arena.proofs.activity_heap.sift_down.Given as goal

abbrev pub invariant-places : goal.invariant-places
invariant-places l = record {
  so_far : IsRearranged l.initial.heap l.heap l.initial.positions l.positions;
  within : l.at ≤ length l.heap;
  sorted : IsSortedAbove l.heap l.activities l.at;
}

abbrev pub decreases-places : goal.decreases-places
decreases-places l = length l.heap - l.at
