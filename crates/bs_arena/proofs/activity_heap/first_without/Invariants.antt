use Rattle.std.proofs.Common.{◌≡◌, ◌≤◌, length, None}
use Rattle.std.specs.Prelude.{vec_capacity}
use Rattle.bs_arena.specs.Open.{HoldsOpen}
use Rattle.bs_arena.specs.Heap.{IsIndexed, IsSorted, members, place_of}
use Rattle.bs_arena.proofs.activity_heap.first_without.Given as goal

abbrev pub invariant-variables : goal.invariant-variables
invariant-variables l = record {
  fits : IsIndexed l.heap.items l.positions;
  holds : HoldsOpen (members l.positions) l.values;
  low : place_of l.positions 0 ≡ None;
  width : length l.positions ≡ length l.initial.positions;
  shorter : length l.heap.items ≤ length l.initial.heap.items;
  sorted : IsSorted l.heap.items l.activities;
  capacity : vec_capacity l.initial.heap ≤ vec_capacity l.heap;
}

abbrev pub decreases-variables : goal.decreases-variables
decreases-variables l = length l.heap.items
