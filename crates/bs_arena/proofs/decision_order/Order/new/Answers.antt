use Rattle.std.proofs.Common.{◌+◌, ap, ◌∙◌}
use Rattle.std.specs.Prelude.{vec_capacity}
use Rattle.bs_arena.specs.Heap.{members}
use Rattle.bs_arena.proofs.Sorting.{order_of_none, none_wait}
use Rattle.bs_arena.proofs.decision_order.Order.new.Goals as goal

pub invariant_of-result : goal.invariant_of-result
invariant_of-result c =
    order_of_none c.args.vars (vec_capacity c.in_ok-heap.heap) c.in_ok-heap.heap.items c.in_ok-positions.positions.items
    c.in_ok-activities.activities.items c.in_ok-heap.ensures.empty c.in_ok-positions.ensures c.in_ok-activities.ensures c.requires
    c.in_ok-heap.ensures.room

pub returns : goal.returns
returns c = ap members c.in_ok-positions.ensures ∙ none_wait (c.args.vars + 1)
