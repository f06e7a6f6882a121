use Rattle.std.proofs.Common.{sym, subst}
use Rattle.bs_arena.specs.Heap.{IsSortedButOf}
use Rattle.bs_arena.proofs.Sorting.{sorted_bumped}
use Rattle.bs_arena.proofs.decision_order.Order.bump.Goals as goal

pub raise-requires-clause-sorted : goal.raise-requires-clause-sorted
raise-requires-clause-sorted c =
    let h = c.self.inside.heap.items in
    let ps = c.self.inside.positions.items in
    let v = c.args.variable in
    subst (λ k. IsSortedButOf k c.as_slice.result.now c.as_mut_slice-2.result.now v) (sym c.as_mut_slice.ensures.value)
    (subst (λ qs. IsSortedButOf h c.as_slice.result.now qs v) (sym c.as_mut_slice-2.ensures.value)
    (subst (λ acts. IsSortedButOf h acts ps v) (sym c.as_slice.ensures.value)
    (sorted_bumped h c.self.inside.activities.items c.add_activity.new.activities.items ps v c.self.invariant.fits c.self.invariant.sorted c.add_activity.ensures)))
