use Rattle.std.proofs.Common.{◌+◌, ◌++◌, ◌∷◌, [], ap, ◌∙◌, length, arith, sym, subst}
use Rattle.std.proofs.lemmas.List.{length-map}
use Rattle.std.specs.Prelude.{is_some, vec_capacity, None}
use Rattle.bs_arena.specs.Heap.{IsOrder}
use Rattle.bs_arena.proofs.Sorting.{order_grown}
use Rattle.bs_arena.proofs.decision_order.Order.grow.Goals as goal

pub invariant_of-self-2 : goal.invariant_of-self-2
invariant_of-self-2 c =
    let h = c.self.inside.heap.items in
    let ps = c.self.inside.positions.items in
    let acts = c.self.inside.activities.items in
    let room = c.in_ok-make_room.ensures in
    let cap = vec_capacity c.make_room.new.heap in
    let after =
    order_grown h ps acts (vec_capacity c.self.inside.heap) cap c.self.invariant room.for_heap
    (let e = ap length c.self.view_is in let w = length-map ps is_some in omega (arith, e, w, c.requires)) in
    subst (λ k. IsOrder k c.push_place.new.positions.items c.push_activity.new.activities.items cap) (sym room.heap)
    (subst (λ k. IsOrder h k c.push_activity.new.activities.items cap) (sym (c.push_place.ensures ∙ ap (λ x. x ++ None ∷ []) room.positions))
    (subst (λ k. IsOrder h (ps ++ None ∷ []) k cap) (sym (c.push_activity.ensures ∙ ap (λ x. x ++ 0 ∷ []) room.activities)) after))
