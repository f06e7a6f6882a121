use Rattle.std.proofs.Common.{◌<◌, ◌+◌, ◌^◌, ◌++◌, ◌∷◌, [], false, sym, subst, ap, ◌∙◌}
use Rattle.std.specs.Prelude.{vec_capacity}
use Rattle.bs_watch.specs.Places.{TrailState}
use Rattle.bs_watch.specs.Tables.{IsTrail, no_cause}
use Rattle.bs_watch.proofs.TableLemmas.{grown_trail}
use Rattle.bs_watch.proofs.trail.Trail.grow.Goals as goal

pub invariant_of-self-2 : goal.invariant_of-self-2
invariant_of-self-2 c =
    let vars = c.self.inside.vars + 1 in
    let room = vec_capacity c.make_room.new.literals in
    let small : c.self.inside.vars + 1 < 2 ^ 30 = subst (λ (s : TrailState). s.vars + 1 < 2 ^ 30) (sym c.self.view_is) c.requires in
    let after =
    grown_trail c.self.inside.vars c.self.inside.values.items c.self.inside.causes.items c.self.inside.literals.items c.self.inside.order
    c.self.inside.is_ordered (vec_capacity c.self.inside.literals) room c.self.invariant small c.in_ok-make_room.ensures.for_literals in
    subst (λ vs. IsTrail vars vs c.push_cause.new.causes.items c.make_room.new.literals.items c.grow_order.new.order false room)
    (sym (c.push_values.ensures ∙ ap (λ xs. xs ++ false ∷ false ∷ []) c.make_room.ensures.values))
    (subst (λ cs. IsTrail vars (c.self.inside.values.items ++ false ∷ false ∷ []) cs c.make_room.new.literals.items c.grow_order.new.order false room)
    (sym (c.push_cause.ensures ∙ ap (λ xs. xs ++ no_cause ∷ []) c.make_room.ensures.causes))
    (subst (λ ls. IsTrail vars (c.self.inside.values.items ++ false ∷ false ∷ []) (c.self.inside.causes.items ++ no_cause ∷ []) ls
    c.grow_order.new.order false room) (sym c.make_room.ensures.literals)
    (subst (λ os. IsTrail vars (c.self.inside.values.items ++ false ∷ false ∷ []) (c.self.inside.causes.items ++ no_cause ∷ [])
    c.self.inside.literals.items os false room) (sym c.in_ok-grow_order.ensures.ok) after)))
