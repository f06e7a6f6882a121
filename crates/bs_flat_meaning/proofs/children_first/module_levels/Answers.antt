use Rattle.std.proofs.Common.{◌∙◌, ℕ, ◌<◌, List, map, length, subst, sym, ap, arith, nat_eq}
use Rattle.std.specs.List.{All, IsDistinct}
use Rattle.bs_net.specs.declared.net.Gate.{Gate}
use Rattle.bs_net.specs.declared.order.Levelling.{Levelling}
use Rattle.bs_net.specs.Order.{IsOrder}
use Rattle.bs_net.specs.Loops.{IsLoop, IsLevelling}
use Rattle.bs_flat_meaning.specs.Gates.{turned}
use Rattle.bs_flat_meaning.specs.Rings.{IsRing}
use Rattle.bs_flat_meaning.proofs.LevelLemmas.{gates_count, gates_outs, gates_ins, gates_narrow, gates_single, order_is}
use Rattle.bs_flat_meaning.proofs.RingOrderLemmas.{loop_is_ring, loop_is_some}
use Rattle.bs_flat_meaning.proofs.children_first.module_levels.Goals as goal

pub levelize-requires-clause-outs : goal.levelize-requires-clause-outs
levelize-requires-clause-outs c =
    subst (λ (gs : List Gate). All (λ g. g.out.0 < length c.args.below.now) gs) (sym (c.slice.ensures ∙ c.in_ok-gates.ensures)) (gates_outs c.args.below.now)

pub levelize-requires-clause-ins : goal.levelize-requires-clause-ins
levelize-requires-clause-ins c =
    subst (λ (gs : List Gate). All (λ g. All (λ n. n.0 < length c.args.below.now) g.ins) gs) (sym (c.slice.ensures ∙ c.in_ok-gates.ensures))
    (gates_ins c.args.below.now c.requires.there)

pub levelize-requires-clause-narrow : goal.levelize-requires-clause-narrow
levelize-requires-clause-narrow c =
    subst (λ (gs : List Gate). All (λ g. length g.ins < 4294967296) gs) (sym (c.slice.ensures ∙ c.in_ok-gates.ensures))
    (gates_narrow c.args.below.now (sym c.are_narrow.ensures ∙ c.if-not-are_narrow.false))

pub levelize-requires-clause-few : goal.levelize-requires-clause-few
levelize-requires-clause-few c =
    let same = ap (λ (l : List Gate). length l) (c.slice.ensures ∙ c.in_ok-gates.ensures) in
    let wide = gates_count c.args.below.now in
    omega (arith, same, wide, c.requires.few)

pub levelize-requires-clause-single : goal.levelize-requires-clause-single
levelize-requires-clause-single c =
    subst (λ (gs : List Gate). IsDistinct nat_eq (map (λ (g : Gate). g.out.0) gs)) (sym (c.slice.ensures ∙ c.in_ok-gates.ensures))
    (gates_single c.args.below.now)

pub returns-in-Ordered : goal.returns-in-Ordered
returns-in-Ordered c =
    let P : Levelling → Type 0 = λ l. IsLevelling c.slice.result.now l in
    let order : IsOrder c.slice.result.now c.in-Ordered.order = subst P c.in-Ordered.is c.in_ok-order.ensures in
    order_is c.args.below.now c.in-Ordered.order c.requires.there
    (subst (λ (gs : List Gate). IsOrder gs c.in-Ordered.order) (c.slice.ensures ∙ c.in_ok-gates.ensures) order)

pub returns : goal.returns
returns c =
    let P : Levelling → Type 0 = λ l. IsLevelling c.slice.result.now l in
    let loop : IsLoop c.slice.result.now c.in-Looped.against = subst P c.in-Looped.is c.in_ok-order.ensures in
    let ring = loop_is_ring c.args.below.now c.in-Looped.against
    (subst (λ (gs : List Gate). IsLoop gs c.in-Looped.against) (c.slice.ensures ∙ c.in_ok-gates.ensures) loop) in
    subst (IsRing c.args.below.now) (sym (c.in_ok-turned-in-Looped.ensures ∙ ap turned c.slice-in-Looped.ensures)) ring

pub turned-requires : goal.turned-requires
turned-requires c =
    let P : Levelling → Type 0 = λ l. IsLevelling c.slice.result.now l in
    let loop : IsLoop c.slice.result.now c.in-Looped.against = subst P c.in-Looped.is c.in_ok-order.ensures in
    subst (λ (l : List ℕ). 0 < length l) (sym c.slice-in-Looped.ensures) (loop_is_some c.slice.result.now c.in-Looped.against loop)
