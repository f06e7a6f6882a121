use Rattle.std.proofs.Common.{◌≡◌, ℕ, ◌+◌, ◌<◌, min, length, get_or, map, List, arith, ap, sym, ◌∙◌, subst, refl, length-set}
use Rattle.std.specs.List.{All}
use Rattle.std.proofs.lemmas.List.{length-map, length-replicate}
use Rattle.bs_flat_meaning.specs.Design.{Instance}
use Rattle.bs_flat_meaning.specs.Counts.{sum_of}
use Rattle.bs_flat_nets.specs.Blocks.{instance_of, module_of}
use Rattle.bs_flat_nets.specs.Order.{module_in}
use Rattle.bs_flat_nets.specs.Nets.{sum_below}
use Rattle.bs_flat_nets.specs.Sums.{weight_in, IsFit}
use Rattle.bs_flat_nets.specs.declared.blocks.FlatModule.{FlatModule}
use Rattle.bs_flat_nets.specs.declared.blocks.Child.{Child}
use Rattle.bs_flat_nets.proofs.SumLemmas.{sum_is_local, sum_past}
use Rattle.bs_flat_nets.proofs.OrderLemmas.{follows_none, follows_more, follows_all, in_order, children_within}
use Rattle.bs_flat_nets.proofs.WeightLemmas.{sum_rule}
use Rattle.bs_flat_nets.proofs.sums.sums.Goals as goal

pub sum_children-sum-requires : goal.sum_children-sum-requires
sum_children-sum-requires c =
    let blocks = c.args.blocks.now in
    let m = get_or c.args.order.now c.each.k-index 0 in
    let b = c.index-blocks-k.result in
    let there : m < length blocks = in_order blocks c.args.order.now c.each.k-index c.requires.order c.each-test.true in
    let cs : c.slice-children.result.now ≡ b.children = c.slice-children.ensures ∙ ap (λ (u : FlatModule). u.children) (sym c.index-blocks-k.is) in
    let inside = children_within blocks c.args.order.now m b c.requires.order there c.index-blocks-k.is in
    let fit : All (IsFit blocks) b.children =
    subst (λ (u : FlatModule). All (IsFit blocks) u.children) (sym c.index-blocks-k.is) (c.requires.fit m b there) in
    record {
      there = subst (λ (u : List Child). All (λ (y : Child). y.of < length blocks) u) (sym cs) inside;
      wide = ap length c.as_slice.ensures.value ∙ c.each.invariant.wide;
      bits = c.requires.bits;
      fit = subst (λ (u : List Child). All (IsFit blocks) u) (sym cs) fit;
    }

pub each-init : goal.each-init
each-init c =
    record {
      wide = ap length c.in_ok-table.ensures ∙ length-replicate _ _;
      first =
          follows_none (sum_below 100001 (weight_in c.args.sort (map module_of c.args.blocks.now))) 0 (map module_of c.args.blocks.now) c.args.order.now
          c.in_ok-table.table.items;
    }

pub each-preserved : goal.each-preserved
each-preserved c =
    let blocks = c.args.blocks.now in
    let order = c.args.order.now in
    let table = c.each.table.items in
    let m = get_or order c.each.k-index 0 in
    let b = c.index-blocks-k.result in
    let g : Instance → ℕ = weight_in c.args.sort (map module_of blocks) in
    let there : m < length blocks = in_order blocks order c.each.k-index c.requires.order c.each-test.true in
    let cs : c.slice-children.result.now ≡ b.children = c.slice-children.ensures ∙ ap (λ (u : FlatModule). u.children) (sym c.index-blocks-k.is) in
    let v : c.sum_children-sum.result ≡ sum_below 100001 g (λ j. get_or table j 0) (module_in (map module_of blocks) m) =
    c.sum_children-sum.ensures
    ∙ (ap (λ (t : List ℕ). min 100001 (sum_of (λ (y : Child). g (instance_of y) + get_or t y.of 0) c.slice-children.result.now)) c.as_slice.ensures.value
    ∙ (ap (λ (u : List Child). min 100001 (sum_of (λ (y : Child). g (instance_of y) + get_or table y.of 0) u)) cs
    ∙ sym (sum_rule blocks m 100001 b g (λ j. get_or table j 0) there c.index-blocks-k.is))) in
    record {
      wide = length-set table m _ ∙ c.each.invariant.wide;
      first =
          follows_more (sum_below 100001 g) 0 (map module_of blocks) order table _ c.each.k-index m c.sum_children-sum.result (sum_is_local 100001 g)
          c.requires.order c.each-test.true refl (omega (arith, there, c.each.invariant.wide)) v refl c.each.invariant.first;
    }

pub returns-clause-follows : goal.returns-clause-follows
returns-clause-follows c =
    let g : Instance → ℕ = weight_in c.args.sort (map module_of c.args.blocks.now) in
    follows_all (sum_below 100001 g) 0 (map module_of c.args.blocks.now) c.args.order.now c.each.table.items c.each.k-index c.requires.order
    (sum_past 100001 g) (c.each.invariant.wide ∙ sym (length-map c.args.blocks.now module_of)) c.each-test.false c.each.invariant.first
