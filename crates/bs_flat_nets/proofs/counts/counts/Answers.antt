use Rattle.std.proofs.Common.{◌≡◌, ℕ, ◌+◌, ◌<◌, min, length, get_or, map, List, arith, ap, sym, ◌∙◌, subst, refl, length-set}
use Rattle.bs_flat_meaning.specs.Counts.{sum_of}
use Rattle.bs_flat_nets.specs.Blocks.{module_of}
use Rattle.bs_flat_nets.specs.Order.{module_in}
use Rattle.bs_flat_nets.specs.Tables.{count_by_parts, count_at, own_count}
use Rattle.bs_flat_nets.specs.declared.blocks.Child.{Child}
use Rattle.bs_flat_nets.proofs.BoundLemmas.{count_is_local, count_past}
use Rattle.bs_flat_nets.proofs.OrderLemmas.{follows_none, follows_more, follows_all, in_order, children_within, count_rule}
use Rattle.std.proofs.lemmas.List.{length-map, length-replicate}
use Rattle.bs_flat_nets.proofs.counts.counts.Goals as goal

pub count_of-count-requires-clause-there : goal.count_of-count-requires-clause-there
count_of-count-requires-clause-there c =
    λ k d lt.
    let m = get_or c.args.order.now c.order.k-index 0 in
    let there : m < length c.args.blocks.now = in_order c.args.blocks.now c.args.order.now c.order.k-index c.requires c.order-test.true in
    let inside = children_within c.args.blocks.now c.args.order.now m c.index-blocks-k.result c.requires there c.index-blocks-k.is in
    let cs : c.slice.result.now ≡ c.index-blocks-k.result.children =
    c.slice.ensures in
    let wide : length c.as_slice.result.now ≡ length c.args.blocks.now = ap length c.as_slice.ensures.value ∙ c.order.invariant.wide in
    let lt2 = subst (λ (cs : List Child). k < length cs) cs lt in
    subst (λ n. (get_or c.slice.result.now k d).of < n) (sym wide)
    (subst (λ (cs : List Child). (get_or cs k d).of < length c.args.blocks.now) (sym cs) (inside k d lt2))

pub order-init : goal.order-init
order-init c =
    record {
      wide = ap length c.in_ok-table.ensures ∙ length-replicate _ _;
      first = follows_none (count_by_parts 400002) 1 (map module_of c.args.blocks.now) c.args.order.now c.in_ok-table.table.items;
    }

pub order-preserved : goal.order-preserved
order-preserved c =
    let blocks = c.args.blocks.now in
    let order = c.args.order.now in
    let table = c.order.table.items in
    let m = get_or order c.order.k-index 0 in
    let there : m < length blocks = in_order blocks order c.order.k-index c.requires c.order-test.true in
    let own = c.own_parts.result in
    let eo : own ≡ min 400002 (own_count c.index-blocks-k.result) = c.own_parts.ensures in
    let cs_are : c.slice.result.now ≡ c.index-blocks-k.result.children =
    c.slice.ensures in
    let v : c.count_of-count.result ≡ count_by_parts 400002 (λ j. get_or table j 1) (module_in (map module_of blocks) m) =
    c.count_of-count.ensures
    ∙ (ap (λ (t : List ℕ). min 400002 (own + sum_of (λ (y : Child). count_at t y.of) c.slice.result.now)) c.as_slice.ensures.value
    ∙ (ap (λ (cs : List Child). min 400002 (own + sum_of (λ (y : Child). count_at table y.of) cs)) cs_are
    ∙ sym (count_rule blocks m 400002 own c.index-blocks-k.result (λ j. get_or table j 1) there c.index-blocks-k.is eo))) in
    record {
      wide = length-set table m _ ∙ c.order.invariant.wide;
      first =
          follows_more (count_by_parts 400002) 1 (map module_of blocks) order table _ c.order.k-index m c.count_of-count.result (count_is_local 400002)
          c.requires c.order-test.true refl (omega (arith, there, c.order.invariant.wide)) v refl c.order.invariant.first;
    }

pub returns-clause-follows : goal.returns-clause-follows
returns-clause-follows c =
    follows_all (count_by_parts 400002) 1 (map module_of c.args.blocks.now) c.args.order.now c.order.table.items c.order.k-index c.requires
    (λ v. count_past 400002 v (omega arith))
    (c.order.invariant.wide ∙ sym (length-map c.args.blocks.now module_of)) c.order-test.false c.order.invariant.first
