use Rattle.std.proofs.Common.{◌≡◌, ℕ, ◌<◌, min, length, get_or, map, List, arith, ap, sym, ◌∙◌, subst, refl, length-set}
use Rattle.bs_flat_meaning.specs.Counts.{tallest}
use Rattle.bs_flat_nets.specs.Blocks.{module_of}
use Rattle.bs_flat_nets.specs.Order.{module_in}
use Rattle.bs_flat_nets.specs.Tables.{depth_by, depth_at}
use Rattle.bs_flat_nets.specs.declared.blocks.Child.{Child}
use Rattle.bs_flat_nets.specs.declared.blocks.FlatModule.{FlatModule}
use Rattle.bs_flat_nets.proofs.BoundLemmas.{depth_is_local, depth_past}
use Rattle.bs_flat_nets.proofs.OrderLemmas.{follows_none, follows_more, follows_all, in_order, children_within, depth_rule}
use Rattle.std.proofs.lemmas.List.{length-map, length-replicate}
use Rattle.bs_flat_nets.proofs.counts.depths.Goals as goal

pub depth_of-depth-requires : goal.depth_of-depth-requires
depth_of-depth-requires c =
    λ k d lt.
    let m = get_or c.args.order.now c.order.k-index 0 in
    let there : m < length c.args.blocks.now = in_order c.args.blocks.now c.args.order.now c.order.k-index c.requires c.order-test.true in
    let inside = children_within c.args.blocks.now c.args.order.now m c.index-blocks-k.result c.requires there c.index-blocks-k.is in
    let cs : c.slice.result.now ≡ c.index-blocks-k.result.children =
    cc (c.slice.ensures, ap (λ (b : FlatModule). b.children) c.index-blocks-k.is) in
    let wide : length c.as_slice.result.now ≡ length c.args.blocks.now = ap length c.as_slice.ensures.value ∙ c.order.invariant.wide in
    let lt2 = subst (λ (cs : List Child). k < length cs) cs lt in
    subst (λ n. (get_or c.slice.result.now k d).of < n) (sym wide)
    (subst (λ (cs : List Child). (get_or cs k d).of < length c.args.blocks.now) (sym cs) (inside k d lt2))

pub order-init : goal.order-init
order-init c =
    record {
      wide = ap length c.in_ok-table.ensures ∙ length-replicate _ _;
      first = follows_none (depth_by 257) 0 (map module_of c.args.blocks.now) c.args.order.now c.in_ok-table.table.items;
    }

pub order-preserved : goal.order-preserved
order-preserved c =
    let blocks = c.args.blocks.now in
    let order = c.args.order.now in
    let table = c.order.table.items in
    let m = get_or order c.order.k-index 0 in
    let there : m < length blocks = in_order blocks order c.order.k-index c.requires c.order-test.true in
    let cs_are : c.slice.result.now ≡ c.index-blocks-k.result.children =
    cc (c.slice.ensures, ap (λ (b : FlatModule). b.children) c.index-blocks-k.is) in
    let v : c.depth_of-depth.result ≡ depth_by 257 (λ j. get_or table j 0) (module_in (map module_of blocks) m) =
    c.depth_of-depth.ensures
    ∙ (ap (λ (t : List ℕ). min 257 (tallest (λ (y : Child). depth_at t y.of) c.slice.result.now)) c.as_slice.ensures.value
    ∙ (ap (λ (cs : List Child). min 257 (tallest (λ (y : Child). depth_at table y.of) cs)) cs_are
    ∙ sym (depth_rule blocks m 257 c.index-blocks-k.result (λ j. get_or table j 0) there c.index-blocks-k.is))) in
    record {
      wide = length-set table m _ ∙ c.order.invariant.wide;
      first =
          follows_more (depth_by 257) 0 (map module_of blocks) order table _ c.order.k-index m c.depth_of-depth.result (depth_is_local 257) c.requires
          c.order-test.true refl (omega (arith, there, c.order.invariant.wide)) v refl c.order.invariant.first;
    }

pub returns-clause-follows : goal.returns-clause-follows
returns-clause-follows c =
    follows_all (depth_by 257) 0 (map module_of c.args.blocks.now) c.args.order.now c.order.table.items c.order.k-index c.requires (depth_past 257)
    (c.order.invariant.wide ∙ sym (length-map c.args.blocks.now module_of)) c.order-test.false c.order.invariant.first
