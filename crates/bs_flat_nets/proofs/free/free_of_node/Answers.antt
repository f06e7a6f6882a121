use Rattle.std.proofs.Common.{◌∙◌, arith}
use Rattle.bs_flat_nets.specs.Climbing.{node_at}
use Rattle.bs_flat_nets.proofs.LeftLemmas.{row_is, row_wide, child_is, parent_there}
use Rattle.bs_flat_nets.proofs.free.free_of_node.Goals as goal

pub get-requires : goal.get-requires
get-requires c =
    let blocks = c.args.blocks.now in
    let nodes = c.args.nodes.now in
    let at = c.args.at in
    let m = (node_at nodes (node_at nodes at).parent).of in
    let there = parent_there blocks nodes at c.requires.climb c.requires.below c.requires.there in
    let row = row_is blocks m c.args.free.now c.index-free-parent.result c.requires.free there c.index-free-parent.is in
    let wide = row_wide blocks m c.index-free-parent.result row in
    let child = c.requires.climb.child at c.requires.below c.requires.there in
    omega (arith, wide, child)

pub returns : goal.returns
returns c =
    let blocks = c.args.blocks.now in
    let nodes = c.args.nodes.now in
    let at = c.args.at in
    let m = (node_at nodes (node_at nodes at).parent).of in
    let there = parent_there blocks nodes at c.requires.climb c.requires.below c.requires.there in
    let row = row_is blocks m c.args.free.now c.index-free-parent.result c.requires.free there c.index-free-parent.is in
    c.slice.ensures
    ∙ child_is blocks m (node_at nodes at).instance c.index-free-parent.result c.get.result.now row
    (c.requires.climb.child at c.requires.below c.requires.there) c.get.ensures.value
