use Rattle.std.proofs.Common.{arith, sym, subst, List}
use Rattle.bs_flat_nets.specs.Climbing.{node_at, joins_of_node}
use Rattle.bs_flat_nets.specs.declared.blocks.JoinedNets.{JoinedNets}
use Rattle.bs_flat_nets.specs.Rows.{AreBlockRows, IsRow}
use Rattle.bs_flat_nets.proofs.LeftLemmas.{parent_there}
use Rattle.bs_flat_nets.proofs.RowLemmas.{beside_length, rows_in, rows_wide, row_in}
use Rattle.bs_flat_nets.proofs.rows.row_of_node.Goals as goal

pub bounds-rows-parent : goal.bounds-rows-parent
bounds-rows-parent c =
    let there = parent_there c.args.blocks.now c.args.nodes.now c.args.at c.requires.climb c.requires.below c.requires.there in
    let wide = beside_length AreBlockRows c.args.blocks.now c.args.rows.now c.requires.rows in
    omega (arith, there, wide)

pub get-requires : goal.get-requires
get-requires c =
    let blocks = c.args.blocks.now in
    let nodes = c.args.nodes.now in
    let at = c.args.at in
    let m = (node_at nodes (node_at nodes at).parent).of in
    let there = parent_there blocks nodes at c.requires.climb c.requires.below c.requires.there in
    let rows = rows_in blocks m c.args.rows.now c.index-rows-parent.result c.requires.rows there c.index-rows-parent.is in
    let wide = rows_wide blocks m c.index-rows-parent.result rows in
    let child = c.requires.climb.child at c.requires.below c.requires.there in
    omega (arith, wide, child)

pub returns : goal.returns
returns c =
    let blocks = c.args.blocks.now in
    let nodes = c.args.nodes.now in
    let at = c.args.at in
    let m = (node_at nodes (node_at nodes at).parent).of in
    let there = parent_there blocks nodes at c.requires.climb c.requires.below c.requires.there in
    let rows = rows_in blocks m c.args.rows.now c.index-rows-parent.result c.requires.rows there c.index-rows-parent.is in
    subst (λ (u : List JoinedNets). IsRow (joins_of_node blocks nodes at) u) (sym c.slice.ensures)
    (row_in blocks m (node_at nodes at).instance c.index-rows-parent.result c.get.result.now rows
    (c.requires.climb.child at c.requires.below c.requires.there) c.get.ensures.value)
