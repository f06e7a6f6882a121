use Rattle.std.proofs.Common.{◌∙◌, ◌+◌, ◌<◌, ap, sym, subst, List, take, length, get_or}
use Rattle.std.specs.List.{flat_map}
use Rattle.bs_flat_nets.specs.Blocks.{joins_of_run}
use Rattle.bs_flat_nets.specs.declared.blocks.JoinedNets.{JoinedNets}
use Rattle.bs_flat_nets.specs.declared.blocks.Child.{Child}
use Rattle.bs_flat_nets.specs.Rows.{Beside, IsChildRow, IsRow}
use Rattle.bs_flat_nets.proofs.RowLemmas.{beside_more}
use Rattle.bs_flat_nets.proofs.rows.rows_of_block.Goals as goal

pub each-preserved : goal.each-preserved
each-preserved c =
    let children = c.args.block.now.children in
    let i = c.each.child-index in
    subst (λ (u : List (List JoinedNets)). Beside IsChildRow (take (i + 1) children) u) (sym c.in_ok-push.ensures.ok)
    (beside_more IsChildRow children c.each.rows i c.child-item.result c.in_ok-row.row c.each.invariant
    (subst (λ (u : List Child). i < length u) c.slice-child-items.ensures c.each-test.true)
    (c.child-item.is ∙ ap (λ (u : List Child). get_or u i c.child-item.result) c.slice-child-items.ensures)
    (subst (λ (u : List JoinedNets). IsRow (flat_map joins_of_run u) c.in_ok-row.row) c.slice.ensures c.in_ok-row.ensures))
