use Rattle.std.proofs.Common.{◌+◌, sym, subst, List, take}
use Rattle.bs_flat_nets.specs.declared.blocks.JoinedNets.{JoinedNets}
use Rattle.bs_flat_nets.specs.Rows.{Beside, AreBlockRows}
use Rattle.bs_flat_nets.proofs.RowLemmas.{beside_more}
use Rattle.bs_flat_nets.proofs.rows.rows_of_all.Goals as goal

pub each-preserved : goal.each-preserved
each-preserved c =
    let blocks = c.args.blocks.now in
    let i = c.each.block-index in
    subst (λ (u : List (List (List JoinedNets))). Beside AreBlockRows (take (i + 1) blocks) u) (sym c.in_ok-push.ensures.ok)
    (beside_more AreBlockRows blocks c.each.rows i c.block-item.result c.in_ok-row.row c.each.invariant c.each-test.true c.block-item.is
    c.in_ok-row.ensures)
