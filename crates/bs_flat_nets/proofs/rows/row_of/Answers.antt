use Rattle.std.proofs.Common.{◌∙◌, ap, sym, subst, List}
use Rattle.std.specs.List.{flat_map}
use Rattle.bs_flat_nets.specs.Blocks.{joins_of_run}
use Rattle.bs_flat_nets.specs.declared.blocks.JoinedNets.{JoinedNets}
use Rattle.bs_flat_nets.specs.Rows.{are_apart, IsRow}
use Rattle.bs_flat_nets.proofs.RowLemmas.{row_is}
use Rattle.bs_flat_nets.proofs.rows.row_of.Goals as goal

pub returns : goal.returns
returns c =
    subst (λ (u : List JoinedNets). IsRow (flat_map joins_of_run c.args.runs.now) u) (sym c.of.ensures)
    (row_is c.args.runs.now c.in_ok-row.row.items c.in_ok-row.ensures
    (ap (are_apart 0) (sym c.as_slice.ensures.value) ∙ (sym c.are_apart.ensures ∙ c.if-not-are_apart.false)))
