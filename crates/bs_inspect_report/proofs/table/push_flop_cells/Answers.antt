use Rattle.std.proofs.Common.{◌≡◌, ◌++◌, ℕ, List, map, subst}
use Rattle.std.specs.Prelude.{OnOk}
use Rattle.bs_inspect_view.specs.Signals.{signal_in}
use Rattle.bs_inspect_report.specs.Table.{value_cells}
use Rattle.bs_inspect_report.proofs.table.push_flop_cells.Goals as goal

pub returns : goal.returns
returns c =
    subst (λ (t : List ℕ). OnOk c.push_value_cells.result (c.push_value_cells.new.text.items ≡ c.args.text.now.items ++ t))
    (λ i. value_cells (c.free_at.ensures i) (c.member.ensures i) (map signal_in c.args.flops.now)) c.push_value_cells.ensures
