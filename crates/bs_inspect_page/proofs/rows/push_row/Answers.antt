use Rattle.bs_inspect_view.specs.Signals.{signal_in}
use Rattle.bs_inspect_html.specs.Figures.{figure_in}
use Rattle.bs_inspect_page.proofs.RowLemmas.{row_put}
use Rattle.bs_inspect_page.proofs.rows.push_row.Goals as goal

pub returns : goal.returns
returns c =
    row_put (figure_in c.args.figure) (signal_in c.args.signal.now) c.slice.result.now c.args.text.now.items c.push_name_cell.new.text.items
    c.push_cells.new.text.items c.push_piece.new.text.items c.slice.ensures c.in_ok-push_name_cell.ensures c.in_ok-push_cells.ensures
    c.in_ok-push_piece.ensures.ok
