use Rattle.std.proofs.Common.{map}
use Rattle.bs_inspect_view.specs.Signals.{signal_in}
use Rattle.bs_inspect_html.specs.Figures.{figure_in}
use Rattle.bs_inspect_page.proofs.RowLemmas.{group_put}
use Rattle.bs_inspect_page.proofs.rows.push_group.Goals as goal

pub returns : goal.returns
returns c =
    group_put c.args.heading.now (figure_in c.args.figure) (map signal_in c.args.signals.now) c.args.text.now.items c.push_piece.new.text.items
    c.push_piece-2.new.text.items c.push_piece-3.new.text.items c.push_rows.new.text.items c.push_piece-4.new.text.items
    c.in_ok-push_piece.ensures.ok c.in_ok-push_piece-2.ensures.ok c.in_ok-push_piece-3.ensures.ok c.in_ok-push_rows.ensures
    c.in_ok-push_piece-4.ensures.ok
