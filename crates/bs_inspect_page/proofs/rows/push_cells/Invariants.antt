use Rattle.std.proofs.Common.{◌≡◌, ◌++◌}
use Rattle.std.specs.List.{flat_map, range_with_len}
use Rattle.bs_inspect_html.specs.Figures.{figure_in}
use Rattle.bs_inspect_page.specs.Rows.{cell_at}
use Rattle.bs_inspect_page.proofs.rows.push_cells.Given as goal

abbrev pub invariant-moments : goal.invariant-moments
invariant-moments l = l.text.items ≡ l.initial.text.items ++ flat_map (cell_at (figure_in l.figure) l.places) (range_with_len 0 l.i)
