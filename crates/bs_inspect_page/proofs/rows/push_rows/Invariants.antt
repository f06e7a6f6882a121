use Rattle.std.proofs.Common.{◌≡◌, ◌++◌, map, take}
use Rattle.bs_inspect_view.specs.Signals.{signal_in}
use Rattle.bs_inspect_html.specs.Figures.{figure_in}
use Rattle.bs_inspect_page.specs.Rows.{signal_rows}
use Rattle.bs_inspect_page.proofs.rows.push_rows.Given as goal

abbrev pub invariant-signals : goal.invariant-signals
invariant-signals l = l.text.items ≡ l.initial.text.items ++ signal_rows (figure_in l.figure) (map signal_in (take l.signal-index l.signals))
