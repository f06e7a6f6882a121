use Rattle.std.proofs.Common.{◌≡◌, ◌++◌, map, take}
use Rattle.bs_inspect_view.specs.Signals.{signal_in}
use Rattle.bs_inspect_report.specs.Table.{name_cells}
use Rattle.bs_inspect_report.proofs.table.push_name_cells.Given as goal

abbrev pub invariant-signals : goal.invariant-signals
invariant-signals l = l.text.items ≡ l.initial.text.items ++ name_cells (map signal_in (take l.signal-index l.signals))
