use Rattle.std.proofs.Common.{◌≡◌, ◌++◌, length}
use Rattle.std.specs.List.{flat_map, range_with_len}
use Rattle.bs_inspect_report.specs.Table.{state_row}
use Rattle.bs_inspect_report.specs.Lines.{signals_in}
use Rattle.bs_inspect_report.specs.Window.{shown_piece}
use Rattle.bs_inspect_report.proofs.table.push_state_rows.Given as goal

abbrev pub invariant-states : goal.invariant-states
invariant-states l =
    l.text.items
    ≡ l.initial.text.items ++ flat_map (shown_piece l.window (length l.report.states) (state_row l.report (signals_in l.signals))) (range_with_len 0 l.i)
