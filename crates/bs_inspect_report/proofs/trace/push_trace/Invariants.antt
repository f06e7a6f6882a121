use Rattle.std.proofs.Common.{◌≡◌, ◌++◌, length}
use Rattle.std.specs.List.{flat_map, range_with_len}
use Rattle.bs_inspect_report.specs.Lines.{signals_in}
use Rattle.bs_inspect_report.specs.Trace.{cycle_lines}
use Rattle.bs_inspect_report.specs.Window.{shown_piece}
use Rattle.bs_inspect_report.proofs.trace.push_trace.Given as goal

abbrev pub invariant-cycles : goal.invariant-cycles
invariant-cycles l =
    l.text.items
    ≡ l.initial.text.items ++ flat_map (shown_piece l.window (length l.report.states) (cycle_lines l.report (signals_in l.signals) l.all)) (range_with_len 0 l.i)
