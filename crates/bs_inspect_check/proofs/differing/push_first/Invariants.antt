use Rattle.std.proofs.Common.{◌≡◌, ◌≤◌, ◌++◌, length, map, take, filter}
use Rattle.std.specs.List.{flat_map}
use Rattle.bs_inspect_view.specs.Signals.{signal_in}
use Rattle.bs_inspect_check.specs.declared.lines.TheConstants.{MAX_LINES}
use Rattle.bs_inspect_check.specs.Text.{difference_line, signal_differs}
use Rattle.bs_inspect_check.proofs.differing.push_first.Given as goal

abbrev pub invariant-signals : goal.invariant-signals
invariant-signals l = record {
  count : l.told ≡ length (filter (signal_differs l.end) (map signal_in (take l.i l.signals)));
  few : l.told ≤ l.i;
  text : l.text.items ≡ l.initial.text.items ++
      flat_map (difference_line l.end) (take MAX_LINES (filter (signal_differs l.end) (map signal_in (take l.i l.signals))));
}
