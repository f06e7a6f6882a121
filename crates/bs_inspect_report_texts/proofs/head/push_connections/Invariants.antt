use Rattle.std.proofs.Common.{◌≡◌, ◌++◌, map, take}
use Rattle.std.specs.List.{flat_map}
use Rattle.bs_inspect_view.specs.Signals.{signal_in}
use Rattle.bs_inspect_report_texts.specs.Text.{further_connection}
use Rattle.bs_inspect_report_texts.proofs.head.push_connections.Given as goal

abbrev pub invariant-signals : goal.invariant-signals
invariant-signals l = l.text.items ≡ l.initial.text.items ++ flat_map further_connection (map signal_in (take l.signal-index l.signals))
