use Rattle.std.proofs.Common.{◌≡◌, ◌++◌, map}
use Rattle.std.specs.List.{flat_map, range_with_len}
use Rattle.bs_net_names.specs.Keys.{parts_in}
use Rattle.bs_inspect_view.specs.Signals.{signal_in}
use Rattle.bs_inspect_report_texts.specs.Text.{cycle_at}
use Rattle.bs_inspect_report_texts.proofs.cycle.push_cycles.Given as goal

abbrev pub invariant-cycles : goal.invariant-cycles
invariant-cycles l = l.text.items ≡ l.initial.text.items ++ flat_map (cycle_at (parts_in l.clock) (map signal_in l.signals) l.inputs) (range_with_len 0 l.i)
