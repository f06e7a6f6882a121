use Rattle.std.proofs.Common.{◌≡◌, ◌++◌, map, take}
use Rattle.std.specs.Option.{option_map}
use Rattle.bs_inspect_view.specs.Signals.{signal_in}
use Rattle.bs_inspect_report.specs.Table.{value_cells}
use Rattle.bs_inspect_report.proofs.table.push_value_cells.Given as goal

abbrev pub invariant-signals : goal.invariant-signals
invariant-signals l =
    l.text.items
    ≡ l.initial.text.items
    ++ value_cells (option_map (λ b. b.now) l.free) (option_map (λ b. b.now) l.bits) (map signal_in (take l.signal-index l.signals))
