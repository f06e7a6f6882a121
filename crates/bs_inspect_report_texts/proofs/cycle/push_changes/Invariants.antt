use Rattle.std.proofs.Common.{◌≡◌, ◌++◌, map, take}
use Rattle.std.specs.List.{flat_map}
use Rattle.std.specs.Option.{option_map}
use Rattle.bs_inspect_view.specs.Signals.{signal_in}
use Rattle.bs_inspect_report_texts.specs.Text.{change}
use Rattle.bs_inspect_report_texts.proofs.cycle.push_changes.Given as goal

abbrev pub invariant-signals : goal.invariant-signals
invariant-signals l =
    l.text.items
    ≡ l.initial.text.items ++ flat_map (change (option_map (λ b. b.now) l.before) l.now) (map signal_in (take l.signal-index l.signals))
