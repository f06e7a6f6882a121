use Rattle.std.proofs.Common.{◌≡◌, ◌++◌, map, take}
use Rattle.std.specs.Option.{option_map}
use Rattle.bs_inspect_view.specs.Signals.{signal_in}
use Rattle.bs_inspect_report.specs.Signal.{signals_lines}
use Rattle.bs_inspect_report.proofs.signal.push_signals.Given as goal

abbrev pub invariant-signals : goal.invariant-signals
invariant-signals l =
    l.text.items
    ≡ l.initial.text.items
    ++ signals_lines l.kind l.cycle (option_map (λ b. b.now) l.free) (option_map (λ b. b.now) l.before) l.now
    (map signal_in (take l.signal-index l.signals))
