use Rattle.std.proofs.Common.{◌≡◌, ◌++◌, map, take}
use Rattle.std.specs.List.{flat_map}
use Rattle.bs_inspect_view.specs.Signals.{signal_in}
use Rattle.bs_inspect_view.specs.Save.{shown_lines}
use Rattle.bs_inspect_view.proofs.save.push_all_shown.Given as goal

abbrev pub invariant-signals : goal.invariant-signals
invariant-signals l = l.text.items ≡ l.initial.text.items ++ flat_map shown_lines (map signal_in (take l.signal-index l.signals))
