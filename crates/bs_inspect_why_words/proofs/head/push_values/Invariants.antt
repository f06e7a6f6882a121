use Rattle.std.proofs.Common.{◌≡◌, ◌++◌, map, take}
use Rattle.std.specs.List.{flat_map}
use Rattle.bs_inspect_view.specs.Signals.{signal_in}
use Rattle.bs_inspect_why_words.specs.Heads.{value_behind}
use Rattle.bs_inspect_why_words.proofs.head.push_values.Given as goal

abbrev pub invariant-signals : goal.invariant-signals
invariant-signals l = l.text.items ≡ l.initial.text.items ++ flat_map (value_behind l.bits) (map signal_in (take l.signal-index l.signals))
