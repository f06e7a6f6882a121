use Rattle.std.proofs.Common.{◌≡◌, ◌++◌, map, take}
use Rattle.bs_inspect_view.specs.Signals.{signal_in}
use Rattle.bs_inspect_why_words.specs.Facts.{signals_words}
use Rattle.bs_inspect_why_words.proofs.words.push_signals.Given as goal

abbrev pub invariant-signals : goal.invariant-signals
invariant-signals l = l.text.items ≡ l.initial.text.items ++ signals_words l.bits (map signal_in (take l.i l.signals))
