use Rattle.std.proofs.Common.{◌≡◌, ◌++◌, map, take}
use Rattle.std.specs.List.{flat_map}
use Rattle.bs_inspect_view.specs.Signals.{signal_in}
use Rattle.bs_inspect_check.specs.Text.{difference_text}
use Rattle.bs_inspect_check.proofs.text.push_ends.Given as goal

abbrev pub invariant-ends : goal.invariant-ends
invariant-ends l = l.text.items ≡ l.initial.text.items ++ flat_map (difference_text (map signal_in l.signals)) (take l.end-index l.ends)
