use Rattle.std.proofs.Common.{◌≡◌, ◌++◌, map}
use Rattle.std.specs.List.{flat_map, range_with_len}
use Rattle.bs_inspect_view.specs.Signals.{signal_in}
use Rattle.bs_inspect_view.specs.View.{moment_lines}
use Rattle.bs_inspect_view.proofs.moment.push_moments.Given as goal

abbrev pub invariant-moments : goal.invariant-moments
invariant-moments l =
    l.text.items ≡ l.initial.text.items ++ flat_map (moment_lines (map signal_in l.signals) l.from l.recorded l.moments) (range_with_len 0 l.t)
