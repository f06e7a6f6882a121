use Rattle.std.proofs.Common.{◌≡◌, ◌++◌, map}
use Rattle.std.specs.List.{flat_map, range_with_len}
use Rattle.bs_inspect_view.specs.Signals.{signal_in}
use Rattle.bs_inspect_check.specs.Text.{run_at}
use Rattle.bs_inspect_check.proofs.text.push_runs.Given as goal

abbrev pub invariant-runs : goal.invariant-runs
invariant-runs l = l.text.items ≡ l.initial.text.items ++ flat_map (run_at (map signal_in l.flops) (map signal_in l.inputs) l.comparisons) (range_with_len 0 l.i)
