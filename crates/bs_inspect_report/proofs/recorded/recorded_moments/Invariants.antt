use Rattle.std.proofs.Common.{◌≡◌, map}
use Rattle.std.specs.List.{range_with_len}
use Rattle.bs_inspect_report.specs.Recorded.{recorded_at}
use Rattle.bs_inspect_report.proofs.recorded.recorded_moments.Given as goal

abbrev pub invariant-states : goal.invariant-states
invariant-states l = l.moments.items ≡ map (recorded_at l.report) (range_with_len 0 l.i)
