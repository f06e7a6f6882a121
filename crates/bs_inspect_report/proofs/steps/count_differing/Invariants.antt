use Rattle.std.proofs.Common.{◌≡◌, ◌≤◌}
use Rattle.std.specs.List.{count_by, range_with_len}
use Rattle.bs_inspect_report.specs.Steps.{differs_at}
use Rattle.bs_inspect_report.proofs.steps.count_differing.Given as goal

abbrev pub invariant-places : goal.invariant-places
invariant-places l = record {
  is : l.count ≡ count_by (differs_at l.first l.cands) (range_with_len 0 l.place);
  few : l.count ≤ l.place;
}
