use Rattle.std.proofs.Common.{◌≡◌, map}
use Rattle.std.specs.List.{range_with_len}
use Rattle.bs_inspect_report.specs.Steps.{differs_at}
use Rattle.bs_inspect_report.proofs.steps.differing_from.Given as goal

abbrev pub invariant-places : goal.invariant-places
invariant-places l = l.bits ≡ map (differs_at l.first l.cands) (range_with_len 0 l.place)
