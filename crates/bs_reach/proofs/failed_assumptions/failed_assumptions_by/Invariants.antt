use Rattle.std.proofs.Common.{◌≡◌, ◌+◌, length}
use Rattle.bs_reach_unrolled.specs.Unrolled.{unrolled}
use Rattle.bs_reach.specs.FailedAssumptions.{AreFailedAssumptions}
use Rattle.bs_reach.proofs.failed_assumptions.failed_assumptions_by.Given as goal

abbrev pub invariant-lengths : goal.invariant-lengths
invariant-lengths l = record {
  failed_assumptions : AreFailedAssumptions (unrolled l.encoding l.reset l.k) l.encoding l.k l.state 0 l.found.items;
  count : 0 + length l.found.items ≡ l.c;
}
