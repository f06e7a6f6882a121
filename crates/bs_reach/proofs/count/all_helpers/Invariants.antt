use Rattle.std.proofs.Common.{◌≡◌, ◌+◌, drop}
use Rattle.std.specs.Prelude.{sum_by}
use Rattle.bs_encode.specs.Transition.{gate_helpers}
use Rattle.bs_reach.proofs.count.all_helpers.Given as goal

abbrev pub invariant-loop-gate : goal.invariant-loop-gate
invariant-loop-gate l = record {
  count : l.sum + sum_by gate_helpers (drop l.gate-index l.gates) ≡ sum_by gate_helpers l.gates;
}
