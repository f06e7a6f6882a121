use Rattle.std.proofs.Common.{◌≡◌, ◌≤◌, ◌+◌, ◌++◌, drop}
use Rattle.std.specs.Prelude.{sum_by}
use Rattle.bs_encode.specs.Transition.{gate_helpers, gates_clauses}
use Rattle.bs_encode.proofs.circuit_clauses.add_gates.Given as goal

abbrev pub invariant-loop-gate : goal.invariant-loop-gate
invariant-loop-gate l = record {
  some : 1 ≤ l.helper;
  left : l.into ++ gates_clauses l.helper (drop l.gate-index l.gates) ≡ l.initial.into ++ gates_clauses l.fn.h l.gates;
  count : l.helper + sum_by gate_helpers (drop l.gate-index l.gates) ≡ l.fn.h + sum_by gate_helpers l.gates;
}
