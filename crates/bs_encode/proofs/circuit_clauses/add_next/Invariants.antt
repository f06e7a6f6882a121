use Rattle.std.proofs.Common.{◌≡◌, ◌+◌, ◌++◌, drop}
use Rattle.bs_encode.specs.Transition.{next_clauses}
use Rattle.bs_encode.proofs.circuit_clauses.add_next.Given as goal

abbrev pub invariant-loop-flop : goal.invariant-loop-flop
invariant-loop-flop l = record {
  count : l.next ≡ l.fn.n + l.flop-index;
  left : l.into ++ next_clauses l.next (drop l.flop-index l.flops) ≡ l.initial.into ++ next_clauses l.fn.n l.flops;
}
