use Rattle.std.proofs.Common.{◌≡◌, ◌+◌, ◌-◌, ◌++◌, drop}
use Rattle.bs_clause.specs.Literal.{IsVariable}
use Rattle.bs_encode.specs.Tables.{odd_from, odd_clauses}
use Rattle.bs_encode.proofs.gate_clauses.add_chain.Given as goal

abbrev pub invariant-loop-i : goal.invariant-loop-i
invariant-loop-i l = record {
  sum : IsVariable l.sum;
  left : l.into ++ odd_from l.sense (l.h + (l.i - 1)) l.z l.sum (drop l.i l.ins) ≡ l.initial.into ++ odd_clauses l.sense l.h l.z l.ins;
}
