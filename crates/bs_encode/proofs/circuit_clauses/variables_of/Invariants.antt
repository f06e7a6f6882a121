use Rattle.std.proofs.Common.{◌≡◌, map, take}
use Rattle.std.specs.List.{All}
use Rattle.bs_clause.specs.Literal.{IsVariable}
use Rattle.bs_encode.specs.Transition.{net_var}
use Rattle.bs_encode.proofs.circuit_clauses.variables_of.Given as goal

abbrev pub invariant-loop-net : goal.invariant-loop-net
invariant-loop-net l = record {
  value : l.variables.items ≡ map net_var (take l.net-index l.nets);
  range : All IsVariable l.variables.items;
}
