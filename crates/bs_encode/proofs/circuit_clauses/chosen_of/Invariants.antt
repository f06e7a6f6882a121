use Rattle.std.proofs.Common.{◌≡◌, take}
use Rattle.std.specs.List.{All}
use Rattle.bs_clause.specs.Literal.{IsVariable}
use Rattle.bs_encode.specs.Transition.{chosen}
use Rattle.bs_encode.proofs.circuit_clauses.chosen_of.Given as goal

abbrev pub invariant-loop-i : goal.invariant-loop-i
invariant-loop-i l = record {
  value : l.members.items ≡ chosen l.from (take l.i-index l.places);
  range : All IsVariable l.members.items;
}
