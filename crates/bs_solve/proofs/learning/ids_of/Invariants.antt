use Rattle.std.proofs.Common.{◌≡◌, ◌≤◌, length, map, drop, reverse}
use Rattle.bs_solve.specs.Database.{id_in}
use Rattle.bs_solve.proofs.learning.ids_of.Given as goal

abbrev pub invariant-loop-left : goal.invariant-loop-left
invariant-loop-left l = record {
  low : l.left ≤ length l.refs;
  ids : l.ids ≡ map (id_in l.arena.clauses) (reverse (drop l.left l.refs));
}

abbrev pub decreases-loop-left : goal.decreases-loop-left
decreases-loop-left l = l.left
