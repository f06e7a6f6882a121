use Rattle.std.proofs.Common.{◌≡◌}
use Rattle.bs_solve.proofs.room.rank_all.Given as goal

abbrev pub invariant-clauses : goal.invariant-clauses
invariant-clauses l = l.watch ≡ l.fn.watch
