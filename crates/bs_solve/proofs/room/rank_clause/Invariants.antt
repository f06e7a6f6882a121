use Rattle.std.proofs.Common.{◌≡◌}
use Rattle.bs_solve.proofs.room.rank_clause.Given as goal

abbrev pub invariant-literals : goal.invariant-literals
invariant-literals l = l.watch ≡ l.fn.watch
