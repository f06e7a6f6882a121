use Rattle.std.proofs.Common.{◌≡◌}
use Rattle.bs_solve.proofs.room.reserve_all.Given as goal

abbrev pub invariant-codes : goal.invariant-codes
invariant-codes l = l.watch ≡ l.fn.watch
