use Rattle.std.proofs.Common.{◌≡◌}
use Rattle.bs_solve.proofs.activity.bump_codes.Given as goal

abbrev pub invariant-places : goal.invariant-places
invariant-places l = l.watch ≡ l.initial.watch
