use Rattle.std.proofs.Common.{◌≡◌}
use Rattle.bs_solve.proofs.activity.reward.Given as goal

abbrev pub invariant-hints : goal.invariant-hints
invariant-hints l = l.watch ≡ l.initial.watch
