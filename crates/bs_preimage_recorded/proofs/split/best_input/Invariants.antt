use Rattle.std.proofs.Common.{◌<◌}
use Rattle.bs_preimage_recorded.proofs.split.best_input.Given as goal

abbrev pub invariant-inputs : goal.invariant-inputs
invariant-inputs l = l.best < l.tried
