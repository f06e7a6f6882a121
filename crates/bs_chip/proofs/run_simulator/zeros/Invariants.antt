use Rattle.std.proofs.Common.{◌≡◌, length}
use Rattle.bs_chip.proofs.run_simulator.zeros.Given as goal

abbrev pub invariant-zeros : goal.invariant-zeros
invariant-zeros l = length l.bits ≡ l.counter
