use Rattle.std.proofs.Common.{◌≡◌, length}
use Rattle.bs_wave.proofs.moments.zeros.Given as goal

abbrev pub invariant-places : goal.invariant-places
invariant-places l = length l.bits ≡ l.place
