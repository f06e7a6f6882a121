use Rattle.bs_chip.proofs.ReplayLemmas.{Unloads}
use Rattle.bs_chip.proofs.moments.unload.Given as goal

abbrev pub invariant-shifts : goal.invariant-shifts
invariant-shifts l = Unloads l.fn.state l.bits l.chain l.counter
