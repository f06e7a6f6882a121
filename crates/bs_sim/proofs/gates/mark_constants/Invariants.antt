use Rattle.bs_sim.specs.Marks.{StayHeld, AreShown}
use Rattle.bs_sim.proofs.gates.mark_constants.Given as goal

abbrev pub invariant-constants : goal.invariant-constants
invariant-constants l = StayHeld (AreShown l.consts) l.initial.marks l.marks
