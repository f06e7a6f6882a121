use Rattle.bs_sim.specs.Marks.{StayHeld, AreSettled}
use Rattle.bs_sim.proofs.gates.mark_gates.Given as goal

abbrev pub invariant-gates : goal.invariant-gates
invariant-gates l = StayHeld (AreSettled l.gates) l.initial.marks l.marks
