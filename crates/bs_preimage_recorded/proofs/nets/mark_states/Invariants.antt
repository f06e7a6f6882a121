use Rattle.bs_sim.specs.Marks.{StayHeld}
use Rattle.bs_preimage_recorded.specs.Marked.{ShowSame}
use Rattle.bs_preimage_recorded.proofs.nets.mark_states.Given as goal

abbrev pub invariant-flops : goal.invariant-flops
invariant-flops l = StayHeld (ShowSame l.flops) l.initial.marks l.marks
