use Rattle.bs_sim.specs.Marks.{StayHeld}
use Rattle.bs_net_facts.specs.Seen.{ShowState}
use Rattle.bs_net_facts.proofs.moments.mark_state.Given as goal

abbrev pub invariant-flops : goal.invariant-flops
invariant-flops l = StayHeld (ShowState l.flops l.state) l.initial.marks l.marks
