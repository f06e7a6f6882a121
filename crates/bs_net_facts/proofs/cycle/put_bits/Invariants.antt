use Rattle.bs_net_facts.specs.Marked.{Stays, ShowBits}
use Rattle.bs_net_facts.proofs.cycle.put_bits.Given as goal

abbrev pub invariant-bits : goal.invariant-bits
invariant-bits l = Stays (ShowBits l.bits) l.initial.board l.board
