use Rattle.bs_net_facts.specs.Marked.{Stays, ShowKept}
use Rattle.bs_net_facts.proofs.cycle.put_kept.Given as goal

abbrev pub invariant-kept : goal.invariant-kept
invariant-kept l = Stays (ShowKept l.kept) l.initial.board l.board
