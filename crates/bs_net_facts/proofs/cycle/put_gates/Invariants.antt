use Rattle.bs_net.specs.Netlist.{circuit}
use Rattle.bs_net_facts.specs.Marked.{Stays, AllSettled}
use Rattle.bs_net_facts.proofs.cycle.put_gates.Given as goal

abbrev pub invariant-gates : goal.invariant-gates
invariant-gates l = Stays (AllSettled (circuit l.initial.board.net)) l.initial.board l.board
