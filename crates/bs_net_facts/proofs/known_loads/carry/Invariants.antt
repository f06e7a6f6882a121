use Rattle.bs_net.specs.Netlist.{circuit}
use Rattle.bs_net_facts.specs.Marked.{Carry}
use Rattle.bs_net_facts.proofs.known_loads.carry.Given as goal

abbrev pub invariant-flops : goal.invariant-flops
invariant-flops l = Carry (circuit l.net) l.marks l.kept.items
