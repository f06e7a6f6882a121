use Rattle.bs_net.specs.Netlist.{parts_of}
use Rattle.bs_net_names.specs.Nearest.{AreNearestBelow}
use Rattle.bs_net_names.proofs.nearest.flops_like.Given as goal

abbrev pub invariant-flops : goal.invariant-flops
invariant-flops l = AreNearestBelow (parts_of l.raw) l.name l.flop l.nearest.items
