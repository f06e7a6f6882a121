use Rattle.std.proofs.Common.{◌≡◌, drop}
use Rattle.bs_net.specs.Steps.{run, puts}
use Rattle.bs_sim.proofs.valuation.show_nets.Given as goal

abbrev pub invariant-loop-i : goal.invariant-loop-i
invariant-loop-i l = run (puts (drop l.i l.nets) (drop l.i l.bits)) l.values ≡ run (puts l.nets l.bits) l.initial.values
