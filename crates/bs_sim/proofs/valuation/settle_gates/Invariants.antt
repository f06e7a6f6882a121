use Rattle.std.proofs.Common.{◌≡◌, map, drop}
use Rattle.bs_net.specs.Order.{gates_in}
use Rattle.bs_net.specs.Steps.{run, gate_write}
use Rattle.bs_sim.proofs.valuation.settle_gates.Given as goal

abbrev pub invariant-loop-i : goal.invariant-loop-i
invariant-loop-i l =
    run (map gate_write (gates_in (drop l.i-index l.order) l.gates)) l.values
    ≡ run (map gate_write (gates_in l.order l.gates)) l.initial.values
