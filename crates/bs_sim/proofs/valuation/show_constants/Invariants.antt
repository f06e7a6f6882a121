use Rattle.std.proofs.Common.{◌≡◌, map, drop}
use Rattle.bs_net.specs.Steps.{run, constant_step}
use Rattle.bs_sim.proofs.valuation.show_constants.Given as goal

abbrev pub invariant-loop-k : goal.invariant-loop-k
invariant-loop-k l = run (map constant_step (drop l.k-index l.consts)) l.values ≡ run (map constant_step l.consts) l.initial.values
