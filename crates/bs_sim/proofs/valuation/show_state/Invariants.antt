use Rattle.std.proofs.Common.{◌≡◌, map, drop}
use Rattle.bs_net.specs.Steps.{run, puts}
use Rattle.bs_net.specs.declared.net.Flop.{Flop}
use Rattle.bs_sim.proofs.valuation.show_state.Given as goal

abbrev pub invariant-loop-i : goal.invariant-loop-i
invariant-loop-i l =
    run (puts (map (λ (f : Flop). f.q) (drop l.i l.flops)) (drop l.i l.state)) l.values
    ≡ run (puts (map (λ (f : Flop). f.q) l.flops) l.state) l.initial.values
