use Rattle.std.proofs.Common.{◌≡◌, map, take}
use Rattle.bs_net.specs.declared.net.Flop.{Flop}
use Rattle.bs_wave.proofs.tracing.outputs.Given as goal

abbrev pub invariant-loop-flop : goal.invariant-loop-flop
invariant-loop-flop l = l.nets ≡ map (λ (f : Flop). f.q) (take l.flop-index l.flops)
