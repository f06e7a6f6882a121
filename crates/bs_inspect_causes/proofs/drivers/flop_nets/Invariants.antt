use Rattle.std.proofs.Common.{◌≡◌, map, take}
use Rattle.bs_inspect_causes.proofs.drivers.flop_nets.Given as goal

abbrev pub invariant-flops : goal.invariant-flops
invariant-flops l = l.nets ≡ map (λ f. f.q) (take l.flop-index l.flops)
