use Rattle.std.proofs.Common.{◌≡◌, map, take}
use Rattle.bs_sim.specs.Marks.{flop_mark, is_known}
use Rattle.bs_preimage_recorded.proofs.flops.known_flops.Given as goal

abbrev pub invariant-flops : goal.invariant-flops
invariant-flops l = l.flags ≡ map (λ f. is_known (flop_mark l.marks f)) (take l.flop-index l.flops)
