use Rattle.std.proofs.Common.{◌≡◌, ◌++◌}
use Rattle.bs_gen.specs.Each.{each}
use Rattle.bs_gen.specs.Flops.{register_flops}
use Rattle.bs_gen.proofs.flops.push_registers.Given as goal

abbrev pub invariant-loop-register : goal.invariant-loop-register
invariant-loop-register l = l.text.items ≡ l.initial.text.items ++ each register_flops 0 l.register
