use Rattle.std.proofs.Common.{◌≡◌, ◌++◌}
use Rattle.bs_gen.specs.Each.{each}
use Rattle.bs_gen.specs.Flops.{counter_flop}
use Rattle.bs_gen.proofs.flops.push_counter_flops.Given as goal

abbrev pub invariant-loop-bit : goal.invariant-loop-bit
invariant-loop-bit l = l.text.items ≡ l.initial.text.items ++ each counter_flop 0 l.bit
