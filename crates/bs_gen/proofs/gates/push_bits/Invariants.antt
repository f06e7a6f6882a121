use Rattle.std.proofs.Common.{◌≡◌, ◌++◌, ◌-◌}
use Rattle.bs_gen.specs.Each.{each}
use Rattle.bs_gen.specs.Gates.{bit_lines}
use Rattle.bs_gen.proofs.gates.push_bits.Given as goal

abbrev pub invariant-loop-bit : goal.invariant-loop-bit
invariant-loop-bit l = l.text.items ≡ l.initial.text.items ++ each bit_lines 2 (l.bit - 2)
