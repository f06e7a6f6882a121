use Rattle.std.proofs.Common.{◌≡◌, ◌++◌}
use Rattle.bs_gen.specs.Each.{each}
use Rattle.bs_gen.specs.Gates.{carry_terminal}
use Rattle.bs_gen.proofs.gates.push_carry_terminals.Given as goal

abbrev pub invariant-loop-i : goal.invariant-loop-i
invariant-loop-i l = l.text.items ≡ l.initial.text.items ++ each carry_terminal 0 l.i
