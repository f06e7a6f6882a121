use Rattle.std.proofs.Common.{◌≡◌, ◌++◌}
use Rattle.bs_gen.specs.Each.{each}
use Rattle.bs_gen.specs.Flops.{stage_flop}
use Rattle.bs_gen.proofs.flops.push_register.Given as goal

abbrev pub invariant-loop-i : goal.invariant-loop-i
invariant-loop-i l = l.text.items ≡ l.initial.text.items ++ each (stage_flop l.register) 0 l.i
