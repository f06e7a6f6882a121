use Rattle.std.proofs.Common.{◌≡◌, ◌++◌}
use Rattle.bs_gen.specs.Draws.{after}
use Rattle.bs_gen.specs.Each.{each}
use Rattle.bs_gen.specs.Stimulus.{bit_text}
use Rattle.bs_gen.proofs.stimulus.push_bits.Given as goal

abbrev pub invariant-bits : goal.invariant-bits
invariant-bits l = record {
  draws : l.draws ≡ after l.counter l.initial.draws;
  text : l.text.items ≡ l.initial.text.items ++ each (bit_text l.initial.draws) 0 l.counter;
}
