use Rattle.std.proofs.Common.{◌≡◌, ◌++◌, ◌*◌}
use Rattle.bs_gen.specs.Draws.{after}
use Rattle.bs_gen.specs.Each.{each}
use Rattle.bs_gen.specs.Stimulus.{nth_input_line}
use Rattle.bs_gen.proofs.stimulus.push_inputs.Given as goal

abbrev pub invariant-cycles : goal.invariant-cycles
invariant-cycles l = record {
  draws : l.draws ≡ after (5 * l.counter) l.initial.draws;
  text : l.text.items ≡ l.initial.text.items ++ each (nth_input_line l.initial.draws) 0 l.counter;
}
