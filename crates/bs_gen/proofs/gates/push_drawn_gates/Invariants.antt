use Rattle.std.proofs.Common.{◌≡◌, ◌++◌, ◌*◌}
use Rattle.bs_gen.specs.Draws.{after}
use Rattle.bs_gen.specs.Each.{each}
use Rattle.bs_gen.specs.Gates.{nth_drawn_line}
use Rattle.bs_gen.proofs.gates.push_drawn_gates.Given as goal

abbrev pub invariant-loop-j : goal.invariant-loop-j
invariant-loop-j l = record {
  draws : l.draws ≡ after (3 * l.j) l.initial.draws;
  text : l.text.items ≡ l.initial.text.items ++ each (nth_drawn_line l.initial.draws) 0 l.j;
}
