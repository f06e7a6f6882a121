use Rattle.std.proofs.Common.{◌≡◌, ◌++◌, ◌*◌}
use Rattle.bs_gen.specs.Draws.{after}
use Rattle.bs_gen.specs.Each.{each}
use Rattle.bs_gen.specs.Stimulus.{nth_run_text}
use Rattle.bs_gen.proofs.stimulus.push_runs.Given as goal

abbrev pub invariant-loop-i : goal.invariant-loop-i
invariant-loop-i l = record {
  draws : l.draws ≡ after (1280 * l.i) l.initial.draws;
  text : l.text.items ≡ l.initial.text.items ++ each (nth_run_text l.initial.draws) 0 l.i;
}
