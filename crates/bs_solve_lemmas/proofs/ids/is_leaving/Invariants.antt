use Rattle.std.proofs.Common.{◌<◌, ◌≤◌, ◌-◌, length, take}
use Rattle.std.specs.Prelude.{All}
use Rattle.bs_solve_lemmas.proofs.ids.is_leaving.Given as goal

abbrev pub invariant-loop-next : goal.invariant-loop-next
invariant-loop-next l = record {
  low : l.next ≤ length l.gone;
  less : All (λ d. d < l.id) (take l.next l.gone);
}

abbrev pub decreases-loop-next : goal.decreases-loop-next
decreases-loop-next l = length l.gone - l.next
