use Rattle.std.proofs.Common.{◌≤◌, length}
use Rattle.bs_solve_lemmas.proofs.ids.place_of_least.Given as goal

abbrev pub invariant-loop-from : goal.invariant-loop-from
invariant-loop-from l = l.from ≤ length l.ids

abbrev pub decreases-loop-from : goal.decreases-loop-from
decreases-loop-from l = l.from
