use Rattle.std.proofs.Common.{◌≡◌, ◌-◌, ◌+◌, ◌*◌, ◌≤◌, length}
use Rattle.bs_solve_lemmas.specs.Marks.{IsClear}
use Rattle.bs_solve.specs.Searching.{IsSomeRound}
use Rattle.bs_solve.proofs.cdcl.decide_and_learn.Given as goal

abbrev pub invariant-rounds : goal.invariant-rounds
invariant-rounds l = record {
  round : IsSomeRound l.initial.proof l.vars l.conflicts l.limit l.proof l.watch l.arena.clauses l.database l.outcome;
  vars : l.watch.trail.vars ≡ l.vars;
  clear : IsClear (l.vars + 1) l.marks;
  room : length l.watch.trail.places ≤ l.vars;
}

abbrev pub decreases-rounds : goal.decreases-rounds
decreases-rounds l = (l.limit - l.conflicts) * (l.vars + 1) + (l.vars - length l.watch.trail.places)
