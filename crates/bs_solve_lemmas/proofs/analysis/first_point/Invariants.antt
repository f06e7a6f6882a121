use Rattle.bs_solve_lemmas.specs.Reasons.{last_start}
use Rattle.bs_solve_lemmas.proofs.Pointing.{PointMarks}
use Rattle.bs_solve_lemmas.proofs.analysis.first_point.Given as goal

abbrev pub invariant-walk : goal.invariant-walk
invariant-walk l =
    PointMarks l.arena.clauses l.watch.trail.places l.fn.conflict (last_start l.watch.levels) l.down l.watch.trail.vars l.marks l.hints.items l.ahead

abbrev pub decreases-walk : goal.decreases-walk
decreases-walk l = l.down
