use Rattle.bs_solve_lemmas.proofs.Pointing.{FinalMarks}
use Rattle.bs_solve_lemmas.proofs.analysis.to_reasonless.Given as goal

abbrev pub invariant-walk : goal.invariant-walk
invariant-walk l = FinalMarks l.arena.clauses l.watch.levels l.watch.trail.places l.down l.watch.trail.vars l.marks l.hints.items

abbrev pub decreases-walk : goal.decreases-walk
decreases-walk l = l.down
