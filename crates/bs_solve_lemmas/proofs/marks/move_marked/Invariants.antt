use Rattle.std.proofs.Common.{take}
use Rattle.bs_solve_lemmas.proofs.Moving.{Moving}
use Rattle.bs_solve_lemmas.proofs.marks.move_marked.Given as goal

abbrev pub invariant-loop-l : goal.invariant-loop-l
invariant-loop-l l = Moving l.initial.flags.items l.flags.items l.initial.lits l.lits (take l.l-index l.touched)
