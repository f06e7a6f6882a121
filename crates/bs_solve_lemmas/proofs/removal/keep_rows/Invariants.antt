use Rattle.std.specs.Prelude.{is_some}
use Rattle.bs_arena.specs.Arena.{held_at}
use Rattle.bs_solve_lemmas.specs.Notes.{IsThinned}
use Rattle.bs_solve_lemmas.proofs.removal.keep_rows.Given as goal

abbrev pub invariant-rows : goal.invariant-rows
invariant-rows l = IsThinned (λ row. is_some (held_at l.arena.clauses row.clause)) l.initial.rows.items l.rows.items l.place l.kept
