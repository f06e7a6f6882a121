use Rattle.std.specs.Prelude.{is_some}
use Rattle.bs_arena.specs.Arena.{held_at}
use Rattle.bs_solve_lemmas.specs.Notes.{IsThinned}
use Rattle.bs_solve_lemmas.proofs.removal.keep_refs.Given as goal

abbrev pub invariant-refs : goal.invariant-refs
invariant-refs l = IsThinned (λ r. is_some (held_at l.arena.clauses r)) l.initial.refs.items l.refs.items l.place l.kept
