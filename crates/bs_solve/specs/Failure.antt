-- A step that ends by a lemma which is known.
use Rattle.std.specs.Prelude.{◌≡◌, ℕ, ◌<◌, ◌≤◌, true, List, length}
use Rattle.bs_clause.specs.Literal.{Clause}
use Rattle.bs_log.specs.History.{axioms_from}
use Rattle.bs_log.specs.Refusal.{denies}
use Rattle.bs_solve_lemmas.specs.declared.answer.Answer.TheVariants.{Refuted}
use Rattle.bs_solve_lemmas.specs.Solver.{SolverState, HasSolved}
use Rattle.bs_solve_lemmas.specs.Walk.{IsLoggedLearnt}
use Rattle.bs_solve.specs.declared.failure.FailedAssumption.{FailedAssumption}

-- the lemma denies only assumptions, has fewer than two literals, and is right by clauses of the list
pub record FailsBy (clauses : List Clause) (assumptions : Clause) (d : FailedAssumption) : Type 0 where
  pub learnt : IsLoggedLearnt (axioms_from 1 clauses) d.lits d.hints
  pub ends : denies assumptions d.lits ≡ true
  pub few : length d.lits < 2

-- whatever the limit of lemmas, the solve is refuted by this one
pub record HasDenied (old new : SolverState) (assumptions : Clause) (id : ℕ) : Type 0 where
  pub solved : (limit : ℕ) → 1 ≤ limit → HasSolved old new assumptions limit (Refuted id)
