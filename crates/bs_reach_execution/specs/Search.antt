-- A solver that was just made.
use Rattle.std.specs.Prelude.{◌≡◌, ◌<◌, ◌^◌, ◌+◌, ℕ, [], false}
use Rattle.bs_solve_lemmas.specs.declared.stage.Stage.TheVariants.{Idle}
use Rattle.bs_solve_lemmas.specs.Solver.{SolverState}

-- it is over so many variables, and has no line yet
pub record IsFresh (s : SolverState) (vars : ℕ) : Type 0 where
  pub vars_are : s.vars ≡ vars
  pub own : s.proof.problem.vars ≡ vars
  pub lines : s.proof.history ≡ []
  pub idle : s.stage ≡ Idle
  pub well : s.failed ≡ false
  pub room : vars + 1 < 2 ^ 30
