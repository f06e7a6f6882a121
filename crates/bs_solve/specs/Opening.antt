-- A solve for values that are known: nothing is searched.
use Rattle.std.specs.Prelude.{◌≡◌, false}
use Rattle.bs_clause.specs.Literal.{Clause}
use Rattle.bs_solve_lemmas.specs.declared.stage.Stage.TheVariants.{Solved}
use Rattle.bs_solve_lemmas.specs.ProofLog.{standing}
use Rattle.bs_solve_lemmas.specs.Search.{assumed}
use Rattle.bs_solve_lemmas.specs.Stages.{is_begun, begun_proof}
use Rattle.bs_solve_lemmas.specs.Solver.{SolverState}

-- the proof log has the line of a solve, and no lemma behind it
pub record HasOpened (old new : SolverState) (assumptions : Clause) : Type 0 where
  pub was_well : old.failed ≡ false
  pub proof : new.proof ≡ begun_proof (is_begun old.stage) old.proof assumptions
  pub stands : standing new.proof ≡ standing old.proof
  pub assumed_is : assumed new.proof ≡ assumptions
  pub vars : new.vars ≡ old.vars
  pub stage : new.stage ≡ Solved
  pub well : new.failed ≡ false
