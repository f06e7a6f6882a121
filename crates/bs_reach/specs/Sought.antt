-- What a search over the clauses of an encoding answers.
use Rattle.std.specs.Prelude.{◌≡◌, ℕ, Bool, false, List, All}
use Rattle.bs_scan.specs.declared.seen.Seen.{Seen}
use Rattle.bs_clause.specs.Literal.{Clause}
use Rattle.bs_log.specs.Refusal.{history_of, IsAccepted}
use Rattle.bs_log.specs.Lean.{IsLean}
use Rattle.bs_log.specs.LineForms.{HasText}
use Rattle.bs_solve_lemmas.specs.declared.stage.Stage.TheVariants.{Idle}
use Rattle.bs_solve_lemmas.specs.Solver.{SolverState}
use Rattle.bs_encode.specs.Encoded.{Encoded}
use Rattle.bs_reach_unrolled.specs.Unrolled.{unrolled}
use Rattle.bs_reach.specs.declared.reach.Reach.{Reach}
use Rattle.bs_reach.specs.declared.search.End.{End}
use Rattle.bs_reach.specs.declared.telling.Verdict.{Verdict}
use Rattle.bs_reach.specs.Search.{fresh_over}
use Rattle.bs_reach.specs.Ends.{EndsAs}
use Rattle.bs_reach.specs.Verdict.{Tells}

-- it is told how the search by a solver ended
pub record TellsEnd (clauses : List Clause) (e : Encoded) (k : ℕ) (p : Seen) (b : ℕ) (s : SolverState) (t : Verdict) : Type 0 where
  pub end : End
  pub ended : EndsAs clauses e k p b s end
  pub tells : Tells e end t

-- the answer tells the end of a search by a solver that was made for it, and its log is the solver's
pub record HasSought (e : Encoded) (reset : List Bool) (p : Seen) (k b : ℕ) (r : Reach) : Type 0 where
  pub start : SolverState
  pub solver : SolverState
  pub end : End
  pub told : Verdict
  pub is : r ≡ record { asked = k; conflicts = b; outcome = told.outcome; states = told.states; inputs = told.inputs; log = r.log }
  pub fresh : start ≡ fresh_over (unrolled e reset k) e k
  pub ended : EndsAs start.proof.problem.clauses e k p b solver end
  pub tells : Tells e end told
  pub lines : history_of r.log ≡ solver.proof.history
  pub lean : solver.failed ≡ false → IsLean solver.proof.problem (history_of r.log)
  pub texts : All HasText r.log
  pub accepted : solver.failed ≡ false → solver.stage ≡ Idle → IsAccepted solver.proof.problem r.log
