-- A solver between two calls.
use Rattle.std.specs.Prelude.{◌≡◌, ◌⊎◌, ℕ, ◌+◌, ◌<◌, ◌^◌, Bool, true, false, List, [], ◌∷◌, ◌++◌, map, Option, Some, None, All}
use Rattle.bs_clause.specs.Literal.{Clause, negation}
use Rattle.bs_clause.specs.Range.{HasVariables}
use Rattle.bs_log.specs.declared.line.Line.{Line}
use Rattle.bs_log.specs.declared.line.Line.TheVariants.{Block, Finish, Retire}
use Rattle.bs_log.specs.History.{step_of, activation_of, live}
use Rattle.bs_log.specs.Refusal.{has_distinct_variables}
use Rattle.bs_log.specs.Lean.{StepsLeaveKept}
use Rattle.bs_solve_lemmas.specs.Rows.{going}
use Rattle.bs_solve_lemmas.specs.declared.stage.Stage.{Stage}
use Rattle.bs_solve_lemmas.specs.declared.stage.Stage.TheVariants.{Idle, Begun, Blocked}
use Rattle.bs_solve_lemmas.specs.declared.answer.Answer.{Answer}
use Rattle.bs_solve_lemmas.specs.ProofLog.{ProofLog, standing, next_id, with_line, without}
use Rattle.bs_solve_lemmas.specs.Search.{assumed}
use Rattle.bs_solve_lemmas.specs.Ending.{Ends}
use Rattle.bs_solve_lemmas.specs.Stages.{Fits, is_begun, stage_of, begun_proof}

-- its proof log, the number of variables in use, where it stands, and whether memory ran out
pub record SolverState : Type 0 where
  pub proof : ProofLog
  pub vars : ℕ
  pub stage : Stage
  pub failed : Bool

-- while memory has not run out, the clauses are over the variables in use, the log is as the stage says, and each step has
-- left what is kept
pub record IsReady (s : SolverState) : Type 0 where
  pub bound : s.vars < 2 ^ 30
  pub range : s.failed ≡ false → All (HasVariables s.vars) (standing s.proof)
  pub distinct : s.failed ≡ false → All (λ c. has_distinct_variables c ≡ true) (standing s.proof)
  pub fits : s.failed ≡ false → Fits s.stage s.proof s.vars
  pub leaves : s.failed ≡ false → StepsLeaveKept s.proof.problem s.proof.history

-- further lines were logged, and at the first solve of a step its assumptions may have been added
pub record Follows (first : Bool) (old new : ProofLog) (assumptions : Clause) : Type 0 where
  pub lines : List Line
  pub history : new.history ≡ lines ++ old.history
  pub vars : new.problem.vars ≡ old.problem.vars
  pub clauses : new.problem.clauses ≡ old.problem.clauses
  pub steps : (new.problem.steps ≡ old.problem.steps) ⊎ ((first ≡ true) × (new.problem.steps ≡ old.problem.steps ++ assumptions ∷ []))

-- a solve is the first of its step, or a block came since the last one and the assumptions are the step's
pub record MaySolve (s : SolverState) (assumptions : Clause) : Type 0 where
  pub stage : s.failed ≡ false → (s.stage ≡ Begun) ⊎ (s.stage ≡ Blocked)
  pub again : s.stage ≡ Blocked → assumed s.proof ≡ assumptions

-- the search went on from the line of the solve, and ended as the answer says
pub record HasSolved (old new : SolverState) (assumptions : Clause) (limit : ℕ) (answer : Answer) : Type 0 where
  pub was_well : old.failed ≡ false
  pub stands : standing (begun_proof (is_begun old.stage) old.proof assumptions) ≡ standing old.proof
  pub assumed_is : assumed (begun_proof (is_begun old.stage) old.proof assumptions) ≡ assumptions
  pub ends : Ends (begun_proof (is_begun old.stage) old.proof assumptions) new.proof old.vars limit answer
  pub step : assumed new.proof ≡ assumptions
  pub vars : new.vars ≡ old.vars
  pub stage : new.stage ≡ stage_of answer
  pub well : new.failed ≡ false

-- the proof log has the block, which the activation literal's negation begins
pub record HasBlocked (old new : SolverState) (lits : Clause) (id : ℕ) : Type 0 where
  pub was_well : old.failed ≡ false
  pub next : id ≡ next_id old.proof
  pub proof : new.proof ≡ with_line old.proof (Block id (negation (activation_of old.proof.problem (step_of old.proof.history)) ∷ lits))
  pub stands : standing new.proof ≡ standing old.proof ++ (negation (activation_of old.proof.problem (step_of old.proof.history)) ∷ lits) ∷ []
  pub step : assumed new.proof ≡ assumed old.proof
  pub vars : new.vars ≡ old.vars
  pub stage : new.stage ≡ Blocked
  pub well : new.failed ≡ false

-- the proof log with the line of the lemma that ends the step
abbrev pub finished : ProofLog → Option ℕ → ProofLog
finished b None = b
finished b (Some id) = with_line b (Finish id)

-- the step's activation literal is retired
abbrev pub retired : ProofLog → ProofLog
retired b = with_line b (Retire (next_id b))

-- the ids of the lemmas and blocks that are not kept at the end of the step under way
abbrev pub leaving : ProofLog → List ℕ
leaving b = map (λ e. e.id) (going b.problem (step_of b.history) (live b.problem (Retire (next_id b) ∷ b.history)))

-- the step's activation literal is retired, and then what is not kept goes
abbrev pub ended : ProofLog → ProofLog
ended b = without (retired b) (leaving b)

-- the proof log has the lines of the step's end
pub record HasEnded (old new : SolverState) (end : Option ℕ) : Type 0 where
  pub was_well : old.failed ≡ false
  pub proof : new.proof ≡ ended (finished old.proof end)
  pub vars : new.vars ≡ old.vars
  pub stage : new.stage ≡ Idle
  pub well : new.failed ≡ false
