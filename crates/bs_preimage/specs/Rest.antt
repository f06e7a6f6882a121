-- A solver between two lists.
use Rattle.std.specs.Prelude.{◌≡◌, ℕ, ◌+◌, ◌≤◌, Bool, false, List, [], ◌∷◌, ◌++◌, length, reverse, Contains}
use Rattle.bs_clause.specs.Literal.{Clause, negation}
use Rattle.bs_log.specs.declared.line.Line.{Line}
use Rattle.bs_log.specs.History.{step_of, activation_of}
use Rattle.bs_log.specs.Steps.{steps_of}
use Rattle.bs_net.specs.Circuit.{Circuit}
use Rattle.bs_scan.specs.Choice.{Chosen}
use Rattle.bs_encode.specs.Encoded.{Encoded}
use Rattle.bs_encode.specs.Depth.{encoding_by}
use Rattle.bs_solve_lemmas.specs.declared.stage.Stage.TheVariants.{Idle}
use Rattle.bs_solve_lemmas.specs.ProofLog.{ProofLog, standing}
use Rattle.bs_solve_lemmas.specs.Solver.{SolverState}

-- each clause that the log is about stands
abbrev pub AxiomsStand : ProofLog → Type 0
AxiomsStand b = (c : Clause) → Contains b.problem.clauses c → Contains (standing b) c

-- the negation of each step's activation literal stands
abbrev pub ActivationsAreRetired : ProofLog → Type 0
ActivationsAreRetired b =
    (n : ℕ) → 1 ≤ n → n ≤ length b.problem.steps → Contains (standing b) (negation (activation_of b.problem n) ∷ [])

-- the lines so far are those of whole steps
abbrev pub AreWholeSteps : List Line → Type 0
AreWholeSteps log = (more : List Line) → steps_of (log ++ more) ≡ steps_of log ++ steps_of more

-- no step is under way, and each one that has begun has its assumptions, its activation literal and its lines
pub record IsAtRest (s : SolverState) : Type 0 where
  pub well : s.failed ≡ false
  pub idle : s.stage ≡ Idle
  pub activations : s.vars ≡ s.proof.problem.vars + length s.proof.problem.steps
  pub number : step_of s.proof.history ≡ length s.proof.problem.steps + 1
  pub count : length (steps_of (reverse s.proof.history)) ≡ length s.proof.problem.steps
  pub stand : AxiomsStand s.proof
  pub retired : ActivationsAreRetired s.proof
  pub whole : AreWholeSteps (reverse s.proof.history)

-- the log is about the clauses of the circuit's encoding
pub record IsAbout (c : Circuit) (choice : Chosen) (e : Encoded) (b : ProofLog) : Type 0 where
  pub width : choice.width ≡ length c.flops
  pub encoding : e ≡ encoding_by c choice
  pub vars : b.problem.vars ≡ e.variables
  pub clauses : b.problem.clauses ≡ e.clauses

-- the solver rests, and each call was a step, while memory has not run out
pub record IsPrepared (c : Circuit) (choice : Chosen) (e : Encoded) (s : SolverState) (calls : ℕ) (failed : Bool) : Type 0 where
  pub about : IsAbout c choice e s.proof
  pub rest : failed ≡ false → IsAtRest s
  pub steps : failed ≡ false → length s.proof.problem.steps ≡ calls

-- a solver that was just made
abbrev pub made : Encoded → SolverState
made e =
    record {
      proof = record { problem = record { vars = e.variables; clauses = e.clauses; steps = [] }; history = [] };
      vars = e.variables;
      stage = Idle;
      failed = false;
    }
