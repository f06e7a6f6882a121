-- What the clauses and the proof of a step's list show.
use Rattle.std.specs.Prelude.{◌≡◌, ◌≢◌, ◌≤◌, ℕ, Bool, List, ◌∷◌, length, All, Contains, Some, slice_get, take}
use Rattle.bs_clause.specs.Literal.{Clause, negation, Satisfies}
use Rattle.bs_log.specs.declared.line.Line.{Line}
use Rattle.bs_log.specs.declared.line.Line.TheVariants.{Finish}
use Rattle.bs_log.specs.History.{Problem, History, step_of, activation_of}
use Rattle.bs_log.specs.Refusal.{IsAccepted, history_of, assumptions_of}
use Rattle.bs_log.specs.Refutation.{blocks_of}
use Rattle.bs_log.specs.Shown.{Basis, Shown}
use Rattle.bs_log.specs.Cnf.{cnf_of}
use Rattle.bs_log.specs.Proof.{IsRefutation, proof_of}

-- the line at this place, counted from 0, finishes the step with the lemma of this id
pub record IsFinishAt (lines : List Line) (step place id : ℕ) : Type 0 where
  pub line : slice_get lines place ≡ Some (Finish id)
  pub step_is : step_of (history_of (take place lines)) ≡ step

-- no line finishes the step
pub record HasNoFinish (lines : List Line) (step : ℕ) : Type 0 where
  pub none : (place id : ℕ) → slice_get lines place ≡ Some (Finish id) → step_of (history_of (take place lines)) ≢ step

-- the clause is the block of another state
pub record BlocksOther (basis : Basis) (width step : ℕ) (s : List Bool) (c : Clause) : Type 0 where
  pub state : List Bool
  pub wide : length state ≡ width
  pub other : state ≢ s
  pub is : c ≡ negation (activation_of basis.problem step) ∷ basis.block state

-- A state that is shown in the step, and whose block the step has not, gives an assignment that meets the step's clauses.
abbrev pub UnlistedMeets : Type 0
UnlistedMeets =
    (basis : Basis) (width step : ℕ) (s : List Bool) (h : History) → 1 ≤ step → step ≤ length basis.problem.steps →
    Shown basis width step s → All (BlocksOther basis width step s) (blocks_of h step) →
    (v : ℕ → Bool) × All (Satisfies v) (cnf_of basis.problem h step)

-- Nothing meets the clauses of a step that an accepted log finishes, where the step assumes its activation literal.
abbrev pub FinishedIsUnmet : Type 0
FinishedIsUnmet =
    (p : Problem) (log : List Line) (step place id : ℕ) (v : ℕ → Bool) → IsAccepted p log → IsFinishAt log step place id →
    Contains (assumptions_of p step) (activation_of p step) → All (Satisfies v) (cnf_of p (history_of (take place log)) step) → ⊥

-- And the proof of such a step is right over these clauses, line by line up to the empty clause.
abbrev pub ProofsAreRight : Type 0
ProofsAreRight =
    (p : Problem) (log : List Line) (step place id : ℕ) → IsAccepted p log → IsFinishAt log step place id →
    IsRefutation (cnf_of p (history_of (take place log)) step) (proof_of p (history_of (take place log)) step id)
