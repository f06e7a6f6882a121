-- What the clauses and the proof of all finished lists show.
use Rattle.std.specs.Prelude.{◌≡◌, ◌≢◌, ◌≤◌, ℕ, Bool, List, ◌∷◌, length, All, Contains, is_some, IsTrue}
use Rattle.bs_clause.specs.Literal.{Clause, negation, Satisfies}
use Rattle.bs_log.specs.declared.line.Line.{Line}
use Rattle.bs_log.specs.History.{Problem, History, activation_of}
use Rattle.bs_log.specs.Refusal.{IsAccepted, history_of, assumptions_of, has_distinct_variables}
use Rattle.bs_log.specs.Refutation.{blocks_of}
use Rattle.bs_log.specs.Shown.{Basis, Shown}
use Rattle.bs_log.specs.ShownLaw.{BlocksOther}
use Rattle.bs_log.specs.Proof.{IsRefutation}
use Rattle.bs_evidence.specs.WholeCnf.{finish_of, whole_cnf_of}
use Rattle.bs_evidence.specs.WholeProof.{whole_proof_of}

-- a step assumes its activation literal first, and no variable twice
pub record IsLed (p : Problem) (step : ℕ) : Type 0 where
  pub rest : Clause
  pub is : assumptions_of p step ≡ activation_of p step ∷ rest
  pub distinct : IsTrue (has_distinct_variables (assumptions_of p step))

pub record AreLed (p : Problem) : Type 0 where
  pub each : (step : ℕ) → 1 ≤ step → step ≤ length p.steps → IsLed p step

-- in each block of another step the literal stands that turns that step off
pub record OthersAreGuarded (p : Problem) (h : History) (step : ℕ) : Type 0 where
  pub each : (other : ℕ) → 1 ≤ other → other ≤ length p.steps → other ≢ step →
      All (λ c. Contains c (negation (activation_of p other))) (blocks_of h other)

-- A state that is shown in a finished step, and whose block that step has not, gives an assignment that meets the clauses: the step's
-- activation literal is true there, and all others are false.
abbrev pub UnlistedMeetsWhole : Type 0
UnlistedMeetsWhole =
    (basis : Basis) (width step : ℕ) (s : List Bool) (h : History) → 1 ≤ step → step ≤ length basis.problem.steps → IsTrue (is_some (finish_of h step)) →
    Shown basis width step s → All (BlocksOther basis width step s) (blocks_of h step) → OthersAreGuarded basis.problem h step →
    (v : ℕ → Bool) × All (Satisfies v) (whole_cnf_of basis.problem h)

-- The proof of an accepted log is right over these clauses, line by line up to the empty clause.
abbrev pub WholeProofsAreRight : Type 0
WholeProofsAreRight =
    (p : Problem) (log : List Line) → IsAccepted p log → AreLed p → IsRefutation (whole_cnf_of p (history_of log)) (whole_proof_of p (history_of log))

-- So nothing meets the clauses of an accepted log.
abbrev pub AcceptedIsUnmet : Type 0
AcceptedIsUnmet =
    (p : Problem) (log : List Line) (v : ℕ → Bool) → IsAccepted p log → AreLed p → All (Satisfies v) (whole_cnf_of p (history_of log)) → ⊥
