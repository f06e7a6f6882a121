-- What the clauses of a length show.
use Rattle.std.specs.Prelude.{◌≡◌, ◌*◌, ◌≤◌, ℕ, Bool, List, [], length, take, All, is_some, IsTrue}
use Rattle.bs_scan.specs.declared.seen.Seen.{Seen}
use Rattle.bs_clause.specs.Literal.{Satisfies}
use Rattle.bs_net.specs.Circuit.{Circuit}
use Rattle.bs_log.specs.Refusal.{IsAccepted, history_of}
use Rattle.bs_log.specs.Cnf.{cnf_of}
use Rattle.bs_log.specs.ShownLaw.{IsFinishAt}
use Rattle.bs_log.specs.Proof.{IsRefutation}
use Rattle.bs_evidence.specs.WholeCnf.{finish_of, whole_cnf_of}
use Rattle.bs_evidence.specs.WholeProof.{whole_proof_of}
use Rattle.bs_encode.specs.Transition.{variables}
use Rattle.bs_reach.specs.declared.reach.Reach.{Reach}
use Rattle.bs_reach_unrolled.specs.declared.limits.TheConstants.{MAX_FRAME_VARIABLES}
use Rattle.bs_reach_unrolled.specs.Execution.{ReachedIn}
use Rattle.bs_reach_answer.specs.ReadingLaw.{HasAnswerText}
use Rattle.bs_evidence.specs.Lengths.{problem_for, HasTried}

-- Where the state is reached in a length that was tried, an assignment meets the clauses of the length, behind any first lines of the
-- log: who refutes them has shown that it is not.
abbrev pub ReachedMeets : Circuit → Type 0
ReachedMeets c =
    (p : Seen) (r : Reach) (j place : ℕ) → HasAnswerText r → HasTried r j → ReachedIn c j p →
    (v : ℕ → Bool) × All (Satisfies v) (cnf_of (problem_for c p r) (history_of (take place r.log)) j)

-- And an assignment that meets them shows that it is reached in this length.
abbrev pub MetIsReached : Circuit → Type 0
MetIsReached c =
    (p : Seen) (r : Reach) (j place : ℕ) (v : ℕ → Bool) → length p.bits ≡ length c.flops → HasAnswerText r → HasTried r j →
    All (Satisfies v) (cnf_of (problem_for c p r) (history_of (take place r.log)) j) → ReachedIn c j p

-- Nothing meets the clauses of a length that an accepted log finishes.
abbrev pub FinishedIsUnmet : Circuit → Type 0
FinishedIsUnmet c =
    (p : Seen) (r : Reach) (j place id : ℕ) (v : ℕ → Bool) → HasTried r j → IsAccepted (problem_for c p r) r.log → IsFinishAt r.log j place id →
    All (Satisfies v) (cnf_of (problem_for c p r) (history_of (take place r.log)) j) → ⊥

-- ---- all lengths that a log finishes

-- Where the state is reached in one of them, an assignment meets their clauses.
abbrev pub ReachedMeetsAll : Circuit → Type 0
ReachedMeetsAll c =
    (p : Seen) (r : Reach) (j : ℕ) → HasAnswerText r → HasTried r j → IsTrue (is_some (finish_of (history_of r.log) j)) → ReachedIn c j p →
    (v : ℕ → Bool) × All (Satisfies v) (whole_cnf_of (problem_for c p r) (history_of r.log))

-- The proof of an accepted log is right over their clauses, line by line up to the empty clause, and so nothing meets them.
pub record AnswerProofsAreRight (c : Circuit) : Type 0 where
  pub right : (p : Seen) (r : Reach) → HasAnswerText r → r.asked * variables c [] ≤ MAX_FRAME_VARIABLES → IsAccepted (problem_for c p r) r.log →
      IsRefutation (whole_cnf_of (problem_for c p r) (history_of r.log)) (whole_proof_of (problem_for c p r) (history_of r.log))
  pub unmet : (p : Seen) (r : Reach) (v : ℕ → Bool) → HasAnswerText r → r.asked * variables c [] ≤ MAX_FRAME_VARIABLES →
      IsAccepted (problem_for c p r) r.log → All (Satisfies v) (whole_cnf_of (problem_for c p r) (history_of r.log)) → ⊥
