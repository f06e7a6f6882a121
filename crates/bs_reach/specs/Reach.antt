-- When an answer is right (docs/DEFINITIONS.md, "Bounded reach").
use Rattle.std.specs.Prelude.{◌≡◌, ℕ, ◌+◌, ◌-◌, ◌*◌, ◌^◌, ◌<◌, ◌≤◌, Bool, true, List, [], ◌∷◌, ◌++◌, length, All}
use Rattle.std.specs.List.{AllByRecursion, range_with_len}
use Rattle.bs_scan.specs.declared.seen.Seen.{Seen}
use Rattle.bs_clause.specs.Literal.{Literal}
use Rattle.bs_clause.specs.UnitRun.{IsUnitRun}
use Rattle.bs_clause.specs.Range.{HasVariables}
use Rattle.bs_log.specs.declared.line.Line.{Line}
use Rattle.bs_log.specs.declared.line.Line.TheVariants.{Solve, Retire}
use Rattle.bs_log.specs.History.{Problem, History, step_of}
use Rattle.bs_log.specs.Refusal.{history_of, IsAccepted}
use Rattle.bs_log.specs.Lean.{IsLean}
use Rattle.bs_log.specs.LineForms.{HasText}
use Rattle.bs_log.specs.Steps.{HasNoBlock, finished_in}
use Rattle.bs_solve_lemmas.specs.Ending.{is_open_lemma}
use Rattle.bs_solve.specs.Budget.{HasFewLemmas}
use Rattle.bs_net.specs.Circuit.{Circuit, reset_state}
use Rattle.bs_encode.specs.Encoded.{encoding_of}
use Rattle.bs_encode.specs.Transition.{variables}
use Rattle.bs_reach_unrolled.specs.Execution.{NotBefore, IsExecution}
use Rattle.bs_reach_unrolled.specs.Unrolled.{unrolled, length_assumes, reach_problem}
use Rattle.bs_reach.specs.declared.reach.Outcome.{Outcome}
use Rattle.bs_reach.specs.declared.reach.Outcome.TheVariants.{Reached, Unreached, Unknown}
use Rattle.bs_reach.specs.declared.reach.Reach.{Reach}

-- The solve of length j logged b lemmas, of which none ends its step, and then the step ended. And b is less than the number of
-- values of the variables that a unit run over the unrolled clauses and the step's assumptions leaves open.
pub record SpendsAll (c : Circuit) (k : ℕ) (p : Seen) (b j : ℕ) (log : List Line) : Type 0 where
  pub earlier : History
  pub lemmas : List Line
  pub id : ℕ
  pub later : List Line
  pub history : history_of log ≡ later ++ Retire id ∷ (lemmas ++ Solve ∷ earlier)
  pub step : step_of earlier ≡ j
  pub count : length lemmas ≡ b
  pub open_yet : AllByRecursion (λ line. is_open_lemma (length_assumes (encoding_of c []) k p j) line ≡ true) lemmas
  pub bound : (run : List Literal) → HasVariables (k * variables c []) run →
      IsUnitRun (unrolled (encoding_of c []) (reset_state c) k) (length_assumes (encoding_of c []) k p j) run →
      b < 2 ^ (k * variables c [] - length run)

-- within the bound, what the outcome says of executions holds, and of the last solve
abbrev pub IsOutcome : Circuit → Seen → ℕ → ℕ → Reach → Outcome → Type 0
IsOutcome c p k b r (Reached j) = (j ≤ k) × IsExecution c j p r.states r.inputs × NotBefore c j p
IsOutcome c p k b r Unreached = NotBefore c (k + 1) p
IsOutcome c p k b r (Unknown j) = (j ≤ k) × NotBefore c j p × SpendsAll c k p b j r.log

-- how many lengths from 1 on were tried, and how many of them are refuted
abbrev pub tried_of : ℕ → Outcome → ℕ
tried_of k (Reached j) = j
tried_of k Unreached = k
tried_of k (Unknown j) = j

abbrev pub refuted_of : ℕ → Outcome → ℕ
refuted_of k (Reached j) = j - 1
refuted_of k Unreached = k
refuted_of k (Unknown j) = j - 1

-- what the log is about: the unrolled clauses, and a step for each length that was tried
abbrev pub problem_in : Circuit → Seen → ℕ → Outcome → Problem
problem_in c p k outcome = reach_problem (encoding_of c []) (reset_state c) k p (tried_of k outcome)

-- the outcome is right; the log is accepted on the unrolled clauses and lean, and has a finish line for each length that is said
-- not to be reached, from 1 on, and for no other; no solve logged more than b lemmas
pub record IsReach (c : Circuit) (p : Seen) (k b : ℕ) (r : Reach) : Type 0 where
  pub asked_is : r.asked ≡ k
  pub conflicts_is : r.conflicts ≡ b
  pub outcome_is : IsOutcome c p k b r r.outcome
  pub accepted : IsAccepted (problem_in c p k r.outcome) r.log
  pub lean : IsLean (problem_in c p k r.outcome) (history_of r.log)
  pub texts : All HasText r.log
  pub no_block : HasNoBlock r.log
  pub finished : finished_in (history_of r.log) ≡ range_with_len 1 (refuted_of k r.outcome)
  pub few : HasFewLemmas b (history_of r.log)
