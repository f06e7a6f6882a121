-- What the unrolled clauses and their logs say of executions.
use Rattle.std.specs.Prelude.{◌≡◌, ℕ, ◌-◌, ◌*◌, ◌<◌, ◌≤◌, Bool, List, [], ◌∷◌, ◌++◌, length, map, All, IsTrue}
use Rattle.std.specs.List.{range_with_len}
use Rattle.bs_clause.specs.Literal.{literal_value, Satisfies}
use Rattle.bs_log.specs.declared.line.Line.{Line}
use Rattle.bs_log.specs.declared.line.Line.TheVariants.{Finish}
use Rattle.bs_log.specs.History.{step_of}
use Rattle.bs_log.specs.Refusal.{history_of, IsAccepted}
use Rattle.bs_log.specs.Steps.{HasNoBlock}
use Rattle.bs_scan.specs.declared.seen.Seen.{Seen}
use Rattle.bs_net.specs.Circuit.{Circuit, reset_state}
use Rattle.bs_encode.specs.Encoded.{Encoded}
use Rattle.bs_encode.specs.Assuming.{signed_seen}
use Rattle.bs_encode.specs.Cycle.{bits_on}
use Rattle.bs_reach_unrolled.specs.Execution.{ReachedIn, IsExecution}
use Rattle.bs_reach_unrolled.specs.Unrolled.{states_at, inputs_at, next_at, unrolled, reach_problem}

-- the states that an assignment shows, one at each of the first j time frames, and the state that the last of these leads to
abbrev pub states_shown : Encoded → (ℕ → Bool) → ℕ → List (List Bool)
states_shown e value j = map (λ i. bits_on value (states_at e i)) (range_with_len 0 j) ++ bits_on value (next_at e (j - 1)) ∷ []

abbrev pub inputs_shown : Encoded → (ℕ → Bool) → ℕ → List (List Bool)
inputs_shown e value j = map (λ i. bits_on value (inputs_at e i)) (range_with_len 0 j)

-- Every assignment that meets the unrolled clauses of k cycles shows executions of each length from 1 to k.
abbrev pub SolutionsAreExecutions : Circuit → Encoded → Type 0
SolutionsAreExecutions c e =
    (k j : ℕ) (value : ℕ → Bool) (p : Seen) → 1 ≤ j → j ≤ k → All (Satisfies value) (unrolled e (reset_state c) k) →
    All (λ l. IsTrue (literal_value value l)) (signed_seen (next_at e (j - 1)) p) → length p.bits ≡ length c.flops →
    IsExecution c j p (states_shown e value j) (inputs_shown e value j)

-- an assignment that meets the unrolled clauses and shows p in the next state of time frame j - 1, and above the time frames has the
-- values of another one
pub record ShowsReached (c : Circuit) (e : Encoded) (k j : ℕ) (p : Seen) (others : ℕ → Bool) : Type 0 where
  pub value : ℕ → Bool
  pub clauses : All (Satisfies value) (unrolled e (reset_state c) k)
  pub next : All (λ l. IsTrue (literal_value value l)) (signed_seen (next_at e (j - 1)) p)
  pub above : (v : ℕ) → k * e.variables < v → value v ≡ others v

-- What is reached in 1 to k cycles is shown by such an assignment.
abbrev pub ReachedIsShown : Circuit → Encoded → Type 0
ReachedIsShown c e =
    (k j : ℕ) (p : Seen) (others : ℕ → Bool) → 1 ≤ j → j ≤ k → ReachedIn c j p → ShowsReached c e k j p others

-- Where an accepted log without a block finishes the step of a length, no state that shows p is reached in this length.
abbrev pub FinishedIsNotReached : Circuit → Encoded → Type 0
FinishedIsNotReached c e =
    (k count : ℕ) (p : Seen) (log before rest : List Line) (id : ℕ) → count ≤ k →
    IsAccepted (reach_problem e (reset_state c) k p count) log → HasNoBlock log → log ≡ before ++ Finish id ∷ rest →
    ReachedIn c (step_of (history_of before)) p → ⊥
