-- What a caller asks of an answer.
use Rattle.std.proofs.Common.{◌≡◌, ℕ, ◌+◌, Bool, List, length, ap, ◌∙◌, arith}
use Rattle.std.proofs.lemmas.List.FromFn.{length-map-range_with_len}
use Rattle.bs_scan.specs.declared.seen.Seen.{Seen}
use Rattle.bs_net.specs.Circuit.{Circuit}
use Rattle.bs_scan.specs.Moments.{state_at}
use Rattle.bs_reach.specs.declared.reach.Outcome.{Outcome}
use Rattle.bs_reach.specs.declared.reach.Outcome.TheVariants.{Reached, Unreached, Unknown}
use Rattle.bs_reach.specs.declared.reach.Reach.{Reach}
use Rattle.bs_reach.specs.Reach.{IsOutcome, IsReach}
use Rattle.bs_reach.specs.Text.{HasStates}

-- a right answer has a text
pub reach_has_states : (c : Circuit) (p : Seen) (k b : ℕ) (r : Reach) → IsReach c p k b r → HasStates r.outcome r
reach_has_states c p k b r is = by r.outcome is.outcome_is
  where
    by : (o : Outcome) → IsOutcome c p k b r o → HasStates o r
    by (Reached j) (within, run, first) =
        let states : length r.states ≡ j + 1 = ap length run.states_are ∙ length-map-range_with_len (state_at c r.inputs) 0 (j + 1) in
        omega (arith, states, run.count)
    by Unreached h = tt
    by (Unknown j) h = tt
