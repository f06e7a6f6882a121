-- What has room to be raised.
use Rattle.std.specs.Prelude.{◌≡◌, ℕ, ◌*◌, ◌≤◌, Bool, true, List, length, All}
use Rattle.bs_clause.specs.Range.{HasVariables}
use Rattle.bs_log.specs.Refusal.{has_distinct_variables}
use Rattle.bs_encode.specs.Encoded.{Encoded}
use Rattle.bs_encode.specs.Assuming.{signed}
use Rattle.bs_reach_unrolled.specs.declared.limits.TheConstants.{MAX_FRAMES, MAX_FRAME_VARIABLES}

-- k time frames have room, with the activation literals of their lengths
pub record IsUnrollable (e : Encoded) (k : ℕ) : Type 0 where
  pub cycles : k ≤ MAX_FRAMES
  pub room : k * e.variables ≤ MAX_FRAME_VARIABLES
  pub same_width : length e.next ≡ length e.states
  pub clauses : All (HasVariables e.variables) e.clauses
  pub states : HasVariables e.variables e.states
  pub next : HasVariables e.variables e.next
  pub inputs : HasVariables e.variables e.inputs
  pub clauses_distinct : All (λ d. has_distinct_variables d ≡ true) e.clauses
  pub states_distinct : (bits : List Bool) → has_distinct_variables (signed e.states bits) ≡ true
  pub next_distinct : (bits : List Bool) → has_distinct_variables (signed e.next bits) ≡ true
