-- What the lists of candidates need of an encoding.
use Rattle.std.specs.Prelude.{◌≡◌, ◌≢◌, ℕ, ◌+◌, ◌<◌, Bool, true, false, List, [], length, All, IsTrue, Option, None, Some, slice_get, slice_index_or}
use Rattle.std.specs.Option.{option_to_list}
use Rattle.bs_clause.specs.declared.literal.TheConstants.{VARIABLE_LIMIT}
use Rattle.bs_clause.specs.Literal.{Literal, literal_value, Satisfies}
use Rattle.bs_clause.specs.Range.{HasVariables}
use Rattle.bs_log.specs.History.{Problem, activation_of}
use Rattle.bs_log.specs.Refusal.{has_distinct_variables}
use Rattle.bs_log.specs.Shown.{Shown}
use Rattle.bs_scan.specs.Seen.{Shows}
use Rattle.bs_net.specs.Circuit.{Circuit, next, reset_state}
use Rattle.bs_scan.specs.Choice.{Chosen, depth_of}
use Rattle.bs_scan.specs.Present.{Present, LeadsInto}
use Rattle.bs_scan.specs.Signature.{signature, agrees}
use Rattle.bs_encode.specs.declared.encoding.TheConstants.{MAX_ACTIVATIONS}
use Rattle.bs_encode.specs.Encoded.{Encoded}
use Rattle.bs_encode.specs.Assuming.{assumptions_for, block_for}
use Rattle.bs_encode.specs.Cycle.{bits_on}

-- Every literal is one of the encoding's variables, above which there is room for the activation literals of `MAX_ACTIVATIONS` steps. No variable
-- stands twice in a clause, in what a step assumes under an activation literal above the variables, or in a block. There is a second time frame where
-- two signatures are kept, and then it has a literal for each bit.
pub record IsTidy (c : Circuit) (choice : Chosen) (e : Encoded) : Type 0 where
  pub room : e.variables + MAX_ACTIVATIONS < VARIABLE_LIMIT
  pub states_width : length e.states ≡ length c.flops
  pub next_width : length e.next ≡ length c.flops
  pub signatures_width : length e.signatures ≡ length choice.items
  pub inputs_width : length e.inputs ≡ length c.inputs
  pub clauses_range : All (HasVariables e.variables) e.clauses
  pub states_range : HasVariables e.variables e.states
  pub next_range : HasVariables e.variables e.next
  pub signatures_range : HasVariables e.variables e.signatures
  pub inputs_range : HasVariables e.variables e.inputs
  pub one_frame : depth_of choice ≡ 1 → e.link ≡ None
  pub two_frames : depth_of choice ≡ 2 → e.link ≢ None
  pub older_signatures_width : depth_of choice ≡ 2 → length e.older_signatures ≡ length choice.items
  pub older_states_width : depth_of choice ≡ 2 → length e.older_states ≡ length c.flops
  pub older_inputs_width : depth_of choice ≡ 2 → length e.older_inputs ≡ length c.inputs
  pub link_range : HasVariables e.variables (option_to_list e.link)
  pub older_states_range : HasVariables e.variables e.older_states
  pub older_inputs_range : HasVariables e.variables e.older_inputs
  pub assumptions_range : (activation : Literal) (q : Present) → e.variables < activation.variable → HasVariables activation.variable (assumptions_for e activation q)
  pub block_range : (state : List Bool) → HasVariables e.variables (block_for e state)
  pub clauses_distinct : All (λ d. has_distinct_variables d ≡ true) e.clauses
  pub assumptions_distinct : (activation : Literal) (q : Present) → e.variables < activation.variable → has_distinct_variables (assumptions_for e activation q) ≡ true
  pub block_distinct : (state : List Bool) → has_distinct_variables (block_for e state) ≡ true

-- In every problem over the encoding whose step number i, from 0, is that of a present, each state that agrees with what
-- the register holds there and leads to one that shows it is shown in this step.
abbrev pub PredecessorsAreShown : Circuit → Chosen → Encoded → Type 0
PredecessorsAreShown c choice e =
    (p : Problem) (i : ℕ) (q : Present) (s x : List Bool) → p.vars ≡ e.variables → p.clauses ≡ e.clauses →
    slice_get p.steps i ≡ Some (assumptions_for e (activation_of p (i + 1)) q) →
    length s ≡ length c.flops → length x ≡ length c.inputs → agrees c choice q.stored s ≡ true → Shows q.state (next c s x) →
    Shown (record { problem = p; block = block_for e }) (length c.flops) (i + 1) s

-- the state has this signature and leads to that state under the input
pub record IsBefore (c : Circuit) (choice : Chosen) (older s u y : List Bool) : Type 0 where
  pub state_width : length u ≡ length c.flops
  pub input_width : length y ≡ length c.inputs
  pub signature : signature choice u ≡ older
  pub next : next c u y ≡ s

-- whether an assignment shows on its link that the second time frame leads to the first
abbrev pub joins : (ℕ → Bool) → Option Literal → Bool
joins value None = false
joins value (Some l) = literal_value value l

-- The state agrees with what the register holds at the present and leads to one that shows it under the input. Where two signatures are kept and
-- the register holds one, it is the state at reset and the time frames are not joined; where it holds two, they are, and the other
-- state, which has the older signature, leads to it.
pub record IsPredecessor (c : Circuit) (choice : Chosen) (q : Present) (s x u y : List Bool) (joined : Bool) : Type 0 where
  pub state_width : length s ≡ length c.flops
  pub input_width : length x ≡ length c.inputs
  pub signature : signature choice s ≡ slice_index_or q.stored 0 []
  pub agrees : agrees c choice q.stored s ≡ true
  pub next : Shows q.state (next c s x)
  pub leads : LeadsInto c s x q.state
  pub alone : depth_of choice ≡ 1 → joined ≡ false
  pub first : depth_of choice ≡ 2 → slice_get q.stored 1 ≡ None → (joined ≡ false) × (s ≡ reset_state c)
  pub later : (older : List Bool) → depth_of choice ≡ 2 → slice_get q.stored 1 ≡ Some older → (joined ≡ true) × IsBefore c choice older s u y

-- Every assignment that meets the clauses and what a step assumes of a present shows such a state and such an input, and in the
-- second time frame such ones of the cycle before.
abbrev pub SolutionsArePredecessors : Circuit → Chosen → Encoded → Type 0
SolutionsArePredecessors c choice e =
    (value : ℕ → Bool) (activation : Literal) (q : Present) → length q.state.bits ≡ length c.flops → 0 < length q.stored →
    All (λ t. length t ≡ length choice.items) q.stored →
    All (Satisfies value) e.clauses → All (λ l. IsTrue (literal_value value l)) (assumptions_for e activation q) →
    IsPredecessor c choice q (bits_on value e.states) (bits_on value e.inputs) (bits_on value e.older_states) (bits_on value e.older_inputs)
    (joins value e.link)
