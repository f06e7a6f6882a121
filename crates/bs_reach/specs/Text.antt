-- The one text of an answer (docs/FORMATS.md, "The answer of reach").
use Rattle.std.specs.Prelude.{◌≡◌, ℕ, ◌+◌, Bool, List, [], ◌++◌, length, codes, decimal, slice_index_or}
use Rattle.std.specs.List.{flat_map, range_with_len}
use Rattle.bs_bits.specs.Text.{bits_text}
use Rattle.bs_bits.specs.Lines.{line}
use Rattle.bs_log.specs.LineText.{line_text}
use Rattle.bs_reach.specs.declared.reach.Outcome.{Outcome}
use Rattle.bs_reach.specs.declared.reach.Outcome.TheVariants.{Reached, Unreached, Unknown}
use Rattle.bs_reach.specs.declared.reach.Reach.{Reach}

abbrev pub asked_text : ℕ → ℕ → List ℕ
asked_text asked conflicts = line (codes "asked " ++ (decimal asked ++ (codes " conflicts " ++ decimal conflicts)))

abbrev pub outcome_text : Outcome → List ℕ
outcome_text (Reached j) = line (codes "result reached " ++ decimal j)
outcome_text Unreached = line (codes "result unreached")
outcome_text (Unknown j) = line (codes "result unknown " ++ decimal j)

abbrev pub state_text : List Bool → List ℕ
state_text s = line (codes "state " ++ bits_text s)

-- the input of a cycle, and the state behind it
abbrev pub cycle_text : Reach → ℕ → List ℕ
cycle_text r i = line (codes "input " ++ bits_text (slice_index_or r.inputs i [])) ++ state_text (slice_index_or r.states (i + 1) [])

-- the states with the inputs between
abbrev pub states_text : Reach → List ℕ
states_text r = state_text (slice_index_or r.states 0 []) ++ flat_map (cycle_text r) (range_with_len 0 (length r.inputs))

-- the execution, where the state is reached
abbrev pub execution_text : Outcome → Reach → List ℕ
execution_text (Reached j) r = states_text r
execution_text Unreached r = []
execution_text (Unknown j) r = []

-- up to the outcome
unfoldable pub head_text : Reach → List ℕ
head_text r = line (codes "reach 1") ++ (asked_text r.asked r.conflicts ++ outcome_text r.outcome)

-- from the log on
unfoldable pub log_text : Reach → List ℕ
log_text r =
    line (codes "log " ++ decimal (length r.log))
    ++ (flat_map (λ log_line. line (line_text log_line)) r.log
    ++ line (codes "end"))

abbrev pub reach_text : Reach → List ℕ
reach_text r = head_text r ++ (execution_text r.outcome r ++ log_text r)

-- where the state is reached there is one state more than inputs
abbrev pub HasStates : Outcome → Reach → Type 0
HasStates (Reached j) r = length r.states ≡ length r.inputs + 1
HasStates Unreached r = Unit {0}
HasStates (Unknown j) r = Unit {0}
