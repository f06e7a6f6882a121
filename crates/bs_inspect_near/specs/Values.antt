-- The values that a signal has in recorded runs.
use Rattle.std.specs.Prelude.{◌≡◌, ◌≢◌, ℕ, ◌<◌, ◌≤◌, Bool, true, false, List, [], length, map, slice_index_or}
use Rattle.bs_net.specs.Circuit.{Circuit}
use Rattle.bs_scan.specs.Moments.{IsMoment, Moment, Run, is_listed, moment, run_of, state_at}
use Rattle.bs_bits.specs.Bits.{bits_eq}
use Rattle.bs_inspect_near.specs.declared.novelty.TheConstants.{MAX_VALUES}

-- the bit at a place of a state
abbrev pub state_bit : List Bool → ℕ → Bool
state_bit state place = slice_index_or state place false

-- the bits of a signal in a state, the greatest first
abbrev pub value_in : List Bool → List ℕ → List Bool
value_in state places = map (state_bit state) places

-- the same at a moment
abbrev pub value_at : Circuit → List Run → List ℕ → ℕ → ℕ → List Bool
value_at c runs places run cycle = value_in (state_at c (run_of runs run) cycle) places

-- a run but this one has the value at some moment
pub record IsElsewhere (c : Circuit) (runs : List Run) (number : ℕ) (places : List ℕ) (value : List Bool) : Type 0 where
  pub at : Moment
  pub moment : IsMoment runs at
  pub other : at.run ≢ number
  pub same : value_at c runs places at.run at.cycle ≡ value

-- no value stands at two places
pub record EachOnce (values : List (List Bool)) : Type 0 where
  pub is : (i j : ℕ) → i < length values → j < length values → bits_eq (slice_index_or values i []) (slice_index_or values j []) ≡ true → i ≡ j

-- values that other runs have, each once
pub record AreElsewhere (c : Circuit) (runs : List Run) (number : ℕ) (places : List ℕ) (values : List (List Bool)) : Type 0 where
  pub each : (i : ℕ) → i < length values → IsElsewhere c runs number places (slice_index_or values i [])
  pub once : EachOnce values

-- all values that other runs ever have, each once
pub record AreOthers (c : Circuit) (runs : List Run) (number : ℕ) (places : List ℕ) (values : List (List Bool)) : Type 0 where
  pub elsewhere : AreElsewhere c runs number places values
  pub all : (m : Moment) → IsMoment runs m → m.run ≢ number → is_listed values (value_at c runs places m.run m.cycle) ≡ true

-- other runs have more than `MAX_VALUES` values
pub record HaveMany (c : Circuit) (runs : List Run) (number : ℕ) (places : List ℕ) : Type 0 where
  pub values : List (List Bool)
  pub elsewhere : AreElsewhere c runs number places values
  pub many : MAX_VALUES < length values

-- each value that the run ever has is one of another run
pub record IsShared (c : Circuit) (runs : List Run) (number : ℕ) (places : List ℕ) : Type 0 where
  pub values : List (List Bool)
  pub others : AreOthers c runs number places values
  pub each : (t : ℕ) → IsMoment runs (moment number t) → is_listed values (value_at c runs places number t) ≡ true

-- The first cycle at which the run has a value of a signal that no other run ever has. The others have so many values, `MAX_VALUES` at
-- most.
pub record IsNovel (c : Circuit) (runs : List Run) (number : ℕ) (places : List ℕ) (cycle count : ℕ) : Type 0 where
  pub values : List (List Bool)
  pub others : AreOthers c runs number places values
  pub counted : count ≡ length values
  pub few : count ≤ MAX_VALUES
  pub lasts : IsMoment runs (moment number cycle)
  pub new : is_listed values (value_at c runs places number cycle) ≡ false
  pub before : (t : ℕ) → t < cycle → is_listed values (value_at c runs places number t) ≡ true
