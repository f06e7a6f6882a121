-- What is known of runs: the states of one, and of each signal the values that others have.
use Rattle.std.specs.Prelude.{◌≡◌, ◌≢◌, ℕ, ◌<◌, ◌≤◌, ◌+◌, Bool, true, false, List, [], length, map, slice_index_or, Option, Some, None}
use Rattle.bs_net.specs.Circuit.{Circuit}
use Rattle.bs_inspect_view.specs.declared.signal.Signal.{Signal as CodeSignal}
use Rattle.bs_scan.specs.Moments.{IsMoment, Moment, Run, is_listed, run_of, state_at}
use Rattle.bs_inspect_near.specs.Values.{AreElsewhere, value_at, value_in}
use Rattle.bs_inspect_near.specs.declared.novelty.Novelty.{Novelty}
use Rattle.bs_inspect_near.specs.declared.novelty.TheConstants.{MAX_VALUES}

-- the places of each signal
abbrev pub all_places : List CodeSignal → List (List ℕ)
all_places signals = map (λ s. s.places) signals

-- values of other runs: all of them, unless there are many
pub record IsWhole (c : Circuit) (runs : List Run) (number : ℕ) (places : List ℕ) (values : List (List Bool)) : Type 0 where
  pub elsewhere : AreElsewhere c runs number places values
  pub all : length values ≤ MAX_VALUES → (m : Moment) → IsMoment runs m → m.run ≢ number →
      is_listed values (value_at c runs places m.run m.cycle) ≡ true

-- the sets of all signals
pub record AreWhole (c : Circuit) (runs : List Run) (number : ℕ) (places : List (List ℕ)) (sets : List (List (List Bool))) : Type 0 where
  pub long : length sets ≡ length places
  pub each : (i : ℕ) → i < length sets → IsWhole c runs number (slice_index_or places i []) (slice_index_or sets i [])

-- ---- the run itself

-- its states, from reset to its end
pub record AreOwn (c : Circuit) (runs : List Run) (number : ℕ) (own : List (List Bool)) : Type 0 where
  pub from_one : 1 ≤ number
  pub there : number ≤ length runs
  pub long : length own ≡ length (run_of runs number) + 1
  pub each : (t : ℕ) → t < length own → slice_index_or own t [] ≡ state_at c (run_of runs number) t

-- the first cycle whose value is none of these
pub record IsFirstNew (own : List (List Bool)) (places : List ℕ) (values : List (List Bool)) (cycle : ℕ) : Type 0 where
  pub there : cycle < length own
  pub new : is_listed values (value_in (slice_index_or own cycle []) places) ≡ false
  pub before : (t : ℕ) → t < cycle → is_listed values (value_in (slice_index_or own t []) places) ≡ true

-- there is none
pub record NoneNew (own : List (List Bool)) (places : List ℕ) (values : List (List Bool)) (cycles : ℕ) : Type 0 where
  pub each : (t : ℕ) → t < cycles → is_listed values (value_in (slice_index_or own t []) places) ≡ true

abbrev pub found_at : (place count : ℕ) → Option ℕ → Option Novelty
found_at place count None = None
found_at place count (Some cycle) = Some record { place = place; cycle = cycle; count = count }
