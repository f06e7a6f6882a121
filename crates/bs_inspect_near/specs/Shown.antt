-- What words show of signals: a word a flip-flop, of which bit k belongs to the run with the number first + k + 1.
use Rattle.std.specs.Prelude.{◌≡◌, ◌≢◌, ◌⊎◌, ℕ, ◌<◌, ◌≤◌, ◌+◌, ◌*◌, ◌==◌, ◌&&◌, nat_lt, nat_le, not, Bool, true, List, [], ◌++◌, length, codes}
use Rattle.std.specs.Prelude.{decimal, slice_index_or}
use Rattle.bs_bits.specs.Bits.{bits_eq}
use Rattle.bs_bits.specs.Lines.{line}
use Rattle.bs_net.specs.Circuit.{Circuit}
use Rattle.bs_inspect_view.specs.Rtl.{rtl_text}
use Rattle.bs_inspect_view.specs.Signals.{Signal}
use Rattle.bs_inspect_view.specs.Values.{value_text}
use Rattle.bs_inspect_report.specs.Signal.{signal_bits}
use Rattle.bs_lanes.specs.Planes.{lane}
use Rattle.bs_break.specs.Masks.{has}
use Rattle.bs_scan.specs.Moments.{IsMoment, Moment, Run, is_listed, moment, state_at}
use Rattle.bs_inspect_near.specs.Values.{AreElsewhere, value_at, value_in}
use Rattle.bs_inspect_near.specs.declared.novelty.Novelty.{Novelty}
use Rattle.bs_inspect_near.specs.declared.novelty.TheConstants.{MAX_VALUES}

-- ---- lanes

-- the run of a lane
abbrev pub lane_run : List Run → ℕ → ℕ → Run
lane_run runs first k = slice_index_or runs (first + k) []

-- the words show the state of each run that lasts to a cycle
pub record ShowsWords (c : Circuit) (runs : List Run) (first : ℕ) (words : List ℕ) (cycle : ℕ) : Type 0 where
  pub size : length words ≡ length c.flops
  pub each : (k : ℕ) → k < 64 → first + k < length runs → cycle ≤ length (lane_run runs first k) →
      lane 1 (length c.flops) words k ≡ state_at c (lane_run runs first k) cycle

-- whether a lane has a run that is not the one with a number, and lasts to a cycle
abbrev pub is_viewed : List Run → (first number cycle k : ℕ) → Bool
is_viewed runs first number cycle k =
    nat_lt (first + k) (length runs) && (not (first + k + 1 == number) && nat_le cycle (length (lane_run runs first k)))

-- the lanes that are looked at
pub record IsMask (runs : List Run) (first number cycle mask : ℕ) : Type 0 where
  pub each : (k : ℕ) → k < 64 → has mask k ≡ is_viewed runs first number cycle k

-- ---- values

-- what words show of a signal in a lane
abbrev pub words_value : List ℕ → List ℕ → ℕ → List Bool
words_value places words k = value_in (lane 1 (length words) words k) places

-- the lanes of a mask that show a value
pub record Agrees (words places : List ℕ) (value : List Bool) (mask result : ℕ) : Type 0 where
  pub each : (b : ℕ) → b < 64 → has result b ≡ (has mask b && bits_eq (words_value places words b) value)

-- the lanes of a mask that show none of some values
pub record Misses (values : List (List Bool)) (words places : List ℕ) (mask result : ℕ) : Type 0 where
  pub each : (b : ℕ) → b < 64 → has result b ≡ (has mask b && not (is_listed values (words_value places words b)))

-- each lane of a mask shows one of these values
pub record AllListed (words places : List ℕ) (mask : ℕ) (values : List (List Bool)) : Type 0 where
  pub each : (k : ℕ) → k < 64 → has mask k ≡ true → is_listed values (words_value places words k) ≡ true

-- what was listed stays so
pub record Grows (old new : List (List Bool)) : Type 0 where
  pub longer : length old ≤ length new
  pub listed : (v : List Bool) → is_listed old v ≡ true → is_listed new v ≡ true

-- all values that lanes show are listed, unless there are many
pub record IsFull (words places : List ℕ) (mask : ℕ) (values : List (List Bool)) : Type 0 where
  pub is : length values ≤ MAX_VALUES → AllListed words places mask values

-- values of other runs; all those of the cycles before one, and at this one those of the first runs, unless there are many
pub record IsSet (c : Circuit) (runs : List Run) (number : ℕ) (places : List ℕ) (cycle upto : ℕ) (values : List (List Bool)) : Type 0 where
  pub elsewhere : AreElsewhere c runs number places values
  pub all : length values ≤ MAX_VALUES → (m : Moment) → IsMoment runs m → (m.cycle < cycle) ⊎ ((m.cycle ≡ cycle) × (m.run ≤ upto)) → m.run ≢ number →
      is_listed values (value_at c runs places m.run m.cycle) ≡ true

-- the sets of all signals: with the values of the first runs at a cycle, and those of the first signals with the values of more runs
pub record AreSets (c : Circuit) (runs : List Run) (number : ℕ) (places : List (List ℕ)) (cycle done upto more : ℕ) (sets : List (List (List Bool))) : Type 0 where
  pub long : length sets ≡ length places
  pub first : (i : ℕ) → i < length sets → i < done → IsSet c runs number (slice_index_or places i []) cycle (upto + more) (slice_index_or sets i [])
  pub rest : (i : ℕ) → i < length sets → done ≤ i → IsSet c runs number (slice_index_or places i []) cycle upto (slice_index_or sets i [])

-- no set has a value
pub record AreEmpty (sets : List (List (List Bool))) : Type 0 where
  pub each : (i : ℕ) → i < length sets → slice_index_or sets i [] ≡ []

-- ---- the run itself

-- what is found is of one of so many signals, and at a cycle of the run
pub record IsShowable (runs : List Run) (number count : ℕ) (f : Novelty) : Type 0 where
  pub place : f.place < count
  pub lasts : IsMoment runs (moment number f.cycle)

-- a cycle, a signal with its value in a state, and a number of values
abbrev pub state_line : ℕ → Signal → List Bool → ℕ → List ℕ
state_line cycle s state count =
    line (decimal cycle ++ (codes " " ++ (rtl_text s ++ (codes " = " ++ (value_text (signal_bits state s.places) ++
    (codes ", others " ++ decimal count))))))

-- one word of each plane, behind one another
pub record IsColumn (planes : List ℕ) (wide word : ℕ) (words : List ℕ) : Type 0 where
  pub each : (i : ℕ) → i < length words → slice_index_or words i 0 ≡ slice_index_or planes (i * wide + word) 0
