-- The planes of the data inputs at a cycle.
use Rattle.std.specs.Prelude.{◌≡◌, ◌≢◌, ℕ, ◌<◌, ◌≤◌, ◌+◌, ◌-◌, ◌*◌, ◌/◌, ◌%◌, Bool, true, false, ◌||◌, List, [], length, slice_index_or}
use Rattle.bs_net.specs.Circuit.{Circuit}
use Rattle.bs_lanes.specs.Planes.{lane}
use Rattle.bs_scan.specs.Moments.{Run, run_of}
use Rattle.bs_break.specs.Masks.{has}
use Rattle.bs_chip.specs.Live.{lasts}
use Rattle.bs_chip.specs.Lockstep.{wide_of}

-- a mask has one more bit where it is wanted, and else the same bits
pub record HasBit (old new bit : ℕ) (wanted : Bool) : Type 0 where
  pub here : has new bit ≡ (has old bit || wanted)
  pub others : (b : ℕ) → b < 64 → b ≢ bit → has new b ≡ has old b

-- a mask has, for each lane of a word that lasts to the next cycle, the bit of a data input at a cycle
pub record IsInputWord (runs : List Run) (cycle word place mask : ℕ) : Type 0 where
  pub each : (b : ℕ) → b < 64 → lasts runs (cycle + 1) (word * 64 + b) ≡ true →
      has mask b ≡ slice_index_or (slice_index_or (run_of runs (word * 64 + b + 1)) cycle []) place false

-- the first words of the planes of the data inputs have the bits of a cycle
pub record HaveInputs (runs : List Run) (cycle wide count : ℕ) (words : List ℕ) : Type 0 where
  pub each : (k : ℕ) → k < count → IsInputWord runs cycle (k % wide) (k / wide) (slice_index_or words k 0)

-- the lane of each run that lasts to the next cycle has the input of the run at a cycle
pub record AreInputs (c : Circuit) (runs : List Run) (cycle : ℕ) (planes : List ℕ) : Type 0 where
  pub size : length planes ≡ length c.inputs * wide_of (length runs)
  pub each : (r : ℕ) → 1 ≤ r → r ≤ length runs → cycle < length (run_of runs r) →
      lane (wide_of (length runs)) (length c.inputs) planes (r - 1) ≡ slice_index_or (run_of runs r) cycle []
