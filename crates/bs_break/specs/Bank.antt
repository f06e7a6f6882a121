-- A bank of listed states (docs/DEFINITIONS.md, "Bank").
use Rattle.std.specs.Prelude.{◌≡◌, ℕ, ◌<◌, ◌+◌, ◌*◌, ◌≤◌, Bool, false, not, ◌&&◌, List, All, length, filter}
use Rattle.std.specs.List.{range_with_len}
use Rattle.bs_stim.specs.Packing.{bit_in}
use Rattle.bs_lanes.specs.Planes.{lane}
use Rattle.bs_scan.specs.Moments.{is_listed}
use Rattle.bs_break.specs.Masks.{has}
use Rattle.bs_break.specs.Places.{is_shared}

-- the number of bits of a state, and the states
pub record Banked : Type 0 where
  pub width : ℕ
  pub states : List (List Bool)

-- the result has the runs of a word that are live and whose state is listed, and no others
pub record Hits (bank : Banked) (wide : ℕ) (planes : List ℕ) (word live result : ℕ) : Type 0 where
  pub each : (b : ℕ) → b < 64 → has result b ≡ (has live b && is_listed bank.states (lane wide bank.width planes (word * 64 + b)))

-- the same of the planes' words all together: the runs beyond them are no hits
pub record PlaneHits (bank : Banked) (wide : ℕ) (planes live result : List ℕ) : Type 0 where
  pub each : (r : ℕ) → r < 64 * wide → bit_in result r ≡ (bit_in live r && is_listed bank.states (lane wide bank.width planes r))
  pub beyond : (r : ℕ) → 64 * wide ≤ r → bit_in result r ≡ false

-- each state has the width, and the places are parted by whether all states share the bit there
pub record IsBank (width : ℕ) (states : List (List Bool)) (shared others : List ℕ) : Type 0 where
  pub widths : All (λ s. length s ≡ width) states
  pub shared_are : shared ≡ filter (is_shared states) (range_with_len 0 width)
  pub others_are : others ≡ filter (λ i. not (is_shared states i)) (range_with_len 0 width)
