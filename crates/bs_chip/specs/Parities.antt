-- The signatures of all lanes of some planes, as planes: the parity of each item.
use Rattle.std.specs.Prelude.{◌≡◌, ℕ, ◌<◌, ◌+◌, ◌*◌, ◌/◌, ◌%◌, List, [], map, slice_index_or}
use Rattle.bs_net.specs.Gate.{is_odd}
use Rattle.bs_stim.specs.Packing.{bit_in}
use Rattle.bs_lanes.specs.Planes.{bit_place}
use Rattle.bs_break.specs.Masks.{has}

-- the mask has the lanes of a word in which an odd number of the item's flip-flops is 1
pub record IsParityWord (item planes : List ℕ) (wide word mask : ℕ) : Type 0 where
  pub each : (b : ℕ) → b < 64 → has mask b ≡ is_odd (map (λ flop. bit_in planes (bit_place wide flop (word * 64 + b))) item)

-- the first words of the items' planes have the parities
pub record HaveParities (items : List (List ℕ)) (planes : List ℕ) (wide count : ℕ) (words : List ℕ) : Type 0 where
  pub each : (k : ℕ) → k < count → IsParityWord (slice_index_or items (k / wide) []) planes wide (k % wide) (slice_index_or words k 0)
