-- Planes that are written one after another: in each lane the writes of a settling.
use Rattle.std.specs.Prelude.{◌≡◌, ℕ, ◌<◌, ◌≤◌, ◌+◌, ◌*◌, Bool, List, [], length, map, All}
use Rattle.bs_net.specs.declared.net.NetId.{NetId}
use Rattle.bs_net.specs.declared.net.Flop.{Flop}
use Rattle.bs_net.specs.Circuit.{loaded}
use Rattle.bs_net.specs.Parts.{mode_nets}
use Rattle.bs_net.specs.Steps.{Step, run}
use Rattle.bs_stim.specs.Packing.{bit_in}
use Rattle.bs_lanes.specs.Planes.{bit_place, lane}

-- the bit of a net in a lane
abbrev pub net_bit : ℕ → List ℕ → ℕ → NetId → Bool
net_bit wide words r n = bit_in words (bit_place wide n.0 r)

-- the words have a plane of the net
abbrev pub HasPlane : ℕ → List ℕ → ℕ → Type 0
HasPlane wide words n = n * wide + wide ≤ length words

-- the words have the planes by which a flip-flop loads, and that of its output
abbrev pub HasFlop : ℕ → List ℕ → Flop → Type 0
HasFlop wide words f = HasPlane wide words f.q.0 × HasPlane wide words f.d.0 × All (λ n. HasPlane wide words n.0) (mode_nets f.mode)

-- the bit that a flip-flop loads in a lane
abbrev pub lane_loads : ℕ → List ℕ → ℕ → Flop → Bool
lane_loads wide words r f = loaded (lane wide (length words) words r) f

-- in each lane, what is left to write makes of what is there now what all writes make of what was there
pub record RunsTo (wide : ℕ) (left whole : ℕ → List Step) (old now : List ℕ) : Type 0 where
  pub size : length now ≡ length old
  pub each : (count r : ℕ) → length old ≡ count * wide → r < 64 * wide → run (left r) (lane wide count now r) ≡ run (whole r) (lane wide count old r)

-- in each lane all writes have been made
abbrev pub RunsAll : ℕ → (ℕ → List Step) → List ℕ → List ℕ → Type 0
RunsAll wide whole old new = RunsTo wide (λ r. []) whole old new

-- each flip-flop has loaded its bit, in each lane
pub record LoadsAll (wide : ℕ) (nets : List ℕ) (flops : List Flop) (old new : List ℕ) : Type 0 where
  pub size : length new ≡ length old
  pub each : (r : ℕ) → r < 64 * wide → lane wide (length flops) new r ≡ map (lane_loads wide nets r) flops

-- each flip-flop has its bit at reset, in each lane
pub record ResetsAll (wide : ℕ) (flops : List Flop) (old new : List ℕ) : Type 0 where
  pub size : length new ≡ length old
  pub each : (r : ℕ) → r < 64 * wide → lane wide (length flops) new r ≡ map (λ f. f.reset) flops
