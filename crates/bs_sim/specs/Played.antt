-- What a contract sees of a schedule of gate steps, and what its plays answer.
use Rattle.std.specs.Prelude.{◌≡◌, ℕ, ◌<◌, Bool, false, List, length, slice_index_or, All}
use Rattle.bs_net.specs.Netlist.{Checked, circuit}
use Rattle.bs_net.specs.declared.net.Gate.{Gate}
use Rattle.bs_net.specs.Circuit.{Circuit, Fits, Shows, IsSettled, bit_at}
use Rattle.bs_net.specs.Order.{no_gate}
use Rattle.bs_sim.specs.declared.schedule.Settled.{Settled}
use Rattle.bs_sim.specs.declared.schedule.Settled.TheVariants.{Quiet, Unstable}

-- a netlist, and the bits that its nets show
pub record Played : Type 0 where
  pub net : Checked
  pub values : List Bool

-- the nets show some state and input, the constants, and 0 on the zero nets
abbrev pub ShowsSome : Circuit → List Bool → Type 0
ShowsSome c v = (s : List Bool) × (x : List Bool) × Shows c s x v

-- what holds between two calls
abbrev pub IsPlayed : Played → Type 0
IsPlayed p = ShowsSome (circuit p.net) p.values

-- gate i is the lowest whose output differs from its value
pub record IsFirstUnsettled (gates : List Gate) (v : List Bool) (i : ℕ) : Type 0 where
  pub placed : i < length gates
  pub differs : IsSettled v (slice_index_or gates i no_gate) → ⊥
  pub lowest : (k : ℕ) → k < i → IsSettled v (slice_index_or gates k no_gate)

-- every gate's output shows 0
abbrev pub OutputsAreZero : Circuit → List Bool → Type 0
OutputsAreZero c v = (j : ℕ) → j < length c.gates → bit_at v (slice_index_or c.gates j no_gate).out.0 ≡ false

-- what an answer says of the nets: every gate's output shows its value, or the lowest gate whose output does not
abbrev pub IsQuietness : List Gate → List Bool → Settled → Type 0
IsQuietness gates v Quiet = All (IsSettled v) gates
IsQuietness gates v (Unstable i) = IsFirstUnsettled gates v i

-- what a quiet answer says of the state and input that the nets showed before: the nets now show the one valuation that fits them
pub record FitsIfQuiet (c : Circuit) (before now : List Bool) (answer : Settled) : Type 0 where
  pub fits : answer ≡ Quiet → (s x : List Bool) → Shows c s x before → Fits c s x now

-- the state and the input that the nets show are the same as before
pub record KeepsSources (c : Circuit) (before now : List Bool) : Type 0 where
  pub shows : (s x : List Bool) → Shows c s x before → Shows c s x now
