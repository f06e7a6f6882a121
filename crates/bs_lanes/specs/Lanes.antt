-- What a contract sees of a simulator of many runs, and what each call does in each lane.
use Rattle.std.specs.Prelude.{◌≡◌, ℕ, ◌<◌, ◌*◌, ◌==◌, Bool, false, ◌||◌, List, length, replicate, IsTrue}
use Rattle.bs_net.specs.Circuit.{Fits, IsZeroed, next, reset_state}
use Rattle.bs_net.specs.Netlist.{Checked, circuit}
use Rattle.bs_lanes.specs.Planes.{lane}

-- a netlist, how many words a plane has, the planes of the flip-flops, and the planes of the nets, each plane one behind another
pub record LaneTable : Type 0 where
  pub net : Checked
  pub wide : ℕ
  pub flops : List ℕ
  pub nets : List ℕ

-- the present state of a lane; lanes are counted from 0, so lane r is run r + 1
abbrev pub state_in : LaneTable → ℕ → List Bool
state_in l r = lane l.wide (length (circuit l.net).flops) l.flops r

-- the bits that the nets show in a lane
abbrev pub shown_in : LaneTable → ℕ → List Bool
shown_in l r = lane l.wide (circuit l.net).nets l.nets r

-- the input of a lane, where some planes show the data inputs
abbrev pub input_in : LaneTable → List ℕ → ℕ → List Bool
input_in l inputs r = lane l.wide (length (circuit l.net).inputs) inputs r

-- how many words a plane may have
abbrev pub is_wide : ℕ → Bool
is_wide n = (n == 1) || ((n == 2) || (n == 4))

-- what holds between two calls
pub record IsLaneTable (l : LaneTable) : Type 0 where
  pub wide : IsTrue (is_wide l.wide)
  pub flops : length l.flops ≡ length (circuit l.net).flops * l.wide
  pub nets : length l.nets ≡ (circuit l.net).nets * l.wide
  pub zeroed : (r : ℕ) → r < 64 * l.wide → IsZeroed (circuit l.net) (shown_in l r)

-- the same netlist, and planes as wide
pub record IsSameTable (old new : LaneTable) : Type 0 where
  pub net : new.net ≡ old.net
  pub wide : new.wide ≡ old.wide

-- each lane is at reset, and its nets show the valuation of the reset state and the input of zeros
pub record AreReset (l : LaneTable) : Type 0 where
  pub state : (r : ℕ) → r < 64 * l.wide → state_in l r ≡ reset_state (circuit l.net)
  pub fits : (r : ℕ) → r < 64 * l.wide → Fits (circuit l.net) (reset_state (circuit l.net)) (replicate (length (circuit l.net).inputs) false) (shown_in l r)

-- each lane takes one clock edge under its own input, whatever the other lanes do, and its nets show the valuation that was settled
-- before the edge
pub record AreStepped (old new : LaneTable) (inputs : List ℕ) : Type 0 where
  pub state : (r : ℕ) → r < 64 * old.wide → state_in new r ≡ next (circuit old.net) (state_in old r) (input_in old inputs r)
  pub fits : (r : ℕ) → r < 64 * old.wide → Fits (circuit old.net) (state_in old r) (input_in old inputs r) (shown_in new r)
