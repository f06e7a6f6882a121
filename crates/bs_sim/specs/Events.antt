-- What a contract sees of an event simulator, and when its gates can be settled by their changes alone.
use Rattle.std.specs.Prelude.{◌≡◌, ◌≢◌, ℕ, Bool, List, [], ◌∷◌, length, All}
use Rattle.bs_net.specs.declared.net.Gate.{Gate}
use Rattle.bs_net.specs.Netlist.{Checked, circuit}
use Rattle.bs_net.specs.Circuit.{Circuit, Fits, IsSettled, bit_at, next, next_state}
use Rattle.bs_net.specs.Order.{IsLevelled}
use Rattle.bs_sim.specs.Work.{changed_gates}

-- a netlist, its present state, the bits that its nets show, and the number of gates that the last step had to evaluate
pub record Events : Type 0 where
  pub net : Checked
  pub state : List Bool
  pub values : List Bool
  pub work : ℕ

-- the nets show the valuation of some state and input
abbrev pub FitsSome : Circuit → List Bool → Type 0
FitsSome c v = (s : List Bool) × (x : List Bool) × Fits c s x v

-- what holds between two calls
pub record IsEvents (e : Events) (room : ℕ) : Type 0 where
  pub wide : length e.state ≡ length (circuit e.net).flops
  pub at_rest : FitsSome (circuit e.net) e.values
  pub same : room ≡ length e.values

-- no two of the gates drive one net
abbrev pub DriveApart : List Gate → Type 0
DriveApart [] = Unit {0}
DriveApart (g ∷ gs) = All (λ h. h.out.0 ≢ g.out.0) gs × DriveApart gs

-- the gates were settled before, their outputs have not changed since, and each reads no output of itself or a later one
pub record IsReady (before now : List Bool) (gates : List Gate) : Type 0 where
  pub settled : All (IsSettled before) gates
  pub unchanged : All (λ g. bit_at now g.out.0 ≡ bit_at before g.out.0) gates
  pub apart : DriveApart gates
  pub levelled : IsLevelled gates

-- a step from the valuation before to the valuation that fits the state and the input, with the gates that it had to evaluate
pub record Settles (c : Circuit) (s x before now : List Bool) (work : ℕ) : Type 0 where
  pub fits : Fits c s x now
  pub next : next_state c now ≡ next c s x
  pub counted : work ≡ changed_gates c before now
