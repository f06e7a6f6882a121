-- What is known of nets in one state, under two inputs in which one data input has the same value.
use Rattle.std.specs.Prelude.{◌≡◌, ℕ, ◌<◌, Bool, false, List, length, All, slice_index_or}
use Rattle.bs_net.specs.declared.net.NetId.{NetId}
use Rattle.bs_net.specs.declared.net.Flop.{Flop}
use Rattle.bs_net.specs.Circuit.{Circuit, Fits, bit_at}
use Rattle.bs_sim.specs.declared.mark.Mark.{Mark}
use Rattle.bs_sim.specs.Marks.{Hold}

-- the flip-flops show the same in both
abbrev pub ShowSame : List Flop → List Bool → List Bool → Type 0
ShowSame flops v w = All (λ f. bit_at v f.q.0 ≡ bit_at w f.q.0) flops

-- the net of an input, if there is one, shows a bit in both
pub record ShowInput (nets : List NetId) (input : ℕ) (value : Bool) (v w : List Bool) : Type 0 where
  pub each : (default : NetId) → input < length nets →
      (bit_at v (slice_index_or nets input default).0 ≡ value) × (bit_at w (slice_index_or nets input default).0 ≡ value)

-- the marks of all nets of a circuit hold of any two valuations that fit one state and inputs in which this one has the value
pub record AreMarked (c : Circuit) (input : ℕ) (value : Bool) (marks : List Mark) : Type 0 where
  pub size : length marks ≡ c.nets
  pub each : (state a b v w : List Bool) → Fits c state a v → Fits c state b w → slice_index_or a input false ≡ value →
      slice_index_or b input false ≡ value → Hold marks v w
