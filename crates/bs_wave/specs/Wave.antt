-- The wave of a trace (docs/DEFINITIONS.md, "Wave"): each net's value at each moment.
use Rattle.std.specs.Prelude.{◌≡◌, ℕ, ◌+◌, ◌<◌, ◌==◌, Bool, true, false, ◌||◌, List, [], ◌++◌, map, length, All, IsTrue, slice_index_or}
use Rattle.std.specs.List.{list_any}
use Rattle.bs_net.specs.declared.net.NetId.{NetId}
use Rattle.bs_net.specs.Circuit.{Circuit, Fits, number, state_nets, is_zero_net}
use Rattle.bs_net.specs.Netlist.{circuit_of}
use Rattle.bs_net.specs.Parts.{Parts}
use Rattle.bs_wave.specs.declared.value.Value.{Value}
use Rattle.bs_wave.specs.declared.value.Value.TheVariants.{Zero, One, Unknown}
use Rattle.bs_wave.specs.declared.wave.Wave.{Wave}

-- the value of a bit
abbrev pub value_of : Bool → Value
value_of false = Zero
value_of true = One

-- the value that a moment gives to a net
abbrev pub value_at : List Value → ℕ → Value
value_at values n = slice_index_or values n Unknown

-- the values of some nets
abbrev pub values_on : List Value → List NetId → List Value
values_on values nets = map (λ n. value_at values n.0) nets

-- whether a net's value is settled before any input comes: a flip-flop shows the state, a constant its bit, a zero net 0
abbrev pub is_decided : Circuit → ℕ → Bool
is_decided c n = is_zero_net c n || list_any (λ m. n == m) (map number (state_nets c) ++ map (λ k. k.net.0) c.constants)

-- a moment with an input: each net has its value in the valuation that fits the state and the input
pub record IsSettledMoment (c : Circuit) (s x : List Bool) (values : List Value) : Type 0 where
  pub valuation : List Bool
  pub fits : Fits c s x valuation
  pub shows : values ≡ map value_of valuation

-- a moment without an input: flip-flops show the state, constants their bits, zero nets 0, and every other net is unknown
pub record IsLastMoment (c : Circuit) (s : List Bool) (values : List Value) : Type 0 where
  pub every_net : length values ≡ c.nets
  pub state : values_on values (state_nets c) ≡ map value_of s
  pub constants : All (λ k. value_at values k.net.0 ≡ value_of k.value) c.constants
  pub zeros : (n : ℕ) → n < c.nets → IsTrue (is_zero_net c n) → value_at values n ≡ Zero
  pub others : (n : ℕ) → n < c.nets → is_decided c n ≡ false → value_at values n ≡ Unknown

-- There is a moment for each state of a trace, which has one more than inputs. The last state has no input.
pub record AreMoments (c : Circuit) (states inputs : List (List Bool)) (moments : List (List Value)) : Type 0 where
  pub count : length moments ≡ length inputs + 1
  pub settled : (i : ℕ) → i < length inputs →
      IsSettledMoment c (slice_index_or states i []) (slice_index_or inputs i []) (slice_index_or moments i [])
  pub last : IsLastMoment c (slice_index_or states (length inputs) []) (slice_index_or moments (length inputs) [])

-- the wave of a trace: the keys are the nets' in net order, and the moments the trace's
pub record IsWaveOf (raw : Parts) (states inputs : List (List Bool)) (wave : Wave) : Type 0 where
  pub keys : wave.keys ≡ raw.names
  pub moments : AreMoments (circuit_of raw) states inputs wave.moments

-- each state has a bit for each flip-flop, each input one for each data input, and there is one state more than inputs
pub record IsWayOf (c : Circuit) (states inputs : List (List Bool)) : Type 0 where
  pub one_more : length states ≡ length inputs + 1
  pub state_widths : All (λ s. length s ≡ length c.flops) states
  pub input_widths : All (λ x. length x ≡ length c.inputs) inputs
