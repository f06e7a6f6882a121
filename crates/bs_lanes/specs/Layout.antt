-- Where the planes of the nets lie, and a netlist's parts with places for nets.
use Rattle.std.specs.Prelude.{◌≡◌, ℕ, ◌<◌, ◌≤◌, ◌+◌, ◌*◌, ◌/◌, ◌%◌, ◌^◌, Bool, false, List, ◌++◌, length, map, slice_index_or, All, IsTrue}
use Rattle.std.specs.List.{range_with_len}
use Rattle.bs_net.specs.declared.net.NetId.{NetId}
use Rattle.bs_net.specs.declared.net.Gate.{Gate}
use Rattle.bs_net.specs.declared.net.Const.{Const}
use Rattle.bs_net.specs.declared.net.Flop.{Flop}
use Rattle.bs_net.specs.declared.net.Mode.{Mode}
use Rattle.bs_net.specs.declared.net.Mode.TheVariants.{Plain, Enable, Clear}
use Rattle.bs_net.specs.Circuit.{Circuit}
use Rattle.bs_net.specs.Order.{gates_in, IsChecked, IsOrder}
use Rattle.bs_net.specs.Parts.{ArePlaced, IsFlopPlaced}
use Rattle.bs_net.specs.Gate.{takes}
use Rattle.bs_net.specs.Steps.{Step, puts, constant_step, gate_write}
use Rattle.bs_lanes.specs.Planes.{lane}
use Rattle.bs_lanes.specs.Settling.{HasPlane, HasFlop, RunsAll}
use Rattle.bs_lanes.specs.Program.{program_gates, HasGate}
use Rattle.bs_lanes.specs.declared.layout.Layout.{Layout}

-- the place of a net's plane
abbrev pub place_of : List ℕ → ℕ → ℕ
place_of places n = slice_index_or places n 0

-- each net has a place below the number of planes, and no two nets share one
pub record IsPlacing (nets planes : ℕ) (places : List ℕ) : Type 0 where
  pub size : length places ≡ nets
  pub few : planes < 2 ^ 32
  pub below : All (λ p. p < planes) places
  pub apart : (m n : ℕ) → m < nets → n < nets → place_of places m ≡ place_of places n → m ≡ n

-- a net stands at a place of a list
pub record IsListed (listed : List ℕ) (place n : ℕ) : Type 0 where
  pub within : place < length listed
  pub here : slice_index_or listed place 0 ≡ n

-- a list has got at most one member more, behind the others
pub record Grows (old new : List ℕ) : Type 0 where
  pub more : length old ≤ length new
  pub few : length new ≤ length old + 1
  pub same : (i : ℕ) → i < length old → slice_index_or new i 0 ≡ slice_index_or old i 0

-- each of the first nets stands at its place of a list
abbrev pub AreListed : List ℕ → List ℕ → Type 0
AreListed listed places = (n : ℕ) → n < length places → IsListed listed (place_of places n) n

-- a net, a gate, a constant and a flip-flop by the places of their planes
abbrev pub placed_net : List ℕ → NetId → NetId
placed_net places n = record { 0 = place_of places n.0 }

abbrev pub placed_gate : List ℕ → Gate → Gate
placed_gate places g = record { kind = g.kind; out = placed_net places g.out; ins = map (placed_net places) g.ins }

abbrev pub placed_const : List ℕ → Const → Const
placed_const places k = record { net = placed_net places k.net; value = k.value }

abbrev pub placed_mode : List ℕ → Mode → Mode
placed_mode places Plain = Plain
placed_mode places (Enable e) = Enable (placed_net places e)
placed_mode places (Clear r) = Clear (placed_net places r)

abbrev pub placed_flop : List ℕ → Flop → Flop
placed_flop places f =
    record {
      q = placed_net places f.q;
      d = placed_net places f.d;
      ck = placed_net places f.ck;
      reset = f.reset;
      mode = placed_mode places f.mode;
    }

-- the gates with these numbers, by the places of their planes
abbrev pub placed_gates : List ℕ → List ℕ → List Gate → List Gate
placed_gates places order gates = map (placed_gate places) (gates_in order gates)

-- a gate whose nets have numbers below a bound, and as many inputs as its kind takes
abbrev pub IsGateOf : ℕ → Gate → Type 0
IsGateOf count g = (g.out.0 < count) × ArePlaced count g.ins × IsTrue (takes g.kind (length g.ins))

-- the bits of the nets, where a valuation tells the bits of the planes
abbrev pub unplaced : List ℕ → List Bool → List Bool
unplaced places v = map (λ p. slice_index_or v p false) places

-- the planes of the nets, one net behind another
abbrev pub words_by_net : ℕ → List ℕ → List ℕ → List ℕ
words_by_net wide places words =
    map (λ k. slice_index_or words (place_of places (k / wide) * wide + k % wide) 0) (range_with_len 0 (length places * wide))

-- the nets of a circuit's parts have numbers below the number of its nets
pub record AreInside (c : Circuit) : Type 0 where
  pub inputs : All (λ n. n.0 < c.nets) c.inputs
  pub flops : All (IsFlopPlaced c.nets) c.flops
  pub consts : All (λ k. k.net.0 < c.nets) c.constants
  pub gates : All (IsGateOf c.nets) c.gates

-- a layout has a checked circuit's parts with places for nets, and its gates in an order in which each stands behind those that it reads
pub record IsLayout (c : Circuit) (l : Layout) : Type 0 where
  pub checked : IsChecked c
  pub inside : AreInside c
  pub placing : IsPlacing c.nets l.planes l.places
  pub inputs : l.inputs ≡ map (placed_net l.places) c.inputs
  pub outputs : l.outputs ≡ map (λ f. placed_net l.places f.q) c.flops
  pub flops : l.flops ≡ map (placed_flop l.places) c.flops
  pub consts : l.consts ≡ map (placed_const l.places) c.constants
  pub order : List ℕ
  pub ordered : IsOrder c.gates order
  pub gates : program_gates l.program ≡ placed_gates l.places order c.gates

-- the words have the planes of a layout
pub record HasLayout (wide : ℕ) (words : List ℕ) (l : Layout) : Type 0 where
  pub inputs : All (λ n. HasPlane wide words n.0) l.inputs
  pub outputs : All (λ n. HasPlane wide words n.0) l.outputs
  pub flops : All (HasFlop wide words) l.flops
  pub consts : All (λ k. HasPlane wide words k.net.0) l.consts
  pub gates : All (HasGate wide words) (program_gates l.program)

-- the writes that settle a layout
abbrev pub layout_steps : Layout → List Bool → List Bool → List Step
layout_steps l s x =
    puts l.inputs x ++ (puts l.outputs s ++ (map constant_step l.consts ++ map gate_write (program_gates l.program)))

-- in each lane the writes of a settling have been made, under the lane's own state and input
abbrev pub SettlesAll : ℕ → Layout → List ℕ → List ℕ → List ℕ → List ℕ → Type 0
SettlesAll wide l flops inputs old new =
    RunsAll wide (λ r. layout_steps l (lane wide (length l.outputs) flops r) (lane wide (length l.inputs) inputs r)) old new
