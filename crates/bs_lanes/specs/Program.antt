-- Gates in stretches: those of one kind that have two inputs each and write one plane after another, and others. Their nets are places.
use Rattle.std.specs.Prelude.{◌≡◌, ◌≢◌, ℕ, ◌<◌, ◌≤◌, ◌+◌, ◌^◌, Bool, true, false, List, [], ◌∷◌, length, take, All, IsTrue}
use Rattle.std.specs.List.{flat_map}
use Rattle.bs_net.specs.declared.net.Gate.{Gate}
use Rattle.bs_net.specs.declared.gate.Kind.{Kind}
use Rattle.bs_net.specs.declared.gate.Kind.TheVariants.{And, Nand, Or, Nor, Xor, Xnor}
use Rattle.bs_net.specs.Gate.{takes}
use Rattle.bs_lanes.specs.Settling.{HasPlane}
use Rattle.bs_lanes.specs.declared.pairs.Pair.{Pair}
use Rattle.bs_lanes.specs.declared.program.GateStretch.{GateStretch}
use Rattle.bs_lanes.specs.declared.program.GateStretch.TheVariants.{Pairs, Others}

-- a gate of two inputs
abbrev pub pair_gate : Kind → ℕ → Pair → Gate
pair_gate kind out p = record { kind = kind; out = record { 0 = out }; ins = record { 0 = p.a } ∷ record { 0 = p.b } ∷ [] }

-- whether two kinds are the same, and one of two inputs or more
abbrev pub same_kind : Kind → Kind → Bool
same_kind And And = true
same_kind Nand Nand = true
same_kind Or Or = true
same_kind Nor Nor = true
same_kind Xor Xor = true
same_kind Xnor Xnor = true
same_kind _ _ = false

-- the gate is no such gate of two inputs, of this kind and with its output at this place
pub record IsNoPair (kind : Kind) (out : ℕ) (g : Gate) : Type 0 where
  pub none : (p : Pair) → pair_gate kind out p ≢ g

-- gates of two inputs whose outputs stand one behind another
abbrev pub pair_gates : Kind → ℕ → List Pair → List Gate
pair_gates kind start [] = []
pair_gates kind start (p ∷ ps) = pair_gate kind start p ∷ pair_gates kind (start + 1) ps

-- the gates of a stretch
abbrev pub stretch_gates : GateStretch → List Gate
stretch_gates (Pairs kind start ps) = pair_gates kind start ps
stretch_gates (Others gates) = gates

-- the gates of some stretches
abbrev pub program_gates : List GateStretch → List Gate
program_gates stretches = flat_map stretch_gates stretches

-- the pairs are the first of these gates
pub record ArePairs (gates : List Gate) (kind : Kind) (start : ℕ) (pairs : List Pair) : Type 0 where
  pub few : length pairs ≤ length gates
  pub first : pair_gates kind start pairs ≡ take (length pairs) gates

-- some gates are the first of these, at least one
pub record AreFirst (gates firsts : List Gate) : Type 0 where
  pub some : 0 < length firsts
  pub few : length firsts ≤ length gates
  pub first : firsts ≡ take (length firsts) gates

-- the stretch has the first of these gates, so many, at least one
pub record IsFirst (gates : List Gate) (stretch : GateStretch) (count : ℕ) : Type 0 where
  pub some : 0 < count
  pub few : count ≤ length gates
  pub first : stretch_gates stretch ≡ take count gates

-- the words have the planes of a gate, which has as many inputs as its kind takes
pub record HasGate (wide : ℕ) (words : List ℕ) (g : Gate) : Type 0 where
  pub out : HasPlane wide words g.out.0
  pub small : g.out.0 < 2 ^ 32
  pub ins : All (λ n. HasPlane wide words n.0) g.ins
  pub taken : IsTrue (takes g.kind (length g.ins))
