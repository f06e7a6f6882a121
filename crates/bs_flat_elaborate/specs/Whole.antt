-- The flat parts together, and the answer for a design.
use Rattle.std.specs.Prelude.{◌≡◌, ℕ, ◌<◌, ◌≤◌, ◌^◌, false, nat_lt, List, length, All, IsTrue}
use Rattle.bs_net.specs.Parts.{Parts, IsFlopPlaced}
use Rattle.bs_net.specs.Gate.{takes}
use Rattle.bs_net.specs.declared.net.Gate.{Gate}
use Rattle.bs_net.specs.declared.limits.TheConstants.{MAX_NETS}
use Rattle.bs_flat_meaning.specs.Design.{Design}
use Rattle.bs_flat_meaning.specs.Flat.{flat_parts}
use Rattle.bs_flat_meaning.specs.Reading.{is_deep, part_count}
use Rattle.bs_flat_meaning.specs.declared.limits.TheConstants.{MAX_PARTS}
use Rattle.bs_flat_nets.specs.Blocks.{design_of}
use Rattle.bs_flat_nets.specs.declared.blocks.FlatModule.{FlatModule}
use Rattle.bs_flat_elaborate.specs.Laid.{IsLaid}
use Rattle.bs_flat_elaborate.specs.Naming.{keys_of, IsNamed}
use Rattle.bs_flat_elaborate.specs.declared.elaboration.NamedDesign.{NamedDesign}

-- a gate whose nets have names, and which has as many inputs as its kind takes
abbrev pub IsGateNamed : ℕ → Gate → Type 0
IsGateNamed count g = (g.out.0 < count) × All (λ n. n.0 < count) g.ins × IsTrue (takes g.kind (length g.ins))

-- there are at most `MAX_NETS` names, and each net has one
pub record AreNamed (p : Parts) : Type 0 where
  pub few : length p.names ≤ MAX_NETS
  pub inputs : All (λ n. n.0 < length p.names) p.inputs
  pub outputs : All (λ n. n.0 < length p.names) p.outputs
  pub consts : All (λ k. k.net.0 < length p.names) p.consts
  pub gates : All (IsGateNamed (length p.names)) p.gates
  pub flops : All (IsFlopPlaced (length p.names)) p.flops

-- there are fewer ports, constants, gates and flip-flops than 2^32, and each gate has fewer inputs
pub record AreShort (p : Parts) : Type 0 where
  pub inputs_few : length p.inputs < 2 ^ 32
  pub outputs_few : length p.outputs < 2 ^ 32
  pub consts_few : length p.consts < 2 ^ 32
  pub gates_few : length p.gates < 2 ^ 32
  pub narrow : All (λ g. length g.ins < 2 ^ 32) p.gates
  pub flops_few : length p.flops < 2 ^ 32

-- a design passes none of the limits but that of its keys
pub record IsSmall (d : Design) : Type 0 where
  pub shallow : is_deep d ≡ false
  pub parts : nat_lt MAX_PARTS (part_count d) ≡ false
  pub nets : nat_lt MAX_NETS (length (flat_parts d).names) ≡ false

-- the nodes, the numbering and the names of a design of blocks
pub record IsMadeOf (blocks : List FlatModule) (number : ℕ) (l : NamedDesign) : Type 0 where
  pub laid : IsLaid blocks l.nodes number l.numbering
  pub named : IsNamed (keys_of (design_of blocks number)) l.named
