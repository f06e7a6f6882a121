-- Every net of what is built has a name: what the parts of a netlist keep.
use Rattle.std.specs.Prelude.{ℕ, ◌<◌, ◌≤◌, ◌^◌, ◌≡◌, List, length, Option, Ok, All, IsTrue}
use Rattle.bs_net.specs.declared.limits.TheConstants.{MAX_NETS}
use Rattle.bs_net.specs.declared.net.NetId.{NetId}
use Rattle.bs_net.specs.declared.net.Gate.{Gate}
use Rattle.bs_net.specs.declared.net.Const.{Const}
use Rattle.bs_net.specs.Parts.{ArePlaced, IsFlopPlaced}
use Rattle.bs_net.specs.Gate.{takes}
use Rattle.bs_verilog_syntax.specs.declared.tree.Component.{Component}
use Rattle.bs_verilog.specs.declared.building.Built.{Built}
use Rattle.bs_lex.specs.declared.lexeme.Name.{Name}
use Rattle.bs_verilog_syntax.specs.declared.tree.Says.{Says}
use Rattle.bs_verilog_syntax.specs.declared.tree.Direction.TheVariants as directions
use Rattle.bs_verilog.specs.Building.{with_parts}
use Rattle.bs_verilog.specs.Netlist.{port_nets}

-- each net is below the count of names
abbrev pub AreWithin : ℕ → List NetId → Type 0
AreWithin count nets = All (λ n. n.0 < count) nets

abbrev pub ConstsWithin : ℕ → List Const → Type 0
ConstsWithin count consts = All (λ k. k.net.0 < count) consts

abbrev pub GateWithin : ℕ → Gate → Type 0
GateWithin count g = (g.out.0 < count) × ArePlaced count g.ins × IsTrue (takes g.kind (length g.ins))

abbrev pub IsBuiltWithin : Built → Type 0
IsBuiltWithin b =
    (length b.made.names ≤ MAX_NETS)
    × ConstsWithin (length b.made.names) b.made.consts
    × All (GateWithin (length b.made.names)) b.gates
    × All (IsFlopPlaced (length b.made.names)) b.flops

-- each part has fewer than 2^32 connections
abbrev pub AreShort : List Component → Type 0
AreShort parts = All (λ p. length p.connections < 2 ^ 32) parts

-- what is built and its ports keep what a netlist keeps
pub record IsFinished (b : Built) (ins outs : List NetId) : Type 0 where
  pub parts_within : IsBuiltWithin b
  pub inputs_within : AreWithin (length b.made.names) ins
  pub outputs_within : AreWithin (length b.made.names) outs

-- whatever the parts build will keep it
pub record WillFinish (table : List (List ℕ)) (scope : ℕ → Option Says) (header : List Name) (parts : List Component) (start : Built) : Type 0 where
  pub is :
      (after : Built) → with_parts table scope start parts ≡ Ok after
      → IsFinished after (port_nets directions.Input table scope start.made.names header) (port_nets directions.Output table scope start.made.names header)
