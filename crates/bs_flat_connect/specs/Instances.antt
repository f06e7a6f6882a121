-- The instances of a module with their joined nets, or the first connection that does not go with its port.
use Rattle.std.specs.Prelude.{◌≡◌, ℕ, ◌<◌, List, length, map, Option, slice_index_or, Result}
use Rattle.std.specs.List.{flat_map, AllZip}
use Rattle.bs_verilog_scope.specs.Keys.{text}
use Rattle.bs_flat_meaning.specs.Design.{Instance}
use Rattle.bs_flat_meaning.specs.Connecting as flat
use Rattle.bs_flat_meaning.specs.Reading.{first_of, no_read_module}
use Rattle.bs_flat_meaning.specs.declared.statements.Written.{Written}
use Rattle.bs_flat_nets.specs.Blocks.{instance_of}
use Rattle.bs_flat_nets.specs.declared.blocks.Child.{Child}
use Rattle.bs_flat_modules.specs.declared.owns.Own.{Own}
use Rattle.bs_flat_connect.specs.Wiring.{IsWiringOf}
use Rattle.bs_flat_connect.specs.Ports.{ArePortsOf}
use Rattle.bs_flat_connect.specs.declared.ports.Ports.{Ports}
use Rattle.bs_flat_connect.specs.declared.wiring.Wiring.{Wiring}
use Rattle.bs_flat_connect.specs.Matching.{ArePortsIn}
use Rattle.bs_flat_connect.specs.Joining.{Tells}
use Rattle.bs_flat_connect.specs.declared.fault.Fault.{Fault}

-- the ports of each module
abbrev pub AreAllPorts : List Own → List Ports → Type 0
AreAllPorts owns ps = AllZip ArePortsOf owns ps

-- the module with a number
abbrev pub module_at : List flat.ReadModule → ℕ → flat.ReadModule
module_at ks n = slice_index_or ks n no_read_module

-- the ports are those of the modules
pub record ArePortsOfAll (table : List (List ℕ)) (ks : List flat.ReadModule) (ps : List Ports) : Type 0 where
  pub each : (n : ℕ) (p : Ports) → n < length ps → ArePortsIn table (module_at ks n) (slice_index_or ps n p)

-- the connections of an instance of a module, with their ports
abbrev pub connections_at : List (List ℕ) → flat.ReadModule → Written → List flat.Connected
connections_at table below w = flat.connected (flat.ports_of table below) w.connections

-- the first of them that does not go with its port
abbrev pub fault_at : List (List ℕ) → flat.ReadModule → flat.ReadModule → Written → Option ℕ
fault_at table m below w = first_of (map (flat.connected_fault table m below) (connections_at table below w))

-- an instance of the module with a number
abbrev pub instance_at : List (List ℕ) → flat.ReadModule → flat.ReadModule → ℕ → Written → Instance
instance_at table m below of w =
    record { name = text table w.name; of = of; joins = flat_map (flat.joins_of table m) (connections_at table below w) }

pub record TellsChild (table : List (List ℕ)) (w : Wiring) (p : Ports) (of : ℕ) (one : Written) (result : Result Child Fault) : Type 0 where
  pub is : (m below : flat.ReadModule) → IsWiringOf table m w → ArePortsIn table below p →
      Tells instance_of result (fault_at table m below one) (instance_at table m below of one)

-- the same where each instance is of the module with this number
abbrev pub fault_by : List (List ℕ) → List flat.ReadModule → (Written → ℕ) → flat.ReadModule → Written → Option ℕ
fault_by table ks at m w = fault_at table m (module_at ks (at w)) w

abbrev pub instance_by : List (List ℕ) → List flat.ReadModule → (Written → ℕ) → flat.ReadModule → Written → Instance
instance_by table ks at m w = instance_at table m (module_at ks (at w)) (at w) w

pub record TellsChildren (table : List (List ℕ)) (w : Wiring) (ps : List Ports) (below : List ℕ) (written : List Written)
    (result : Result (List Child) Fault) : Type 0 where
  pub is : (ks : List flat.ReadModule) (at : Written → ℕ) (m : flat.ReadModule) → IsWiringOf table m w → ArePortsOfAll table ks ps →
      below ≡ map at written →
      Tells (λ cs. map instance_of cs) result (first_of (map (fault_by table ks at m) written)) (map (instance_by table ks at m) written)
