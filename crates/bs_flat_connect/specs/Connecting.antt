-- The modules of a design with their joined nets, or the first connection that does not go with its port.
use Rattle.std.specs.Prelude.{◌≡◌, ℕ, List, [], ◌++◌, map, zip, Option, Result, String, string_bytes}
use Rattle.std.specs.declared.alloc.Global.{Global}
use Rattle.bs_bits.specs.Reading.{Answers}
use Rattle.bs_net.specs.declared.net.Const.{Const}
use Rattle.bs_flat_meaning.specs.declared.fault.FlatFault.{FlatFault}
use Rattle.bs_flat_meaning.specs.declared.fault.FlatFault.TheVariants.{NoMemory as want, Connect}
use Rattle.bs_flat_meaning.specs.declared.statements.Written.{Written}
use Rattle.bs_flat_meaning.specs.Design.{Module}
use Rattle.bs_flat_meaning.specs.Pieces.{Piece, name_id}
use Rattle.bs_flat_meaning.specs.Connecting as flat
use Rattle.bs_flat_meaning.specs.Reading.{gathered, first_of, connected_modules}
use Rattle.bs_flat_nets.specs.Blocks.{module_of}
use Rattle.bs_flat_nets.specs.declared.blocks.FlatModule.{FlatModule}
use Rattle.bs_flat_nets.specs.declared.blocks.Child.{Child}
use Rattle.bs_flat_modules.specs.Owns.{module_and_parts}
use Rattle.bs_flat_modules.specs.Reading.{read_modules_of}
use Rattle.bs_flat_modules.specs.declared.owns.Own.{Own}
use Rattle.bs_flat_modules.specs.declared.owns.Modules.{Modules}
use Rattle.bs_flat_connect.specs.Wiring.{read_of}
use Rattle.bs_flat_connect.specs.declared.ports.Ports.{Ports}
use Rattle.bs_flat_connect.specs.declared.wiring.Wiring.{Wiring}
use Rattle.bs_flat_connect.specs.Instances.{ArePortsOfAll, fault_by, instance_by}
use Rattle.bs_flat_connect.specs.Joining.{Tells}
use Rattle.bs_flat_connect.specs.declared.fault.Fault.{Fault}
use Rattle.bs_flat_connect.specs.declared.fault.Fault.TheVariants.{At, NoMemory}

-- the blocks are the modules of a design whose connections go with their ports; or the first that does not is told
pub record ConnectsTo (table : List (List ℕ)) (ids : List (Option ℕ)) (modules : Modules) (result : Result (List FlatModule) FlatFault) : Type 0 where
  pub is : (ms : List Piece) → map name_id ms ≡ ids →
      Answers want (λ bs. map module_of bs) result (connected_modules table ms (read_modules_of modules))

-- ---- what inner functions promise each other

-- a module with these nets and instances, and no parts yet
abbrev pub without_parts : List (String Global) → List Const → List Child → FlatModule
without_parts names consts children =
    record {
      names = names;
      inputs = [];
      outputs = [];
      consts = consts;
      gates = [];
      flops = [];
      children = children;
    }

-- a block with a module's own parts behind its own
abbrev pub with_parts : FlatModule → Own → FlatModule
with_parts block own =
    record {
      names = block.names;
      inputs = block.inputs ++ own.parts.inputs;
      outputs = block.outputs ++ own.parts.outputs;
      consts = block.consts;
      gates = block.gates ++ own.parts.gates;
      flops = block.flops ++ own.parts.flops;
      children = block.children;
    }

-- a module with its nets and its instances
pub record IsMade (own : Own) (w : Wiring) (cs : List Child) (b : FlatModule) : Type 0 where
  pub names : map string_bytes b.names ≡ w.keys
  pub consts : b.consts ≡ w.consts
  pub inputs : b.inputs ≡ own.parts.inputs
  pub outputs : b.outputs ≡ own.parts.outputs
  pub gates : b.gates ≡ own.parts.gates
  pub flops : b.flops ≡ own.parts.flops
  pub children : b.children ≡ cs

-- the first connection of a module that does not go with its port, where each instance is of the module with this number
abbrev pub fault_in : List (List ℕ) → List flat.ReadModule → (Written → ℕ) → flat.ReadModule → Option ℕ
fault_in table ks at m = first_of (map (fault_by table ks at m) m.written)

abbrev pub module_by : List (List ℕ) → List flat.ReadModule → (Written → ℕ) → flat.ReadModule → Module
module_by table ks at m = record { own = flat.whole_parts table m; instances = map (instance_by table ks at m) m.written }

pub record TellsBlock (table : List (List ℕ)) (ps : List Ports) (below : List ℕ) (own : Own) (written : List Written)
    (result : Result FlatModule Fault) : Type 0 where
  pub is : (ks : List flat.ReadModule) (at : Written → ℕ) → ArePortsOfAll table ks ps → below ≡ map at written →
      Tells module_of result (fault_in table ks at (read_of own written)) (module_by table ks at (read_of own written))

-- modules as they were read
abbrev pub reads : List Own → List (List Written) → List flat.ReadModule
reads owns written = map gathered (zip (map module_and_parts owns) written)

pub record TellsBlocks (table : List (List ℕ)) (ps : List Ports) (below : List (List ℕ)) (owns : List Own) (written : List (List Written))
    (result : Result (List FlatModule) Fault) : Type 0 where
  pub is : (ks : List flat.ReadModule) (at : Written → ℕ) → ArePortsOfAll table ks ps → below ≡ map (map at) written →
      Tells (λ bs. map module_of bs) result (first_of (map (fault_in table ks at) (reads owns written))) (map (module_by table ks at) (reads owns written))

-- a refusal as one of a text
abbrev pub fault_of : Fault → FlatFault
fault_of (At place) = Connect place
fault_of NoMemory = want

-- the same of all modules
pub record Connects (table : List (List ℕ)) (below : List (List ℕ)) (modules : Modules) (result : Result (List FlatModule) Fault) : Type 0 where
  pub is : (at : Written → ℕ) → below ≡ map (map at) modules.written → let ks = read_modules_of modules in
      Tells (λ bs. map module_of bs) result (first_of (map (fault_in table ks at) ks)) (map (module_by table ks at) ks)
