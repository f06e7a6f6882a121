-- Every net of what a module builds has a name, however long its parts are.
use Rattle.std.proofs.Common.{◌≡◌, ℕ, ◌<◌, ◌≤◌, List, length, Ok, Err, Result, refl}
use Rattle.std.proofs.lemmas.List.Elements.{All-weaker}
use Rattle.bs_net.specs.declared.net.NetId.{NetId}
use Rattle.bs_net.specs.declared.net.Gate.{Gate}
use Rattle.bs_net.specs.Parts.{Parts}
use Rattle.bs_verilog_syntax.specs.declared.fault.VerilogFault.{VerilogFault}
use Rattle.bs_verilog_syntax.specs.declared.tree.Module.{Module}
use Rattle.bs_verilog_syntax.specs.declared.tree.Direction.TheVariants as directions
use Rattle.bs_bits.specs.Reading.{◌>>=◌}
use Rattle.bs_verilog_scope.specs.Declaring.{said, known_nets}
use Rattle.bs_verilog_scope.specs.Nets.{numbered}
use Rattle.bs_verilog.specs.declared.building.Built.{Built}
use Rattle.bs_verilog.specs.Building.{with_parts}
use Rattle.bs_verilog.specs.Netlist.{port_nets, start_of, parts_with, built_of}
use Rattle.bs_verilog.specs.Placement.{AreWithin}
use Rattle.bs_verilog.proofs.PlacementLemmas.{GateUnder, module_built}
use Rattle.bs_flat_meaning.specs.Flat.{HasNets}

-- a gate whose nets have names
abbrev GateNamed : ℕ → Gate → Type 0
GateNamed count g = (g.out.0 < count) × AreWithin count g.ins

-- what a module builds whose declarations are in order
pub record IsWholeBuilt (table : List (List ℕ)) (m : Module) (parts : Parts) : Type 0 where
  pub nets : HasNets parts
  pub grows : length (numbered table (known_nets m)) ≤ length parts.names

finished : (table : List (List ℕ)) (m : Module) (after : Built) → with_parts table (said m.declared) (start_of table m) m.parts ≡ Ok after
    → IsWholeBuilt table m (parts_with after (port_nets directions.Input table (said m.declared) (start_of table m).made.names m.header)
    (port_nets directions.Output table (said m.declared) (start_of table m).made.names m.header))
finished table m after e =
    let built = module_built ⊥ table m after (λ l. absurd l) (λ l. absurd l) e in
    let b = built.builds.building in
    let count : ℕ = length after.made.names in
    record {
      nets =
          record {
            inputs = built.inputs_within;
            outputs = built.outputs_within;
            consts = b.placing.consts_within;
            gates = All-weaker (GateUnder ⊥ count) (GateNamed count) (λ g w. (w.0, w.1)) after.gates b.gates_within;
            flops = b.flops_within;
          };
      grows = built.builds.grows;
    }

pub built_whole : (table : List (List ℕ)) (m : Module) (parts : Parts) → built_of table m ≡ Ok parts → IsWholeBuilt table m parts
unfolding built_of
built_whole table m parts e = by (with_parts table (said m.declared) (start_of table m) m.parts) refl e
  where
    ins : List NetId
    ins = port_nets directions.Input table (said m.declared) (start_of table m).made.names m.header

    outs : List NetId
    outs = port_nets directions.Output table (said m.declared) (start_of table m).made.names m.header

    by : (r : Result Built VerilogFault) → with_parts table (said m.declared) (start_of table m) m.parts ≡ r
        → (r >>= λ b. Ok (parts_with b ins outs)) ≡ Ok parts → IsWholeBuilt table m parts
    by (Err fault) is x = absurd cc
    by (Ok after) is x =
        let same : parts_with after ins outs ≡ parts = cc in
        rw (← same) (finished table m after is)
