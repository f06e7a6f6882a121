use Rattle.std.proofs.Common.{◌≡◌, ◌++◌, drop}
use Rattle.std.specs.List.{flat_map}
use Rattle.bs_verilog.specs.Netlist.{supply_consts}
use Rattle.bs_verilog.proofs.ports.supplies.Given as goal

abbrev pub invariant-declared : goal.invariant-declared
invariant-declared l =
    l.consts ++ flat_map (supply_consts l.table l.names) (drop l.d-index l.declared) ≡ flat_map (supply_consts l.table l.names) l.declared
