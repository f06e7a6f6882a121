use Rattle.std.proofs.Common.{◌≡◌, ◌++◌, drop}
use Rattle.bs_verilog_scope.specs.Checking.{looked}
use Rattle.bs_verilog.specs.Netlist.{port_nets}
use Rattle.bs_verilog.proofs.ports.port_nets.Given as goal

abbrev pub invariant-ports : goal.invariant-ports
invariant-ports l =
    l.ports ++ port_nets l.direction l.table (looked l.scope) l.names (drop l.name-index l.header)
    ≡ port_nets l.direction l.table (looked l.scope) l.names l.header
