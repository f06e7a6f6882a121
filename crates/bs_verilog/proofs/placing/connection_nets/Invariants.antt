use Rattle.std.proofs.Common.{◌≡◌, drop}
use Rattle.bs_verilog_scope.specs.Checking.{looked}
use Rattle.bs_verilog.specs.Building.{each, with_connection, connection_nets}
use Rattle.bs_verilog.proofs.placing.connection_nets.Given as goal

abbrev pub invariant-connections : goal.invariant-connections
invariant-connections l =
    each (with_connection l.table (looked l.scope)) (l.nets.items, l.made) (drop l.c-index l.cs)
    ≡ connection_nets l.table (looked l.scope) l.cs l.initial.made
