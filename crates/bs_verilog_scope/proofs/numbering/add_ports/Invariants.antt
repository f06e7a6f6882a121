use Rattle.std.proofs.Common.{◌≡◌, ◌++◌, map, take}
use Rattle.bs_verilog_scope.specs.Checking.{looked}
use Rattle.bs_verilog_scope.specs.Declaring.{known}
use Rattle.bs_verilog_scope.proofs.numbering.add_ports.Given as goal

abbrev pub invariant-ports : goal.invariant-ports
invariant-ports l = l.nets ≡ l.initial.nets ++ map (known (looked l.scope)) (take l.name-index l.header)
