use Rattle.std.proofs.Common.{◌≡◌, ◌++◌, drop}
use Rattle.bs_verilog_syntax.specs.Declarations as declarations
use Rattle.bs_verilog_syntax.proofs.declarations.carried.Given as goal

abbrev pub invariant-ports : goal.invariant-ports
invariant-ports l =
    l.declared ++ declarations.carried l.before (drop l.port-index l.ports) ≡ declarations.carried declarations.nothing_said l.fn.ports
