use Rattle.std.proofs.Common.{◌≡◌}
use Rattle.bs_verilog_scope.specs.Nets.{nets_of}
use Rattle.bs_verilog_scope.proofs.NumberLemmas.{keys_to}
use Rattle.bs_verilog_scope.proofs.nets.bit_nets.Given as goal

abbrev pub invariant-bits : goal.invariant-bits
invariant-bits l = l.nets.items ≡ nets_of l.names (keys_to l.name l.range l.bit)
