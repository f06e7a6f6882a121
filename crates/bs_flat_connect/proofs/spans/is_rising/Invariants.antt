use Rattle.std.proofs.Common.{◌≡◌}
use Rattle.bs_verilog_scope.specs.Nets.{nets_of}
use Rattle.bs_verilog_scope.proofs.NumberLemmas.{keys_to}
use Rattle.bs_flat_connect.specs.Wiring.{side_by_side}
use Rattle.bs_flat_connect.proofs.spans.is_rising.Given as goal

abbrev pub invariant-bits : goal.invariant-bits
invariant-bits l = side_by_side l.first l.bit ≡ nets_of l.keys (keys_to l.name l.range l.bit)
