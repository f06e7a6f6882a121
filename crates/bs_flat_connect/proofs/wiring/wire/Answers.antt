use Rattle.std.proofs.Common.{ap, ◌∙◌}
use Rattle.bs_verilog_scope.specs.Declaring.{said}
use Rattle.bs_flat_connect.proofs.wiring.wire.Goals as goal

pub wiring_of-requires-clause-scope : goal.wiring_of-requires-clause-scope
wiring_of-requires-clause-scope c = c.in_ok-scope.ensures ∙ ap said c.slice.ensures
