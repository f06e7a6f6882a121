use Rattle.std.proofs.Common.{◌≡◌, map, take}
use Rattle.bs_verilog_syntax.proofs.declarations.names_of.Given as goal

abbrev pub invariant-ports : goal.invariant-ports
invariant-ports l = l.names ≡ map (λ p. p.name) (take l.port-index l.ports)
