use Rattle.std.proofs.Common.{◌≡◌, ◌++◌, map, take, drop}
use Rattle.bs_verilog_scope.specs.Checking.{looked}
use Rattle.bs_flat_connect.specs.Ports.{ports_in}
use Rattle.bs_flat_connect.proofs.ports.header_ports.Given as goal

abbrev pub invariant-names : goal.invariant-names
invariant-names l =
    (l.ports.ids.keys ≡ map (λ n. n.id) (take l.name-index l.header))
    × (l.ports.ports ++ ports_in (looked l.scope) l.first (drop l.name-index l.header) ≡ ports_in (looked l.scope) 0 l.header)
