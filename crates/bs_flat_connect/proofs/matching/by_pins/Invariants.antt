use Rattle.std.proofs.Common.{◌≡◌, ◌++◌, drop, false, nat_eq}
use Rattle.std.specs.HashSet.{contains}
use Rattle.bs_flat_connect.specs.Matching.{pins_from}
use Rattle.bs_flat_connect.proofs.matching.by_pins.Given as goal

abbrev pub invariant-connections : goal.invariant-connections
invariant-connections l =
    pins_from l.ports.ids.keys l.ports.ports (λ id. false) l.connections
    ≡ l.all ++ pins_from l.ports.ids.keys l.ports.ports (λ id. contains nat_eq l.given id) (drop l.connection-index l.connections)
