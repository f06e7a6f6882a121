use Rattle.std.proofs.Common.{◌≡◌, ◌++◌, drop}
use Rattle.bs_flat_connect.specs.Matching.{places_from}
use Rattle.bs_flat_connect.proofs.matching.by_places.Given as goal

abbrev pub invariant-connections : goal.invariant-connections
invariant-connections l = places_from l.ports.ports 0 l.connections ≡ l.all ++ places_from l.ports.ports l.place (drop l.place l.connections)
