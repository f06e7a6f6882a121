use Rattle.std.proofs.Common.{◌≡◌, map, take}
use Rattle.bs_inspect_notes.specs.Nearest.{at_distance}
use Rattle.bs_inspect_notes.proofs.distance.at_distance.Given as goal

abbrev pub invariant-names : goal.invariant-names
invariant-names l = map (λ n. n.now) l.found.items ≡ at_distance l.name l.distance (map (λ n. n.now) (take l.other-index l.names))
