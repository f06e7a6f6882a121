use Rattle.std.proofs.Common.{◌≡◌, map, take}
use Rattle.bs_inspect_notes.specs.Nearest.{offered}
use Rattle.bs_inspect_notes.proofs.distance.offered.Given as goal

abbrev pub invariant-names : goal.invariant-names
invariant-names l = map (λ n. n.now) l.found.items ≡ offered l.name (map (λ n. n.now) (take l.other-index l.names))
