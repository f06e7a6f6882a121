use Rattle.std.proofs.Common.{◌≡◌, min, fold, drop}
use Rattle.bs_inspect_notes.specs.Nearest.{far}
use Rattle.bs_inspect_notes.proofs.distance.least_from.Given as goal

abbrev pub invariant-names : goal.invariant-names
invariant-names l =
    fold (λ d n. min d (far l.name n.now)) l.least (drop l.other-index l.names) ≡ fold (λ d n. min d (far l.name n.now)) l.first l.names
