use Rattle.std.proofs.Common.{◌≡◌, take}
use Rattle.bs_scan.specs.Seen.{kept}
use Rattle.bs_scan.proofs.seen.Seen.known_of.Given as goal

abbrev pub invariant-places : goal.invariant-places
invariant-places l = l.known ≡ kept l.self.free (take l.i l.state)
