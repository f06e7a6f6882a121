use Rattle.std.proofs.Common.{◌≡◌, take}
use Rattle.bs_scan.specs.Seen.{kept}
use Rattle.bs_inspect_near.proofs.states.known_bits.Given as goal

abbrev pub invariant-places : goal.invariant-places
invariant-places l = l.known ≡ kept l.seen.free (take l.i l.seen.bits)
