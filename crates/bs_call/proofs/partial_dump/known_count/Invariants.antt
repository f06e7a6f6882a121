use Rattle.std.proofs.Common.{◌≡◌, ◌≤◌, length, take}
use Rattle.bs_scan.specs.Seen.{kept}
use Rattle.bs_call.proofs.partial_dump.known_count.Given as goal

abbrev pub invariant-places : goal.invariant-places
invariant-places l = record {
  count : l.count ≡ length (kept l.seen.free (take l.i l.seen.bits));
  small : l.count ≤ l.i;
}
