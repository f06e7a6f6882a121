use Rattle.std.proofs.Common.{◌≡◌, ◌++◌, map, take}
use Rattle.bs_bits.specs.Text.{digit_of}
use Rattle.bs_scan.specs.SeenText.{marked}
use Rattle.bs_scan.proofs.seen_text.push_marked.Given as goal

abbrev pub invariant-places : goal.invariant-places
invariant-places l = l.into.items ≡ l.initial.into.items ++ marked l.free (map digit_of (take l.i l.bits))
