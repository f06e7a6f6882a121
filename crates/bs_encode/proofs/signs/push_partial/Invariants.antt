use Rattle.std.proofs.Common.{◌≡◌, ◌++◌, take}
use Rattle.bs_scan.specs.Seen.{kept}
use Rattle.bs_encode.specs.Assuming.{signed}
use Rattle.bs_encode.proofs.signs.push_partial.Given as goal

abbrev pub invariant-loop-i : goal.invariant-loop-i
invariant-loop-i l = l.into ≡ l.initial.into ++ signed (kept l.seen.free (take l.i l.literals)) (kept l.seen.free (take l.i l.seen.bits))
