use Rattle.std.proofs.Common.{◌≡◌, ◌++◌, take}
use Rattle.bs_encode.specs.Assuming.{signed}
use Rattle.bs_encode.proofs.signs.push_signed.Given as goal

abbrev pub invariant-loop-i : goal.invariant-loop-i
invariant-loop-i l = l.into ≡ l.initial.into ++ signed (take l.i l.literals) (take l.i l.bits)
