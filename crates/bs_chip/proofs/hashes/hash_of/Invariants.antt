use Rattle.std.proofs.Common.{◌≡◌, take}
use Rattle.bs_chip.specs.Hashes.{hash_of}
use Rattle.bs_chip.proofs.hashes.hash_of.Given as goal

abbrev pub invariant-bits : goal.invariant-bits
invariant-bits l = l.hash ≡ hash_of (take l.i l.bits)
