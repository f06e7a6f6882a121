use Rattle.std.proofs.Common.{◌≡◌, map, take}
use Rattle.bs_scan.specs.Signature.{parity_of}
use Rattle.bs_chip.specs.Hashes.{hash_of}
use Rattle.bs_preimage_recorded.proofs.groups.parity_hash.Given as goal

abbrev pub invariant-groups : goal.invariant-groups
invariant-groups l = l.hash ≡ hash_of (map (parity_of l.bits) (take l.i l.groups))
