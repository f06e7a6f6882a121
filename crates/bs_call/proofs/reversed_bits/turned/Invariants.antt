use Rattle.std.proofs.Common.{◌≡◌, take, reverse}
use Rattle.bs_call.proofs.reversed_bits.turned.Given as goal

abbrev pub invariant-bits : goal.invariant-bits
invariant-bits l = l.turned ≡ take l.i (reverse l.bits)
