use Rattle.std.proofs.Common.{◌≡◌, take, drop}
use Rattle.bs_inspect_near.proofs.states.shifted_back.Given as goal

abbrev pub invariant-bits : goal.invariant-bits
invariant-bits l = l.bits ≡ take l.i (drop 1 l.row)
