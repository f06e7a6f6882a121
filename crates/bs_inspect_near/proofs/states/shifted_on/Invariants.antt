use Rattle.std.proofs.Common.{◌≡◌, ◌∷◌, take}
use Rattle.bs_inspect_near.proofs.states.shifted_on.Given as goal

abbrev pub invariant-bits : goal.invariant-bits
invariant-bits l = l.bits ≡ l.bit ∷ take l.i l.row
