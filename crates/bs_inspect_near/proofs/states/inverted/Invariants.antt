use Rattle.std.proofs.Common.{◌≡◌, not, map, take}
use Rattle.bs_inspect_near.proofs.states.inverted.Given as goal

abbrev pub invariant-bits : goal.invariant-bits
invariant-bits l = l.bits ≡ map not (take l.i l.row)
