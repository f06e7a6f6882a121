use Rattle.std.proofs.Common.{◌≡◌, take}
use Rattle.bs_inspect_check.specs.Text.{known_bits}
use Rattle.bs_inspect_check.proofs.levels.known_bits.Given as goal

abbrev pub invariant-places : goal.invariant-places
invariant-places l = l.bits.items ≡ known_bits l.levels (take l.place-index l.places)
