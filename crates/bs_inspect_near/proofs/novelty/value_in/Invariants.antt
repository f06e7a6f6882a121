use Rattle.std.proofs.Common.{◌≡◌, take}
use Rattle.bs_inspect_near.specs.Values.{value_in}
use Rattle.bs_inspect_near.proofs.novelty.value_in.Given as goal

abbrev pub invariant-places : goal.invariant-places
invariant-places l = l.bits ≡ value_in l.state (take l.place-index l.places)
