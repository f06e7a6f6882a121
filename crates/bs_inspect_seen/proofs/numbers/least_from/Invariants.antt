use Rattle.std.proofs.Common.{◌≡◌, ◌∷◌, take}
use Rattle.bs_inspect_seen.specs.Given.{least}
use Rattle.bs_inspect_seen.proofs.numbers.least_from.Given as goal

abbrev pub invariant-numbers : goal.invariant-numbers
invariant-numbers l = l.least ≡ least (l.first ∷ take l.number-index l.numbers)
