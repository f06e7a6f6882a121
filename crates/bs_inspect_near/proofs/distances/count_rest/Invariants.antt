use Rattle.bs_inspect_near.specs.Visited.{IsCount}
use Rattle.bs_inspect_near.proofs.distances.count_rest.Given as goal

abbrev pub invariant-places : goal.invariant-places
invariant-places l = IsCount l.planes l.wide l.word l.seen l.i l.digits.items
