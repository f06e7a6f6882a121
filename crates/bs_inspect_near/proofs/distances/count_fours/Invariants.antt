use Rattle.std.proofs.Common.{◌*◌}
use Rattle.bs_inspect_near.specs.Visited.{IsCount}
use Rattle.bs_inspect_near.proofs.distances.count_fours.Given as goal

abbrev pub invariant-fours : goal.invariant-fours
invariant-fours l = IsCount l.planes l.wide l.word l.seen (4 * l.k) l.digits.items
