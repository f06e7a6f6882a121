use Rattle.std.proofs.Common.{take}
use Rattle.bs_inspect_near.specs.Shown.{Misses}
use Rattle.bs_inspect_near.proofs.unmatched_lanes.misses.Given as goal

abbrev pub invariant-values : goal.invariant-values
invariant-values l = Misses (take l.i l.values) l.words l.places l.mask l.left
