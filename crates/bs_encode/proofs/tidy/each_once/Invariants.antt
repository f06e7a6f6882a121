use Rattle.std.proofs.Common.{◌≡◌, take}
use Rattle.bs_clause.specs.Resolvent.{once}
use Rattle.bs_encode.proofs.tidy.each_once.Given as goal

abbrev pub invariant-loop-l : goal.invariant-loop-l
invariant-loop-l l = l.once ≡ once (take l.l-index l.clause)
