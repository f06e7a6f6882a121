use Rattle.std.proofs.Common.{◌≡◌, take}
use Rattle.bs_clause.specs.Resolvent.{without}
use Rattle.bs_clause.proofs.resolution.others.Given as goal

abbrev pub invariant-loop-m : goal.invariant-loop-m
invariant-loop-m l = l.rest ≡ without l.l (take l.m-index l.clause)
