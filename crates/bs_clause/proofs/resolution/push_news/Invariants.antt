use Rattle.std.proofs.Common.{◌≡◌, ◌++◌, take}
use Rattle.bs_clause.specs.Resolvent.{news}
use Rattle.bs_clause.proofs.resolution.push_news.Given as goal

abbrev pub invariant-loop-m : goal.invariant-loop-m
invariant-loop-m l = l.into ≡ l.fn.into ++ news l.fn.into (take l.m-index l.clause)
