use Rattle.std.proofs.Common.{take}
use Rattle.bs_solve.specs.FirstLevel.{HasGrown, AllSatisfied}
use Rattle.bs_solve.proofs.first_level.assign_shorts.Given as goal

abbrev pub invariant-shorts : goal.invariant-shorts
invariant-shorts l = record {
  grown : HasGrown l.arena.clauses l.initial.watch l.watch;
  satisfied : AllSatisfied l.arena.clauses l.watch (take l.r-index l.shorts);
}
