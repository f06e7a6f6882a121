use Rattle.std.specs.Prelude.{take, All}
use Rattle.bs_watch.specs.Trail.{IsTrueOn}
use Rattle.bs_watch.specs.Places.{literals_of}
use Rattle.bs_solve.specs.FirstLevel.{HasAssumed}
use Rattle.bs_solve.proofs.first_level.assume.Given as goal

abbrev pub invariant-assumptions : goal.invariant-assumptions
invariant-assumptions l = record {
  took : HasAssumed l.initial.watch l.watch l.assumptions;
  stand : All (IsTrueOn (literals_of l.watch.trail.places)) (take l.literal-index l.assumptions);
}
