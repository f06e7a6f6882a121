use Rattle.std.proofs.Common.{length, subst, refl, arith}
use Rattle.std.proofs.lemmas.List.{take_all}
use Rattle.bs_watch.specs.Trail.{IsTrueOn}
use Rattle.bs_watch.specs.Places.{literals_of}
use Rattle.std.specs.Prelude.{All}
use Rattle.std.proofs.lemmas.Option.{slice_get_read}
use Rattle.bs_watch.proofs.Gets.{Contains_from_get}
use Rattle.bs_solve.specs.FirstLevel.{IsAssumed}
use Rattle.bs_solve.proofs.FirstLevels.{assumed_trans, assumed_next}
use Rattle.bs_solve.proofs.first_level.assume.Goals as goal

pub assumptions-preserved : goal.assumptions-preserved
assumptions-preserved c =
    let at = slice_get_read c.args.assumptions.now (length c.args.assumptions.now) c.assumptions.literal-index c.literal-item.result refl
    c.assumptions-test.true
    c.literal-item.is in
    record {
      took = assumed_trans c.args.watch.now c.assumptions.watch c.assume_one.new.watch c.args.assumptions.now c.literal-item.result
          c.assumptions.invariant.took (Contains_from_get c.args.assumptions.now c.assumptions.literal-index c.literal-item.result at)
          c.assume_one.ensures.took;
      stand = assumed_next c.assumptions.watch c.assume_one.new.watch c.args.assumptions.now c.assumptions.literal-index c.literal-item.result
          c.assume_one.ensures.took c.assumptions.invariant.stand at
          (subst (IsAssumed c.assume_one.new.watch c.literal-item.result) c.if-assume_one.false c.assume_one.ensures.stands);
    }

pub returns-then-assume_one-clause-took : goal.returns-then-assume_one-clause-took
returns-then-assume_one-clause-took c =
    let at = slice_get_read c.args.assumptions.now (length c.args.assumptions.now) c.assumptions.literal-index c.literal-item.result refl
    c.assumptions-test.true
    c.literal-item.is in
    assumed_trans c.args.watch.now c.assumptions.watch c.assume_one.new.watch c.args.assumptions.now c.literal-item.result
    c.assumptions.invariant.took (Contains_from_get c.args.assumptions.now c.assumptions.literal-index c.literal-item.result at) c.assume_one.ensures.took

pub returns-then-assume_one-clause-ends : goal.returns-then-assume_one-clause-ends
returns-then-assume_one-clause-ends c =
    let at = slice_get_read c.args.assumptions.now (length c.args.assumptions.now) c.assumptions.literal-index c.literal-item.result refl
    c.assumptions-test.true
    c.literal-item.is in (
      Contains_from_get c.args.assumptions.now c.assumptions.literal-index c.literal-item.result at,
      subst (IsAssumed c.assume_one.new.watch c.literal-item.result) c.if-assume_one.true c.assume_one.ensures.stands,
    )

pub returns-clause-ends : goal.returns-clause-ends
returns-clause-ends c =
    subst (All (IsTrueOn (literals_of c.assumptions.watch.trail.places)))
    (take_all c.assumptions.literal-index c.args.assumptions.now (omega (arith, c.assumptions-test.false))) c.assumptions.invariant.stand
