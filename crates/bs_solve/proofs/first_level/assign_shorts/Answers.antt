use Rattle.std.proofs.Common.{subst, refl, length}
use Rattle.std.proofs.lemmas.Option.{slice_get_read}
use Rattle.bs_solve.specs.FirstLevel.{IsShortAssigned}
use Rattle.bs_solve.proofs.FirstLevels.{grown_trans, satisfied_next}
use Rattle.bs_solve.proofs.first_level.assign_shorts.Goals as goal

pub returns-then-assign_short-clause-grown : goal.returns-then-assign_short-clause-grown
returns-then-assign_short-clause-grown c =
    grown_trans c.args.arena.now.clauses c.args.watch.now c.shorts.watch c.assign_short.new.watch c.shorts.invariant.grown c.assign_short.ensures.grown

pub shorts-preserved : goal.shorts-preserved
shorts-preserved c = record {
  grown = grown_trans c.args.arena.now.clauses c.args.watch.now c.shorts.watch c.assign_short.new.watch c.shorts.invariant.grown c.assign_short.ensures.grown;
  satisfied =
      satisfied_next c.args.arena.now.clauses c.shorts.watch c.assign_short.new.watch c.args.shorts.now c.shorts.r-index c.r-item.result c.assign_short.ensures.grown
      c.shorts.invariant.satisfied
      (slice_get_read c.args.shorts.now (length c.args.shorts.now) c.shorts.r-index c.r-item.result refl c.shorts-test.true c.r-item.is)
      (subst (IsShortAssigned c.args.arena.now.clauses c.assign_short.new.watch c.r-item.result) c.if-assign_short.false c.assign_short.ensures.satisfied);
}
