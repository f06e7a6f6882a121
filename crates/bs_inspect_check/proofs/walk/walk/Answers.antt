use Rattle.std.proofs.Common.{arith, refl, ◌∙◌}
use Rattle.std.proofs.lemmas.Result.{err_from_is_err_and}
use Rattle.bs_inspect_check.specs.Tallies.{watch_in}
use Rattle.bs_inspect_check.proofs.WalkLemmas.{counted_more, ended_fits, left_less, line_fits, walk_ends, walk_faulty, walk_more}
use Rattle.bs_inspect_check.proofs.walk.walk.Goals as goal

pub moments-init : goal.moments-init
moments-init c = record {
  whole = refl;
  circuit = refl;
  run = refl;
  small = c.requires.small;
  counted = omega (arith, c.requires.none);
  lines = c.requires.lines;
}

pub walk_moment-requires-clause-lines : goal.walk_moment-requires-clause-lines
walk_moment-requires-clause-lines c = line_fits c.moments.at c.in-Some.spot c.in-Some.is c.moments.invariant.lines

pub walk_moment-requires-clause-ended : goal.walk_moment-requires-clause-ended
walk_moment-requires-clause-ended c = ended_fits _ _ _ c.moments.invariant.counted c.requires.short

pub returns-in_err-at-clause-is : goal.returns-in_err-at-clause-is
returns-in_err-at-clause-is c =
    let p = err_from_is_err_and c.from_residual.result c.from_residual.ensures.1 in
    rw (p.1, p.2)
    (walk_faulty c.args.sources.clock c.args.sources.flops.now c.args.replay.now.circuit c.moments.replay.circuit c.args.replay.now.run c.moments.replay.run _
    (watch_in c.moments.watch c.moments.replay.state) c.moments.at c.in-Some.spot _ c.moments.invariant.circuit c.moments.invariant.run
    c.moments.invariant.whole c.in-Some.is c.in_err-at.ensures.is)

pub moments-smaller : goal.moments-smaller
moments-smaller c = left_less c.moments.at c.in_ok-at.at c.in-Some.spot c.in-Some.is c.in_ok-at.ensures.less

pub moments-preserved : goal.moments-preserved
moments-preserved c = record {
  whole =
      walk_more c.args.sources.clock c.args.sources.flops.now c.args.replay.now.circuit c.moments.replay.circuit c.args.replay.now.run c.moments.replay.run _
      (watch_in c.moments.watch c.moments.replay.state) (watch_in c.walk_moment.new.watch c.walk_moment.new.replay.state) c.moments.at c.in_ok-at.at c.in-Some.spot
      c.moments.invariant.circuit c.moments.invariant.run c.moments.invariant.whole c.in-Some.is c.in_ok-at.ensures.is;
  circuit = c.walk_moment.ensures.circuit ∙ c.moments.invariant.circuit;
  run = c.walk_moment.ensures.run ∙ c.moments.invariant.run;
  small = c.in_ok-at.ensures.small;
  counted = counted_more _ _ _ c.moments.at c.in_ok-at.at c.in-Some.spot c.in-Some.is c.moments.invariant.counted c.in_ok-at.ensures.one c.in_ok-at.ensures.less;
  lines = c.in_ok-at.ensures.lines;
}

pub returns-clause-is : goal.returns-clause-is
returns-clause-is c =
    walk_ends c.args.sources.clock c.args.sources.flops.now c.args.replay.now.circuit c.args.replay.now.run _
    (watch_in c.moments.watch c.moments.replay.state) c.moments.at c.moments.invariant.whole c.in_default.is
