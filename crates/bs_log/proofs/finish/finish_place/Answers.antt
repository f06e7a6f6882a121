use Rattle.std.proofs.Common.{◌+◌, sym, ◌∙◌, arith}
use Rattle.bs_log.proofs.Walking.{finish_here, none_more, none_left, ended_more, behind_most}
use Rattle.bs_log.proofs.finish.finish_place.Goals as goal

pub returns-in-Some : goal.returns-in-Some
returns-in-Some c =
    finish_here c.args.lines.now c.lines.i c.in-Some.id (c.lines.ended + 1) c.args.step c.index-lines-i.result c.lines-test.true c.index-lines-i.is
    (sym c.finish_in.ensures ∙ c.in-Some.is) c.lines.invariant.ended

pub lines-preserved : goal.lines-preserved
lines-preserved c =
    let most = behind_most c.index-lines-i.result c.lines.ended in
    record {
      ended =
          ended_more c.args.lines.now c.lines.i c.index-lines-i.result c.lines.ended c.step_behind-ended.result c.lines-test.true c.index-lines-i.is
          c.lines.invariant.ended c.step_behind-ended.ensures;
      none =
          none_more c.args.lines.now c.args.step c.lines.i (c.lines.ended + 1) c.index-lines-i.result c.lines-test.true c.index-lines-i.is
          c.lines.invariant.none c.lines.invariant.ended (sym c.finish_in.ensures ∙ c.in-None.is);
      low = omega (arith, most, c.step_behind-ended.ensures, c.lines.invariant.low);
    }

pub returns : goal.returns
returns c = none_left c.args.lines.now c.args.step c.lines.i c.lines-test.false c.lines.invariant.none
