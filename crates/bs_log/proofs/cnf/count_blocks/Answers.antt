use Rattle.std.proofs.Common.{◌+◌, refl, arith}
use Rattle.bs_log.proofs.Walking.{ended_more, count_more, behind_most}
use Rattle.bs_log.proofs.cnf.count_blocks.Goals as goal

pub lines-preserved : goal.lines-preserved
lines-preserved c =
    let most = behind_most c.index-lines-i.result c.lines.ended in
    record {
      ended =
          ended_more c.args.lines.now c.lines.i c.index-lines-i.result c.lines.ended c.step_behind-ended.result c.lines-test.true c.index-lines-i.is
          c.lines.invariant.ended c.step_behind-ended.ensures;
      count =
          count_more c.args.lines.now c.lines.i c.index-lines-i.result (c.lines.ended + 1) c.args.step c.lines.count c.blocks_at-count.result
          (c.lines.count + c.blocks_at-count.result) c.lines-test.true c.index-lines-i.is c.lines.invariant.ended c.lines.invariant.count
          c.blocks_at-count.ensures.count refl;
      few = omega (arith, c.blocks_at-count.ensures.few, c.lines.invariant.few);
      low = omega (arith, most, c.step_behind-ended.ensures, c.lines.invariant.low);
    }
