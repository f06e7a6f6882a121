use Rattle.std.proofs.Common.{◌+◌, arith}
use Rattle.bs_log.proofs.Walking.{ended_more, block_texts_more, behind_most}
use Rattle.bs_log.proofs.cnf.push_blocks.Goals as goal

pub lines-preserved : goal.lines-preserved
lines-preserved c =
    let most = behind_most c.index-lines-i.result c.lines.ended in
    record {
      ended =
          ended_more c.args.lines.now c.lines.i c.index-lines-i.result c.lines.ended c.step_behind-ended.result c.lines-test.true c.index-lines-i.is
          c.lines.invariant.ended c.step_behind-ended.ensures;
      text =
          block_texts_more c.args.lines.now c.lines.i c.index-lines-i.result (c.lines.ended + 1) c.args.step c.args.text.now.items c.lines.text.items
          c.push_block.new.text.items c.lines-test.true c.index-lines-i.is c.lines.invariant.ended c.lines.invariant.text c.in_ok-push_block.ensures;
      low = omega (arith, most, c.step_behind-ended.ensures, c.lines.invariant.low);
    }
