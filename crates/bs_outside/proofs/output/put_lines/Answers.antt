use Rattle.std.proofs.Common.{arith}
use Rattle.bs_outside.proofs.Putting.{put_starts, put_more, put_cut, put_all, lines_start, lines_more, lines_cut, lines_end}
use Rattle.bs_outside.proofs.output.put_lines.Goals as goal

pub loop-at-init : goal.loop-at-init
loop-at-init g c = (put_starts _ _ _, lines_start c.requires, omega (arith, c.requires))

pub loop-at-preserved : goal.loop-at-preserved
loop-at-preserved g c = (
  put_more _ _ _ _ _ _ _ _ _ c.loop-at.invariant.0 (omega arith) c.line_end-end.ensures.within c.in-Done.ensures.puts,
  lines_more _ c.loop-at.invariant.1 c.line_end-end.ensures.line c.in-Done.ensures.call,
  omega (arith, c.loop-at.invariant.2, c.line_end-end.ensures.after),
)

pub returns-in-Failed : goal.returns-in-Failed
returns-in-Failed g c =
    let after = lines_cut _ _ c.loop-at.invariant.1 c.line_end-end.ensures.line c.in-Failed.ensures.call in
    record {
      puts = put_cut _ _ _ _ _ _ _ _ _ _ c.loop-at.invariant.0 (omega arith) c.line_end-end.ensures.within c.in-Failed.ensures.puts;
      lines = after.up_to;
      counted = after;
    }

pub returns : goal.returns
returns g c = record {
  puts = put_all _ _ _ _ _ _ c.loop-at.invariant.0 (omega arith);
  lines = lines_end c.loop-at.invariant.1 (omega arith);
  counted = tt;
}
