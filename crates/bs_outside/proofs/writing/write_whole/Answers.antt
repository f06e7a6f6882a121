use Rattle.std.proofs.Common.{arith}
use Rattle.bs_outside.proofs.WriteLemmas.{writing_more}
use Rattle.bs_outside.proofs.writing.write_whole.Goals as goal

pub loop-at-preserved : goal.loop-at-preserved
loop-at-preserved g c = (
  writing_more _ c.loop-at.invariant.0 (omega (arith, c.loop-at-test.true)) c.write_piece-count.ensures.within c.write_piece-count.ensures.bytes,
  c.loop-at.invariant.1,
)
