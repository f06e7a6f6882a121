use Rattle.bs_break.proofs.MaskLemmas.{cut_one, cut_zero}
use Rattle.bs_inspect_near.proofs.unmatched_lanes.cut.Goals as goal

pub returns-then-bit : goal.returns-then-bit
returns-then-bit c = cut_one c.args.mask c.args.word c.args.bit c.if-bit.true

pub returns-else-bit : goal.returns-else-bit
returns-else-bit c = cut_zero c.args.mask c.args.word c.args.bit c.ranges.word.fits c.if-bit.false
