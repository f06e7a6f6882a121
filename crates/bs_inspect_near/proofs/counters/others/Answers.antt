use Rattle.bs_inspect_near.proofs.CounterLemmas.{other_one, other_zero}
use Rattle.bs_inspect_near.proofs.counters.others.Goals as goal

pub returns-then-bit : goal.returns-then-bit
returns-then-bit c = other_one c.args.word c.args.bit c.ranges.word.fits c.if-bit.true

pub returns-else-bit : goal.returns-else-bit
returns-else-bit c = other_zero c.args.word c.args.bit c.if-bit.false
