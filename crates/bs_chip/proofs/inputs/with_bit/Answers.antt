use Rattle.bs_chip.proofs.InputLemmas.{bit_wanted}
use Rattle.bs_chip.proofs.inputs.with_bit.Goals as goal

pub returns-then-wanted : goal.returns-then-wanted
returns-then-wanted c = bit_wanted c.args.mask c.args.bit c.args.wanted c.requires c.if-wanted.true
