use Rattle.bs_chip.proofs.LaneLemmas.{bit_of_word}
use Rattle.bs_chip.proofs.lanes.bit_of.Goals as goal

pub returns : goal.returns
returns c = bit_of_word c.args.words.now c.args.at c.args.low c.requires.low
