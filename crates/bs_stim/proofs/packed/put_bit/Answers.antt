use Rattle.bs_stim.proofs.PackingLemmas.{has_put_one, has_put_zero}
use Rattle.bs_stim.proofs.packed.put_bit.Goals as goal

pub returns-then-bit : goal.returns-then-bit
returns-then-bit c =
    has_put_one c.args.words.now.items c.args.place c.index-word.result.now c.args.bit c.requires.room c.index-word.ensures c.if-bit.true

pub returns-else-bit : goal.returns-else-bit
returns-else-bit c = has_put_zero c.args.words.now.items c.args.place c.args.bit c.requires.clear c.if-bit.false
