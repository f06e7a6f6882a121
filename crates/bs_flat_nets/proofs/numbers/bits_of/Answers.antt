use Rattle.std.proofs.Common.{◌∙◌}
use Rattle.bs_flat_nets.proofs.LeftLemmas.{bits_is}
use Rattle.bs_flat_nets.proofs.numbers.bits_of.Goals as goal

pub returns : goal.returns
returns c =
    c.slice.ensures
    ∙ bits_is c.args.blocks.now c.args.bits.now c.args.of c.index-bits-of.result c.requires.bits c.requires.there c.index-bits-of.is
