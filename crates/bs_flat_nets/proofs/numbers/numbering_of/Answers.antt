use Rattle.std.proofs.Common.{refl}
use Rattle.bs_flat_nets.proofs.PlaceLemmas.{numbering_is}
use Rattle.bs_flat_nets.proofs.numbers.numbering_of.Goals as goal

pub returns-in-Ok : goal.returns-in-Ok
returns-in-Ok c =
    numbering_is c.args.blocks.now c.args._nodes.now c.args._top c.args.nets.tally _ c.requires.design c.requires.nets refl c.requires.bits refl refl
    c.in-Ok.ensures
