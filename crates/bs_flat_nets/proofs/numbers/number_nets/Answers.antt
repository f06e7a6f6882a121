use Rattle.bs_flat_nets.proofs.WeightLemmas.{consts_placed}
use Rattle.bs_flat_nets.proofs.numbers.number_nets.Goals as goal

pub all_bits-requires : goal.all_bits-requires
all_bits-requires c = consts_placed c.args.blocks.now c.args.top c.requires.design
