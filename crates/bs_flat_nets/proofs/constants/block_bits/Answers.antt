use Rattle.std.proofs.Common.{◌∙◌, length}
use Rattle.bs_flat_meaning.specs.Flat.{constant_bit}
use Rattle.bs_flat_nets.specs.Blocks.{own_of}
use Rattle.bs_flat_nets.proofs.BitLemmas.{entries_are}
use Rattle.bs_flat_nets.proofs.constants.block_bits.Goals as goal

pub returns : goal.returns
returns c =
    c.in_ok-bits.ensures
    ∙ entries_are (constant_bit (own_of c.args.block.now)) (length (own_of c.args.block.now).names) c.as_slice.result.now
    (c.as_slice.ensures.value ∙ c.in_ok-table.ensures)
