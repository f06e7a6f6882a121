use Rattle.std.proofs.Common.{◌≡◌, take, map}
use Rattle.bs_flat_nets.specs.Blocks.{own_of}
use Rattle.bs_flat_nets.specs.Constants.{known_constants}
use Rattle.bs_flat_nets.specs.declared.blocks.FlatModule.{FlatModule}
use Rattle.bs_flat_nets.proofs.constants.all_bits.Given as goal

abbrev pub invariant-each : goal.invariant-each
invariant-each l = l.all ≡ map (λ (b : FlatModule). known_constants (own_of b)) (take l.block-index l.blocks)
