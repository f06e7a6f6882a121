use Rattle.std.proofs.Common.{◌≡◌, ◌++◌, map, take}
use Rattle.bs_flat_nets.specs.Blocks.{design_of}
use Rattle.bs_flat_nets.specs.Climbing.{path_in}
use Rattle.bs_flat_elaborate.specs.Parts.{flop_on}
use Rattle.bs_flat_elaborate.proofs.flops.add_flops.Given as goal

abbrev pub invariant-flops : goal.invariant-flops
invariant-flops l = l.all ≡ l.initial.all ++ map (flop_on (design_of l.blocks l.top) (path_in (design_of l.blocks l.top) l.node)) (take l.flop-index l.flops)
