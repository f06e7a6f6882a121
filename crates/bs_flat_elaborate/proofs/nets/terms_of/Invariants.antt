use Rattle.std.proofs.Common.{◌≡◌, map, take}
use Rattle.bs_flat_meaning.specs.Flat.{flat_net}
use Rattle.bs_flat_nets.specs.Blocks.{design_of}
use Rattle.bs_flat_nets.specs.Climbing.{path_in}
use Rattle.bs_flat_elaborate.proofs.nets.terms_of.Given as goal

abbrev pub invariant-nets : goal.invariant-nets
invariant-nets l = l.all ≡ map (flat_net (design_of l.blocks l.top) (path_in (design_of l.blocks l.top) l.node)) (take l.net-index l.nets)
