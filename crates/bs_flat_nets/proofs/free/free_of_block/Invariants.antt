use Rattle.std.proofs.Common.{◌≡◌, map, take}
use Rattle.bs_flat_nets.specs.Free.{free_of_child}
use Rattle.bs_flat_nets.proofs.free.free_of_block.Given as goal

abbrev pub invariant-each : goal.invariant-each
invariant-each l = l.all ≡ map (free_of_child l.blocks) (take l.child-index l.block.children)
