use Rattle.std.proofs.Common.{◌≡◌, map, take}
use Rattle.bs_flat_nets.specs.Free.{free_of_block}
use Rattle.bs_flat_nets.proofs.free.free_of_all.Given as goal

abbrev pub invariant-each : goal.invariant-each
invariant-each l = l.all ≡ map (free_of_block l.blocks) (take l.block-index l.blocks)
