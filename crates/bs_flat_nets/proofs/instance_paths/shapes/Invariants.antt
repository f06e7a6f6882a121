use Rattle.std.proofs.Common.{◌≡◌, take, map}
use Rattle.bs_flat_nets.specs.Blocks.{shape_of}
use Rattle.bs_flat_nets.proofs.instance_paths.shapes.Given as goal

abbrev pub invariant-each : goal.invariant-each
invariant-each l = l.all ≡ map shape_of (take l.block-index l.blocks)
