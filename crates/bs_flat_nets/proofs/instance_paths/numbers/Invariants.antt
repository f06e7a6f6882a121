use Rattle.std.proofs.Common.{◌≡◌, take}
use Rattle.bs_flat_nets.specs.Blocks.{numbers_of}
use Rattle.bs_flat_nets.proofs.instance_paths.numbers.Given as goal

abbrev pub invariant-each : goal.invariant-each
invariant-each l = l.all ≡ numbers_of (take l.child-index l.children)
