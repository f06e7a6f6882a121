use Rattle.std.proofs.Common.{◌≡◌, min, take}
use Rattle.bs_flat_meaning.specs.Counts.{tallest}
use Rattle.bs_flat_nets.specs.Tables.{depth_at}
use Rattle.bs_flat_nets.specs.declared.blocks.Child.{Child}
use Rattle.bs_flat_nets.proofs.counts.depth_of.Given as goal

abbrev pub invariant-children : goal.invariant-children
invariant-children l = l.depth ≡ min 257 (tallest (λ (c : Child). depth_at l.depths c.of) (take l.child-index l.children))
