use Rattle.std.proofs.Common.{◌≡◌, ◌+◌, min, take}
use Rattle.bs_flat_meaning.specs.Counts.{sum_of}
use Rattle.bs_flat_nets.specs.Tables.{count_at}
use Rattle.bs_flat_nets.specs.declared.blocks.Child.{Child}
use Rattle.bs_flat_nets.proofs.counts.count_of.Given as goal

abbrev pub invariant-children : goal.invariant-children
invariant-children l = l.count ≡ min 400002 (l.own + sum_of (λ (c : Child). count_at l.counts c.of) (take l.child-index l.children))
