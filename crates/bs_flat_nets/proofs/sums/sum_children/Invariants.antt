use Rattle.std.proofs.Common.{◌≡◌, ◌+◌, min, take, map, get_or}
use Rattle.bs_flat_meaning.specs.Counts.{sum_of}
use Rattle.bs_flat_nets.specs.Blocks.{instance_of, module_of}
use Rattle.bs_flat_nets.specs.Sums.{weight_in}
use Rattle.bs_flat_nets.specs.declared.blocks.Child.{Child}
use Rattle.bs_flat_nets.proofs.sums.sum_children.Given as goal

abbrev pub invariant-each : goal.invariant-each
invariant-each l = l.sum ≡ min 100001
    (sum_of (λ (c : Child). weight_in l.sort (map module_of l.blocks) (instance_of c) + get_or l.sums c.of 0) (take l.child-index l.children))
