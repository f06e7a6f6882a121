use Rattle.std.proofs.Common.{◌≡◌, length, map}
use Rattle.bs_flat_nets.specs.Blocks.{module_of}
use Rattle.bs_flat_nets.specs.Nets.{sum_below}
use Rattle.bs_flat_nets.specs.Sums.{weight_in}
use Rattle.bs_flat_nets.specs.Tables.{FollowsFirst}
use Rattle.bs_flat_nets.proofs.sums.sums.Given as goal

abbrev pub invariant-each : goal.invariant-each
invariant-each l = record {
  wide : length l.table.items ≡ length l.blocks;
  first : FollowsFirst (sum_below 100001 (weight_in l.sort (map module_of l.blocks))) 0 (map module_of l.blocks) l.order l.k-index l.table.items;
}
