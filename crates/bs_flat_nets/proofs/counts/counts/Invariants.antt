use Rattle.std.proofs.Common.{◌≡◌, length, map}
use Rattle.bs_flat_nets.specs.Blocks.{module_of}
use Rattle.bs_flat_nets.specs.Tables.{FollowsFirst, count_by_parts}
use Rattle.bs_flat_nets.proofs.counts.counts.Given as goal

abbrev pub invariant-order : goal.invariant-order
invariant-order l = record {
  wide : length l.table.items ≡ length l.blocks;
  first : FollowsFirst (count_by_parts 400002) 1 (map module_of l.blocks) l.order l.k-index l.table.items;
}
