use Rattle.std.proofs.Common.{◌≡◌, ◌++◌}
use Rattle.std.specs.List.{flat_map, range_with_len}
use Rattle.bs_reach_unrolled.specs.Unrolled.{links_of}
use Rattle.bs_reach_unrolled.proofs.links.add_all_links.Given as goal

abbrev pub invariant-frames : goal.invariant-frames
invariant-frames l = l.into ≡ l.initial.into ++ flat_map (links_of l.encoding) (range_with_len 0 l.c)
