use Rattle.std.proofs.Common.{◌≡◌, ◌++◌}
use Rattle.std.specs.List.{flat_map, range_with_len}
use Rattle.bs_reach_unrolled.specs.Unrolled.{frame_of}
use Rattle.bs_reach_unrolled.proofs.frames.add_frames.Given as goal

abbrev pub invariant-frames : goal.invariant-frames
invariant-frames l = l.into ≡ l.initial.into ++ flat_map (frame_of l.encoding) (range_with_len 0 l.c)
