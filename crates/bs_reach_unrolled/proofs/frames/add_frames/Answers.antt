use Rattle.std.proofs.Common.{◌≡◌, ◌++◌, rules}
use Rattle.bs_reach_unrolled.specs.Unrolled.{frame_of}
use Rattle.bs_reach_unrolled.proofs.UnrollLemmas.{flat_step}
use Rattle.bs_reach_unrolled.proofs.frames.add_frames.Goals as goal

pub frames-preserved : goal.frames-preserved
frames-preserved c =
    let grown : c.add_frame.new.into ≡ c.frames.into ++ frame_of c.args.encoding.now c.frames.c = search rules in
    flat_step (frame_of c.args.encoding.now) c.args.into.now c.frames.into c.add_frame.new.into c.frames.c grown c.frames.invariant
