use Rattle.bs_reach_unrolled.specs.Unrolled.{links_of}
use Rattle.bs_reach_unrolled.proofs.UnrollLemmas.{flat_step}
use Rattle.bs_reach_unrolled.proofs.links.add_all_links.Goals as goal

pub frames-preserved : goal.frames-preserved
frames-preserved c =
    flat_step (links_of c.args.encoding.now) c.args.into.now c.frames.into c.add_links_of.new.into c.frames.c c.in_ok-add_links_of.ensures
    c.frames.invariant
