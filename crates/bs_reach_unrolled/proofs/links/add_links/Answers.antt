use Rattle.std.proofs.Common.{◌≡◌, ◌++◌, rules}
use Rattle.bs_encode.specs.Frame.{link}
use Rattle.bs_encode.proofs.FrameLemmas.{links_step}
use Rattle.bs_reach_unrolled.proofs.links.add_links.Goals as goal

pub places-preserved : goal.places-preserved
places-preserved c =
    let grown : c.add_link.new.into ≡ c.places.into ++ link c.index-next-i.result.variable c.index-states-i.result.variable = search rules in
    links_step c.args.into.now c.places.into c.add_link.new.into c.args.next.now c.args.states.now c.places.i c.index-next-i.result
    c.index-states-i.result c.requires c.places-test.true c.index-next-i.is c.index-states-i.is grown c.places.invariant
