use Rattle.std.proofs.Common.{◌≡◌, ◌++◌, rules}
use Rattle.bs_encode.specs.Frame.{link, under}
use Rattle.bs_encode.proofs.OlderLemmas.{under_step}
use Rattle.bs_encode.proofs.earlier_frame.add_links.Goals as goal

pub places-preserved : goal.places-preserved
places-preserved c =
    let grown : c.add_link.new.into ≡ c.places.into ++ under c.args.l (link c.index-next-i.result.variable c.index-states-i.result.variable) = search rules in
    under_step c.args.l c.args.into.now c.places.into c.add_link.new.into c.args.next.now c.args.states.now c.places.i c.index-next-i.result
    c.index-states-i.result c.requires c.places-test.true c.index-next-i.is c.index-states-i.is grown c.places.invariant
