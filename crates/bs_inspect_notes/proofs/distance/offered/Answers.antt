use Rattle.bs_inspect_notes.proofs.NearLemmas.{offered_more}
use Rattle.bs_inspect_notes.proofs.distance.offered.Goals as goal

pub names-preserved : goal.names-preserved
names-preserved c =
    offered_more c.args.name.now c.args.names.now _ _ c.names.other-index _ _ c.names-test.true c.names.invariant c.is_offered-keep.ensures
    c.in_ok-add_if.ensures
