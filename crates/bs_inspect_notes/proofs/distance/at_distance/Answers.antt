use Rattle.bs_inspect_notes.proofs.NearLemmas.{at_more}
use Rattle.bs_inspect_notes.proofs.distance.at_distance.Goals as goal

pub names-preserved : goal.names-preserved
names-preserved c =
    at_more c.args.name.now c.args.distance c.args.names.now _ _ c.names.other-index _ _ c.names-test.true c.names.invariant c.far-far.ensures
    c.in_ok-add_if.ensures
