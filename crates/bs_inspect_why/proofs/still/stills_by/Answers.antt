use Rattle.bs_inspect_why.proofs.StillLemmas.{stills_more}
use Rattle.bs_inspect_why.proofs.still.stills_by.Goals as goal

pub facts-preserved : goal.facts-preserved
facts-preserved c =
    stills_more c.args.cycles c.facts.i c.args.facts.now c.args.ages.now _ _ c.facts.stills.items c.put_still.new.stills.items
    c.facts-test.true c.requires c.facts.invariant c.in_ok-put_still.ensures
