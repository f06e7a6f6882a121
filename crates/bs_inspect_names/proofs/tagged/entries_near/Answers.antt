use Rattle.bs_inspect_names.proofs.TaggedLemmas.{near_line_more}
use Rattle.bs_inspect_names.proofs.tagged.entries_near.Goals as goal

pub entries-preserved : goal.entries-preserved
entries-preserved c =
    near_line_more c.args.own c.args.whole c.args.entries.now c.args.owns.now c.args.wholes.now _ _ c.entries.i _ _ _ _ c.entries-test.true c.requires.owns
    c.requires.wholes c.tag_at-one.ensures c.tag_at-other.ensures c.is_line-near.ensures c.entries.invariant c.in_ok-add_line.ensures
