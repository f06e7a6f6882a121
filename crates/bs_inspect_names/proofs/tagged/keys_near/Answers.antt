use Rattle.bs_inspect_names.proofs.TaggedLemmas.{near_key_more}
use Rattle.bs_inspect_names.proofs.tagged.keys_near.Goals as goal

pub keys-preserved : goal.keys-preserved
keys-preserved c =
    near_key_more c.args.own c.args.whole c.args.keys.now c.args.tags.now _ _ c.keys.i _ _ _ c.keys-test.true c.requires c.tag_at-tag.ensures
    c.is_either-near.ensures c.keys.invariant c.in_ok-add_key.ensures
