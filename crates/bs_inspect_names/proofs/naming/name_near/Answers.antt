use Rattle.std.proofs.Common.{map}
use Rattle.bs_inspect_names.specs.Mapping.{entry_in}
use Rattle.bs_inspect_names.proofs.TaggedLemmas.{name_is}
use Rattle.bs_inspect_names.proofs.naming.name_near.Goals as goal

pub returns : goal.returns
returns c =
    name_is (map entry_in c.args.lines.now.entries.items) c.args.key.now _ _ _ _ c.key_tag-tag.ensures c.in_ok-near.ensures c.as_slice.ensures.value
    c.in_ok-name.ensures
