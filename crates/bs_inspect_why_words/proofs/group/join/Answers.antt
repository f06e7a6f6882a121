use Rattle.bs_inspect_why_words.proofs.GroupLemmas.{place_there}
use Rattle.bs_inspect_why_words.proofs.group.join.Goals as goal

pub grow-requires : goal.grow-requires
grow-requires c =
    place_there c.args.groups.now.items c.as_slice.result.now c.slice.result.now c.place_of.result c.in-Some.place c.as_slice.ensures.value
    c.place_of.ensures c.in-Some.is
