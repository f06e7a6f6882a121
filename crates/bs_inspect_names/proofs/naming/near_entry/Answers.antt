use Rattle.bs_inspect_names.specs.Mapping.{entry_in}
use Rattle.bs_inspect_names.proofs.TaggedLemmas.{near_answers}
use Rattle.bs_inspect_names.proofs.naming.near_entry.Goals as goal

pub returns : goal.returns
returns c =
    near_answers c.args.keys.now c.args.lines.now.entries.items c.args.number (entry_in c.args.entry) _ _ _ _ _ _ _ c.key_tag-own.ensures c.word_tag-whole.ensures
    c.in_ok-near.ensures c.in_ok-earlier.ensures c.as_slice.ensures.value c.as_slice-2.ensures.value c.judged.ensures
