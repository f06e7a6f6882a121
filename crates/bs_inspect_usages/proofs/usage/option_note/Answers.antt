use Rattle.std.proofs.Common.{◌∙◌}
use Rattle.bs_inspect_usages.proofs.WordLemmas.{paired}
use Rattle.bs_inspect_usages.proofs.usage.option_note.Goals as goal

pub returns : goal.returns
returns c = paired _ _ _ _ _ (c.deref.ensures.value ∙ c.in_ok-said.ensures) c.as_bytes.ensures.value c.pair_note.ensures
