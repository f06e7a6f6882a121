use Rattle.std.proofs.Common.{◌∙◌, refl}
use Rattle.bs_inspect_usages.specs.Usages.{others_hint}
use Rattle.bs_inspect_usages.proofs.WordLemmas.{paired}
use Rattle.bs_inspect_usages.proofs.usage.others_note.Goals as goal

pub returns : goal.returns
returns c = paired _ _ others_hint others_hint _ (c.deref.ensures.value ∙ c.in_ok-said.ensures) refl c.pair_note.ensures
