use Rattle.std.proofs.Common.{◌∙◌, refl}
use Rattle.bs_inspect_usages.specs.Usages.{hint}
use Rattle.bs_inspect_usages.proofs.WordLemmas.{paired}
use Rattle.bs_inspect_usages.proofs.usage.misspelt_note.Goals as goal

pub returns : goal.returns
returns c = paired _ _ hint hint _ (c.deref.ensures.value ∙ c.in_ok-said.ensures) refl c.pair_note.ensures
