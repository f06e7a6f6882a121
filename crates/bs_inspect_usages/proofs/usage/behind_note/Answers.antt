use Rattle.bs_inspect_usages.proofs.WordLemmas.{behind_found}
use Rattle.bs_inspect_usages.proofs.usage.behind_note.Goals as goal

pub returns-in-Some : goal.returns-in-Some
returns-in-Some c = behind_found _ _ _ _ _ _ c.in-Some.ensures.is c.word_or.ensures c.option_note.ensures
