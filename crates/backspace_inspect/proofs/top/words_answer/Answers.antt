use Rattle.bs_call.proofs.NoteLemmas.{made_due}
use Rattle.backspace_inspect.proofs.top.words_answer.Goals as goal

pub returns-clause-note : goal.returns-clause-note
returns-clause-note c = made_due _ _ _ c.note_made-note.ensures c.words_note.ensures
