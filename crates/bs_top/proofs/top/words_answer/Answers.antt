use Rattle.bs_top.proofs.top.words_answer.Goals as goal

pub returns-clause-note : goal.returns-clause-note
returns-clause-note c = c.words_note.ensures
