use Rattle.bs_call.proofs.AnswerLemmas.{says_sent}
use Rattle.bs_call.proofs.saying.deliver_noted.Goals as goal

pub returns-clause-said : goal.returns-clause-said
returns-clause-said g c =
    says_sent c.note_after-note.result c.deliver_counted-sent.ensures.counted c.note_after-note.ensures.whole c.note_after-note.ensures.cut c.put_note.ensures
