use Rattle.bs_call.proofs.exiting.say_unread.Goals as goal

pub returns : goal.returns
returns g c = record { note = c.unread_note-note.result; is = c.unread_note-note.ensures; put = c.put_note.ensures }
