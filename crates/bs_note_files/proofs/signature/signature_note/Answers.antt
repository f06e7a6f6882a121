use Rattle.std.proofs.Common.{sym}
use Rattle.bs_note_files.proofs.signature.signature_note.Goals as goal

pub returns-in-TooMany : goal.returns-in-TooMany
returns-in-TooMany c = rw (c.in-TooMany.is, sym c.from-in-TooMany.ensures, sym c.say.ensures) c.start_note.ensures
