use Rattle.std.proofs.Common.{sym}
use Rattle.bs_note_files.proofs.dump.dump_note.Goals as goal

pub returns-in-NotReset : goal.returns-in-NotReset
returns-in-NotReset c = rw (c.in-NotReset.is, sym c.say.ensures) c.note_on.ensures
